use Rattle.time_texts.proofs.ExampleFacts.{durations_hold, shown_durations_hold}
use Rattle.time_texts.proofs.examples.duration_examples.Goals as goal

pub returns-clause-read : goal.returns-clause-read
returns-clause-read c = durations_hold

pub returns-clause-shown : goal.returns-clause-shown
returns-clause-shown c = shown_durations_hold
