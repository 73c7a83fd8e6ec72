use Rattle.time_texts.proofs.ExampleFacts.{timestamps_hold, far_timestamps_hold, bad_timestamps_hold}
use Rattle.time_texts.proofs.examples.timestamp_examples.Goals as goal

pub returns-clause-read : goal.returns-clause-read
returns-clause-read c = timestamps_hold

pub returns-clause-far : goal.returns-clause-far
returns-clause-far c = far_timestamps_hold

pub returns-clause-bad : goal.returns-clause-bad
returns-clause-bad c = bad_timestamps_hold
