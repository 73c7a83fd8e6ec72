use Rattle.h2_frames.proofs.ExampleFacts.{flags_are_judged}
use Rattle.h2_frames.proofs.examples.flag_examples.Goals as goal

pub returns : goal.returns
returns c = flags_are_judged
