use Rattle.h2_frames.proofs.ExampleFacts.{sizes_are_judged}
use Rattle.h2_frames.proofs.examples.size_examples.Goals as goal

pub returns : goal.returns
returns c = sizes_are_judged
