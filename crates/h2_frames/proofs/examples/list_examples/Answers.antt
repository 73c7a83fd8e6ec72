use Rattle.h2_frames.proofs.ExampleFacts.{lists_are_cut}
use Rattle.h2_frames.proofs.examples.list_examples.Goals as goal

pub returns : goal.returns
returns c = lists_are_cut
