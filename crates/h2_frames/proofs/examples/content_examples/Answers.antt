use Rattle.h2_frames.proofs.ExampleFacts.{contents_lie}
use Rattle.h2_frames.proofs.examples.content_examples.Goals as goal

pub returns : goal.returns
returns c = contents_lie
