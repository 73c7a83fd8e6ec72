use Rattle.h2_frames.proofs.ExampleFacts.{order_is_judged}
use Rattle.h2_frames.proofs.examples.order_examples.Goals as goal

pub returns : goal.returns
returns c = order_is_judged
