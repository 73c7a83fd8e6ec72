use Rattle.std.proofs.Common.{refl}
use Rattle.grpc_frames.proofs.examples.framing_examples.Goals as goal

pub returns : goal.returns
returns c = refl
