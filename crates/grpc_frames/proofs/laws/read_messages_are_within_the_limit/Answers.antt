use Rattle.grpc_frames.proofs.LimitLemmas.{deframed_of_within}
use Rattle.grpc_frames.proofs.laws.read_messages_are_within_the_limit.Goals as goal

pub returns : goal.returns
returns c = deframed_of_within
