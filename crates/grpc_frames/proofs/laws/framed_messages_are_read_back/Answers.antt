use Rattle.grpc_frames.proofs.FramedLemmas.{deframed_of-all_length_prefixed}
use Rattle.grpc_frames.proofs.laws.framed_messages_are_read_back.Goals as goal

pub returns : goal.returns
returns c = deframed_of-all_length_prefixed
