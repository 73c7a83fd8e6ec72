-- What is read is what was framed, and what is left begins with less than a message or an error.
use Rattle.grpc_frames.proofs.JoinedLemmas.{deframed_of_joined}
use Rattle.grpc_frames.proofs.SplitLemmas.{deframed_of_ends}
use Rattle.grpc_frames.proofs.laws.read_messages_were_framed.Goals as goal

pub returns-clause-joined : goal.returns-clause-joined
returns-clause-joined c = deframed_of_joined

pub returns-clause-rest : goal.returns-clause-rest
returns-clause-rest c = λ limit bytes. (deframed_of_ends limit bytes).by
