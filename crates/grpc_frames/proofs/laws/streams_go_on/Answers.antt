use Rattle.grpc_frames.proofs.SplitLemmas.{deframed_of-append, stays_malformed}
use Rattle.grpc_frames.proofs.laws.streams_go_on.Goals as goal

pub returns-clause-joined : goal.returns-clause-joined
returns-clause-joined c = deframed_of-append

pub returns-clause-error : goal.returns-clause-error
returns-clause-error c = stays_malformed
