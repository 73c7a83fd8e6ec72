use Rattle.grpc_frames.proofs.PieceLemmas.{run_tells, run_refuses}
use Rattle.grpc_frames.proofs.laws.pieces_change_nothing.Goals as goal

pub returns-clause-told : goal.returns-clause-told
returns-clause-told c = run_tells

pub returns-clause-refused : goal.returns-clause-refused
returns-clause-refused c = run_refuses
