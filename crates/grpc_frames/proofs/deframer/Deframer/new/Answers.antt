use Rattle.std.proofs.Common.{refl}
use Rattle.grpc_frames.specs.LengthPrefixed.{deframed_of, deframed_within}
use Rattle.grpc_frames.proofs.deframer.Deframer.new.Goals as goal

pub returns-clause-stands : goal.returns-clause-stands
unfolding deframed_of deframed_within
returns-clause-stands c = let e = c.new.ensures.items in rw e (record { by = record { rest = refl; error = refl; place = refl } })
