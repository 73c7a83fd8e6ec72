-- The fault that is told is the one at the front of the bytes that are kept.
use Rattle.std.proofs.Common.{refl}
use Rattle.grpc_frames.specs.DeframerSteps.{error_of}
use Rattle.grpc_frames.proofs.FaultLemmas.{of_bytes}
use Rattle.grpc_frames.proofs.deframer.Deframer.step.Goals as goal

pub returns-in-Ok-Faulty-clause-step : goal.returns-in-Ok-Faulty-clause-step
returns-in-Ok-Faulty-clause-step c =
    let broken = rw c.in-Ok-Faulty.field-0-is at c.in-Ok-Faulty.ensures.progress in
    rw (← c.self.view_is) (refl, refl, of_bytes c.at-refused.result (error_of c.in-Ok-Faulty.fault, broken, c.at-refused.ensures.fault))
