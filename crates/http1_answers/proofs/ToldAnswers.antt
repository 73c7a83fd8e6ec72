-- Each refusal but one is answered with a text.
use Rattle.std.proofs.Common.{◌≡◌, ◌++◌, Bool, List, ℕ, refl}
use Rattle.gate_world.specs.Refusals.{row_of}
use Rattle.gate_world.specs.declared.refusal.Refusal.{Refusal}
use Rattle.gate_world.specs.declared.refusal.Refusal.TheVariants as refusals
use Rattle.http1_answers.specs.RefusalAnswers.{allow_line, close_line, refusal_answer, refusal_body, told_answer}

-- the answer with a text
pub told_default : (r : Refusal) (close : Bool) (allow : List ℕ) → ¬ (r ≡ refusals.MethodNotServed)
    → refusal_answer r close allow
    ≡ told_answer (row_of r).http_status (allow_line r allow ++ close_line close) (refusal_body r)
told_default refusals.HeadNotReadable close allow h = refl
told_default refusals.HeadTooLong close allow h = refl
told_default refusals.VersionNotServed close allow h = refl
told_default refusals.MethodNotServed close allow h = absurd (h refl)
told_default refusals.HostField close allow h = refl
told_default refusals.BodyLengthFields close allow h = refl
told_default refusals.PathUnknown close allow h = refl
told_default refusals.MethodNotAllowed close allow h = refl
told_default refusals.ContentType close allow h = refl
told_default refusals.GrpcTimeout close allow h = refl
told_default (refusals.PathValue n f) close allow h = refl
told_default (refusals.QueryParameter n f) close allow h = refl
told_default refusals.UpstreamNotUsable close allow h = refl
told_default refusals.BodyFraming close allow h = refl
told_default refusals.BodyTooLong close allow h = refl
told_default (refusals.BodyAt n f) close allow h = refl
told_default refusals.MessageTooLong close allow h = refl
told_default refusals.NoMemory close allow h = refl
