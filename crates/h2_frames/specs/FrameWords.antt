-- The code's own words as those of the definitions.
use Rattle.h2_frames.specs.declared.verdict.Verdict.{Verdict as GivenVerdict}
use Rattle.h2_frames.specs.declared.verdict.Verdict.TheVariants as given
use Rattle.h2_frames.specs.declared.verdict.Judgement.{Judgement as GivenJudgement}
use Rattle.h2_frames.specs.declared.verdict.Judgement.TheVariants as judged
use Rattle.std.specs.Prelude.{◌≤◌, ◌<◌, ℕ, List, length, true, false, Option, Some, None}
use Rattle.h2_frames.specs.declared.context.Context.{Context as GivenContext}
use Rattle.h2_frames.specs.declared.context.Context.TheVariants as contexts
use Rattle.h2_frames.specs.declared.fault.H2Fault.{H2Fault}
use Rattle.h2_frames.specs.declared.stage.Stage.{Stage}
use Rattle.h2_frames.specs.declared.stage.Stage.TheVariants as stages
use Rattle.h2_frames.specs.FrameErrors.{Context, Verdict, Undecided, Keeps, Breaks, Judgement, Open, Fine, Fault}

-- a verdict of a rule
abbrev pub verdict_of : GivenVerdict → Verdict
verdict_of given.Undecided = Undecided
verdict_of given.Keeps = Keeps
verdict_of given.Breaks = Breaks

-- a judgement of all rules
abbrev pub judgement_of : GivenJudgement → Judgement
judgement_of judged.Open = Open
judgement_of judged.Fine = Fine
judgement_of (judged.Fault code) = Fault code

-- where a frame stands
abbrev pub context_of : GivenContext → Context
context_of contexts.First = record { first = true; block = None }
context_of contexts.Between = record { first = false; block = None }
context_of (contexts.InBlock stream) = record { first = false; block = Some stream }

-- how much of the payload is to come
abbrev pub left_in : Stage → ℕ
left_in stages.Head = 0
left_in (stages.Payload left) = left
left_in (stages.Refused fault) = 0

-- the fault that came
abbrev pub fault_in : Stage → Option H2Fault
fault_in stages.Head = None
fault_in (stages.Payload left) = None
fault_in (stages.Refused fault) = Some fault

-- a head is whole with its ninth byte
abbrev pub IsHeadOf : Stage → List ℕ → Type 0
IsHeadOf stages.Head head = length head < 9
IsHeadOf (stages.Payload left) head = 9 ≤ length head
IsHeadOf (stages.Refused fault) head = Unit {0}
