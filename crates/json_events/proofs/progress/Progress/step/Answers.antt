use Rattle.std.proofs.Common.{◌≡◌, ℕ, List, get_or, subst}
use Rattle.std.proofs.lemmas.List.{take_more}
use Rattle.json_events.specs.declared.step.Step.{Step}
use Rattle.json_events.specs.declared.step.Step.TheVariants as step
use Rattle.json_events.specs.ReadingMoves.{moved_at}
use Rattle.json_events.specs.ReaderState.{Reading, config_at}
use Rattle.json_events.specs.ReaderAnswers.{ReadsOn}
use Rattle.json_events.specs.ProgressSeen.{reading_of, started, step_seen}
use Rattle.json_events.proofs.reading.StandLemmas.{step_readable, step_token, refused_stands, on_nothing}
use Rattle.json_events.proofs.reading.ReadLemmas.{step_taken, step_reads, gives_no_number}
use Rattle.json_events.proofs.progress.Progress.step.Goals as goal

stepped : (old new : Reading) (bytes : List ℕ) (s t : Step) → s ≡ t → ReadsOn old new bytes (step_taken s) (step_token s) → ReadsOn old new bytes (step_taken t) (step_token t)
stepped old new bytes s t e h = subst (λ x. ReadsOn old new bytes (step_taken x) (step_token x)) e h

pub returns-in-Err-clause-fault : goal.returns-in-Err-clause-fault
returns-in-Err-clause-fault c =
    let old = reading_of c.args.self.now in
    refused_stands c.in-Err.fault old old c.args.bytes.now 0 _ c.requires.some (take_more c.args.bytes.now 0 0 c.requires.some) c.requires.readable (on_nothing old) c.in-Err.ensures.err

pub returns-in-Ok-Takes-clause-readable : goal.returns-in-Ok-Takes-clause-readable
returns-in-Ok-Takes-clause-readable c =
    let e = c.in-Ok-Takes.ensures in
    step_readable (reading_of c.args.self.now) (reading_of c.advance.new.self) _ c.in-Ok-Takes.field-0 c.requires.readable e.shallow e.holds e.ok

pub returns-in-Ok-Takes-clause-reads : goal.returns-in-Ok-Takes-clause-reads
returns-in-Ok-Takes-clause-reads c =
    let e = c.in-Ok-Takes.ensures in
    let old = reading_of c.args.self.now in
    let new = reading_of c.advance.new.self in
    let bytes = c.args.bytes.now in
    let all = step_reads old new bytes _ c.in-Ok-Takes.field-0 c.requires.some (take_more bytes 0 0 c.requires.some) c.requires.readable e.shallow e.ok e.at e.from e.placed in
    stepped old new bytes _ step.Takes c.in-Ok-Takes.field-0-is all

pub returns-in-Ok-Gives-clause-readable : goal.returns-in-Ok-Gives-clause-readable
returns-in-Ok-Gives-clause-readable c =
    let e = c.in-Ok-Gives.ensures in
    step_readable (reading_of c.args.self.now) (reading_of c.advance.new.self) _ c.in-Ok-Gives.field-0 c.requires.readable e.shallow e.holds e.ok

pub returns-in-Ok-Gives-clause-reads : goal.returns-in-Ok-Gives-clause-reads
returns-in-Ok-Gives-clause-reads c =
    let e = c.in-Ok-Gives.ensures in
    let old = reading_of c.args.self.now in
    let new = reading_of c.advance.new.self in
    let bytes = c.args.bytes.now in
    let all = step_reads old new bytes _ c.in-Ok-Gives.field-0 c.requires.some (take_more bytes 0 0 c.requires.some) c.requires.readable e.shallow e.ok e.at e.from e.placed in
    stepped old new bytes _ (step.Gives c.in-Ok-Gives.token) c.in-Ok-Gives.field-0-is all

pub returns-in-Ok-Before-clause-reads : goal.returns-in-Ok-Before-clause-reads
returns-in-Ok-Before-clause-reads c =
    let e = c.in-Ok-Before.ensures in
    let old = reading_of c.args.self.now in
    let new = reading_of c.advance.new.self in
    let bytes = c.args.bytes.now in
    let all = step_reads old new bytes _ c.in-Ok-Before.field-0 c.requires.some (take_more bytes 0 0 c.requires.some) c.requires.readable e.shallow e.ok e.at e.from e.placed in
    stepped old new bytes _ (step.Before c.in-Ok-Before.token) c.in-Ok-Before.field-0-is all

pub returns-in-Ok-Gives-clause-number : goal.returns-in-Ok-Gives-clause-number
returns-in-Ok-Gives-clause-number c =
    let old = reading_of c.args.self.now in
    let new = reading_of c.advance.new.self in
    let b = get_or c.args.bytes.now 0 0 in
    let moves = subst (λ x. (from at : ℕ) → step_seen x new (started old.word from at) at ≡ moved_at (config_at old from at) b) c.in-Ok-Gives.field-0-is c.in-Ok-Gives.ensures.ok in
    λ h. absurd (gives_no_number old new b c.in-Ok-Gives.token moves h)
