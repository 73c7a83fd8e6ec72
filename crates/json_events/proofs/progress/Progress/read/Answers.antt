use Rattle.std.proofs.Common.{ℕ, ◌+◌, ◌≤◌, List, length, take, drop, Option, None, Some, sym, ap, subst, arith}
use Rattle.std.proofs.lemmas.List.{take-append-drop, length-drop}
use Rattle.std.proofs.Math.Seq.{take-add}
use Rattle.json_events.specs.declared.token.Spanned.{Spanned}
use Rattle.json_events.specs.declared.state.WordState.{WordState}
use Rattle.json_events.specs.ReaderState.{Reading}
use Rattle.json_events.specs.ReaderAnswers.{StandsOn, ReadsOn, IsFaultBehind, pending_word}
use Rattle.json_events.specs.ProgressSeen.{reading_of}
use Rattle.json_events.proofs.reading.StandLemmas.{on_then, fault_then}
use Rattle.json_events.proofs.reading.ReadLemmas.{rest_is, reads_then, reads_stand}
use Rattle.json_events.proofs.progress.Progress.read.Goals as goal

-- more of the bytes, behind so many
more_of : (old now new : Reading) (bytes : List ℕ) (k n : ℕ) (token : Option Spanned) → StandsOn old now (take k bytes) None → StandsOn now new (take n (drop k bytes)) token → StandsOn old new (take (k + n) bytes) token
more_of old now new bytes k n token f g = subst (λ (l : List ℕ). StandsOn old new l token) (sym (take-add k n bytes)) (on_then old now new (take k bytes) (take n (drop k bytes)) token f g)

pub returns-in-Err-clause-fault : goal.returns-in-Err-clause-fault
returns-in-Err-clause-fault c =
    let bytes = c.args.bytes.now in
    let k = c.bytes.taken in
    let f = c.in-Err.fault in
    let old = reading_of c.args.self.now in
    let now = reading_of c.bytes.self in
    let rest : IsFaultBehind f now (drop k bytes) = subst (λ (l : List ℕ). IsFaultBehind f now l) (rest_is bytes k) c.in-Err.ensures.fault in
    subst (λ (l : List ℕ). IsFaultBehind f old l) (take-append-drop k bytes) (fault_then f old now (take k bytes) (drop k bytes) c.bytes.invariant.stands rest)

pending_small : (w : Option WordState) → pending_word w ≤ 1
pending_small None = omega arith
pending_small (Some l) = omega arith

pub bytes-preserved : goal.bytes-preserved
bytes-preserved c =
    let e = c.in-Ok.ensures in
    let fed = c.in-Ok.field-0 in
    let bytes = c.args.bytes.now in
    let k = c.bytes.taken in
    let now = reading_of c.bytes.self in
    let new = reading_of c.run.new.self in
    let rest : ReadsOn now new (drop k bytes) fed.taken fed.token = subst (λ (l : List ℕ). ReadsOn now new l fed.taken fed.token) (rest_is bytes k) e.reads in
    let stands = reads_stand now new (drop k bytes) fed.taken fed.token rest in
    let quiet : StandsOn now new (take fed.taken (drop k bytes)) None = subst (λ t. StandsOn now new (take fed.taken (drop k bytes)) t) c.in-None.is stands in
    record {
      within = omega (arith, e.within, ap length (rest_is bytes k), length-drop k bytes);
      readable = e.readable;
      stands = more_of (reading_of c.args.self.now) now new bytes k fed.taken None c.bytes.invariant.stands quiet;
      pending = omega (arith, pending_small new.word, e.moves.0 c.in-None.is);
    }

pub returns-in-Some-clause-reads : goal.returns-in-Some-clause-reads
returns-in-Some-clause-reads c =
    let e = c.in-Ok.ensures in
    let fed = c.in-Ok.field-0 in
    let bytes = c.args.bytes.now in
    let k = c.bytes.taken in
    let now = reading_of c.bytes.self in
    let new = reading_of c.run.new.self in
    let rest : ReadsOn now new (drop k bytes) fed.taken fed.token = subst (λ (l : List ℕ). ReadsOn now new l fed.taken fed.token) (rest_is bytes k) e.reads in
    let given : ReadsOn now new (drop k bytes) fed.taken (Some c.in-Some.given) = subst (λ t. ReadsOn now new (drop k bytes) fed.taken t) c.in-Some.is rest in
    reads_then (reading_of c.args.self.now) now new bytes k fed.taken (Some c.in-Some.given) c.bytes.invariant.stands given
