use Rattle.std.proofs.Common.{◌≡◌, ◌++◌, ◌+◌, ◌*◌, ℕ, List, length}
use Rattle.json_events.specs.ReaderAnswers.{pending_word}
use Rattle.json_events.specs.ReaderRuns.{HasTold}
use Rattle.json_events.proofs.whole_text.feed_all.Given as goal

abbrev pub invariant-feeding : goal.invariant-feeding
invariant-feeding l = record {
  taken : List ℕ;
  piece : taken ++ l.rest ≡ l.piece;
  told : (before behind : List ℕ) → HasTold l.initial.reader (before ++ (l.piece ++ behind)) before l.initial.out
      → HasTold l.reader (before ++ (l.piece ++ behind)) (before ++ taken) l.out;
}

abbrev pub decreases-feeding : goal.decreases-feeding
decreases-feeding l = 2 * length l.rest + pending_word l.reader.reading.word
