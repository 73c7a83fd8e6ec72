use Rattle.std.proofs.Common.{take}
use Rattle.std.specs.List.{concat}
use Rattle.json_events.specs.ReaderRuns.{HasTold}
use Rattle.json_events.proofs.whole_text.read_text.Given as goal

abbrev pub invariant-loop-piece : goal.invariant-loop-piece
invariant-loop-piece l = record {
  told : HasTold l.reader (concat l.pieces) (concat (take l.piece-index l.pieces)) l.out;
}
