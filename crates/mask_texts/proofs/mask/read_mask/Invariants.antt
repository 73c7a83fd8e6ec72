use Rattle.std.proofs.Common.{◌≡◌, [], length}
use Rattle.mask_texts.specs.MaskItems.{pieces_left}
use Rattle.mask_texts.specs.MaskTexts.{pieces_of}
use Rattle.mask_texts.proofs.ReadingLemmas.{items_behind}
use Rattle.mask_texts.proofs.mask.read_mask.Given as goal

-- what was read, and what is left to read, is all that is to be read
abbrev pub invariant-loop-left : goal.invariant-loop-left
invariant-loop-left l = items_behind l.items (pieces_left l.left) ≡ items_behind [] (pieces_of l.text)

abbrev pub decreases-loop-left : goal.decreases-loop-left
decreases-loop-left l = length (pieces_left l.left)
