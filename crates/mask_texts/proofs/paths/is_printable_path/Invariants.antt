use Rattle.std.proofs.Common.{◌≡◌, drop, false}
use Rattle.mask_texts.specs.MaskTexts.{are_printable}
use Rattle.mask_texts.proofs.paths.is_printable_path.Given as goal

abbrev pub invariant-loop-byte : goal.invariant-loop-byte
invariant-loop-byte l = are_printable l.is_after (drop l.byte-index l.path) ≡ are_printable false l.path
