use Rattle.std.proofs.Common.{◌≡◌, ◌++◌, drop, false}
use Rattle.base.specs.Extends.{Extends}
use Rattle.mask_texts.specs.MaskTexts.{camel_bytes}
use Rattle.mask_texts.proofs.paths.put_path.Given as goal

-- what was written, and what is left to write, is all that is to be written
abbrev pub invariant-loop-byte : goal.invariant-loop-byte
invariant-loop-byte l = record {
  grown : Extends l.initial.out.items l.out.items;
  written : l.out.items ++ camel_bytes l.is_after (drop l.byte-index l.path) ≡ l.initial.out.items ++ camel_bytes false l.path;
}
