use Rattle.std.proofs.Common.{◌≡◌, ◌∷◌, ◌++◌, drop}
use Rattle.base.specs.Extends.{Extends}
use Rattle.std.specs.List.{flat_map}
use Rattle.mask_texts.specs.MaskItems.{item_path}
use Rattle.mask_texts.specs.MaskTexts.{camel_path}
use Rattle.mask_texts.proofs.mask.put_others.Given as goal

-- what was written, and what is left to write, is all that is to be written
abbrev pub invariant-loop-item : goal.invariant-loop-item
invariant-loop-item l = record {
  grown : Extends l.initial.out.items l.out.items;
  written : l.out.items ++ flat_map (λ i. 44 ∷ camel_path (item_path i)) (drop l.item-index l.paths) ≡ l.initial.out.items ++ flat_map (λ i. 44 ∷ camel_path (item_path i)) l.paths;
}
