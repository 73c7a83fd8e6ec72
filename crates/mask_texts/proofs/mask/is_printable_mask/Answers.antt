use Rattle.std.proofs.Common.{◌≡◌, ◌∙◌, sym, refl, ℕ, Bool, true, false, cond, List, Some, None, is_some}
use Rattle.std.proofs.lemmas.List.Folds.{list_all-map}
use Rattle.std.specs.List.{list_all}
use Rattle.mask_texts.specs.MaskItems.{item_path, item_paths}
use Rattle.mask_texts.specs.MaskTexts.{is_printable_path, joined_paths}
use Rattle.mask_texts.proofs.mask.is_printable_mask.Goals as goal

-- a text under a condition is there where that holds
some_if : (b : Bool) (text : List ℕ) → b ≡ is_some (cond b (Some text) None)
some_if true text = refl
some_if false text = refl

pub returns : goal.returns
returns c =
    let paths = item_paths c.args.paths.now in
    c.are_printable.ensures
    ∙ (sym (list_all-map is_printable_path item_path c.args.paths.now)
    ∙ some_if (list_all is_printable_path paths) (joined_paths paths))
