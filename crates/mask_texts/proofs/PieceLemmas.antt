-- The first of the pieces between commas.
use Rattle.std.proofs.Common.{◌≡◌, ◌+◌, ◌-◌, ◌<◌, ℕ, List, [], ◌∷◌, length, take, drop, sym, ap, ◌∙◌, subst}
use Rattle.std.proofs.lemmas.List.{take_rest}
use Rattle.std.proofs.lemmas.List.Splits.{slice_split_first, slice_split_none}
use Rattle.std.proofs.lemmas.List.Sums.{fails_before_first}
use Rattle.std.specs.List.{position_or_len, slice_split}
use Rattle.mask_texts.specs.MaskTexts.{is_comma}

-- with a comma the first piece is what stands before it, and the others are those of what stands behind it
pub at_comma : (text : List ℕ) (n : ℕ) → n < length text → position_or_len is_comma text ≡ n
    → slice_split is_comma text
    ≡ take n text ∷ slice_split is_comma (take (length text - (n + 1)) (drop (n + 1) text))
at_comma text n within found =
    subst (λ k. slice_split is_comma text ≡ take k text ∷ slice_split is_comma (drop (k + 1) text)) found
    (slice_split_first is_comma text 0 (subst (λ k. k < length text) (sym found) within))
    ∙ ap (λ rest. take n text ∷ slice_split is_comma rest) (sym (take_rest text (n + 1)))

-- without one the text is the only piece
pub alone : (text : List ℕ) → position_or_len is_comma text ≡ length text → slice_split is_comma text ≡ text ∷ []
alone text none =
    slice_split_none is_comma text (λ k d within.
    fails_before_first is_comma text k d (subst (λ n. k < n) (sym none) within))
