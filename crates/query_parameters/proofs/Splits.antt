-- The first of the pieces between separators, and the parameters among pieces.
use Rattle.std.proofs.Common.{◌≡◌, ◌≢◌, ℕ, suc, ◌+◌, ◌<◌, Bool, true, false, cond, List, [], ◌∷◌, length, map, sym, refl, ap, ◌∙◌, subst, ⊎_elim, arith}
use Rattle.std.proofs.lemmas.Bool.{cond-true, cond-false, cases_eq, eq-eqb, ne_eqb, lt-ltb}
use Rattle.std.specs.Prelude.{filter}
use Rattle.form_urlencoded.specs.Form.{split_once, split, split_pair, onto_first, is_nonempty, raw_pairs, parse, decode}
use Rattle.form_urlencoded.proofs.FormLemmas.{split_once_before_same, split_once_after_same, split_once_before_other, split_once_after_other}
use Rattle.query_parameters.specs.QueryParameters.{EncodedParameter, parameter_in, numbered_from, parameters_of, encoded_pair, decoded_pair}

split_nothing : (s : ℕ) → split s [] ≡ [] ∷ []
unfolding split
split_nothing s = refl

split_same : (s : ℕ) (bs : List ℕ) → split s (s ∷ bs) ≡ [] ∷ split s bs
unfolding split
split_same s bs = cond-true _ _ _ (eq-eqb s s refl)

split_other : (s b : ℕ) (bs : List ℕ) → b ≢ s → split s (b ∷ bs) ≡ onto_first b (split s bs)
unfolding split
split_other s b bs other = cond-false _ _ _ (ne_eqb b s other)

-- with a separator the first piece is what stands before it, and the others are those of what stands behind it
pub found : (s : ℕ) (bs : List ℕ) → length ((split_once s bs).0) ≢ length bs
    → split s bs ≡ (split_once s bs).0 ∷ split s ((split_once s bs).1)
found s [] h = absurd (h refl)
found s (b ∷ bs) h =
    ⊎_elim
    (λ e. subst (λ x. split s (x ∷ bs) ≡ (split_once s (x ∷ bs)).0 ∷ split s ((split_once s (x ∷ bs)).1)) (sym e)
    (rw (split_once_before_same s bs, split_once_after_same s bs) (split_same s bs)))
    (λ other.
    let later = found s bs (λ k. h (ap length (split_once_before_other s b bs other) ∙ ap suc k)) in
    rw (split_once_before_other s b bs other, split_once_after_other s b bs other) (split_other s b bs other
    ∙ ap (onto_first b) later))
    (cases_eq b s)

-- without one the bytes are the only piece
pub alone : (s : ℕ) (bs : List ℕ) → length ((split_once s bs).0) ≡ length bs → split s bs
    ≡ (split_once s bs).0 ∷ []
alone s [] h = split_nothing s
alone s (b ∷ bs) h =
    ⊎_elim
    (λ e. let front : length ((split_once s (b ∷ bs)).0) ≡ 0 = ap (λ x. length ((split_once s (x ∷ bs)).0)) e
    ∙ ap length (split_once_before_same s bs) in absurd (omega (arith, h, front)))
    (λ other.
    let shorter : suc (length ((split_once s bs).0)) ≡ suc (length bs) =
    sym (ap length (split_once_before_other s b bs other)) ∙ h in
    rw (split_once_before_other s b bs other) (split_other s b bs other
    ∙ ap (onto_first b) (alone s bs (omega (arith, shorter)))))
    (cases_eq b s)

-- what stands before and behind a separator is shorter than both with it
pub shorter : (s : ℕ) (bs : List ℕ) → length ((split_once s bs).0) ≢ length bs
    → length ((split_once s bs).0) + length ((split_once s bs).1) < length bs
shorter s [] h = absurd (h refl)
shorter s (b ∷ bs) h =
    ⊎_elim
    (λ e. subst (λ x. length ((split_once s (x ∷ bs)).0) + length ((split_once s (x ∷ bs)).1) < suc (length bs)) (sym e)
    (rw (split_once_before_same s bs, split_once_after_same s bs) (omega arith)))
    (λ other.
    let later = shorter s bs (λ k. h (ap length (split_once_before_other s b bs other) ∙ ap suc k)) in
    rw (split_once_before_other s b bs other, split_once_after_other s b bs other) (omega (arith, later)))
    (cases_eq b s)

-- an empty piece counts, and is no parameter
pub empty_piece : (n : ℕ) (piece : List ℕ) (pieces : List (List ℕ)) → length piece ≡ 0
    → numbered_from n (piece ∷ pieces) ≡ numbered_from (suc n) pieces
empty_piece n [] pieces empty = refl
empty_piece n (b ∷ piece) pieces empty = absurd (omega (arith, empty))

-- any other piece is a parameter
pub full_piece : (n : ℕ) (piece : List ℕ) (pieces : List (List ℕ)) → 0 < length piece
    → numbered_from n (piece ∷ pieces) ≡ parameter_in n piece ∷ numbered_from (suc n) pieces
full_piece n piece pieces full = cond-true _ _ _ (lt-ltb 0 (length piece) full)

-- without numbers the parameters among pieces are the pairs of those that are not empty
pairs_numbered : (n : ℕ) (pieces : List (List ℕ)) → map encoded_pair (numbered_from n pieces)
    ≡ map split_pair (filter is_nonempty pieces)
pairs_numbered n [] = refl
pairs_numbered n (piece ∷ pieces) = by_test (is_nonempty piece) (pairs_numbered (suc n) pieces)
  where
    by_test : (t : Bool) → map encoded_pair (numbered_from (suc n) pieces) ≡ map split_pair (filter is_nonempty pieces)
        → map encoded_pair (cond t (parameter_in n piece ∷ numbered_from (suc n) pieces) (numbered_from (suc n) pieces))
        ≡ map split_pair (cond t (piece ∷ filter is_nonempty pieces) (filter is_nonempty pieces))
    by_test true h = ap (λ l. split_pair piece ∷ l) h
    by_test false h = h

-- the parameters' names and values, as they stand in the query
pub encoded_pairs : (query : List ℕ) → map encoded_pair (parameters_of query) ≡ raw_pairs query
unfolding raw_pairs
encoded_pairs query = pairs_numbered 1 (split 38 query)

decoded_again : (ps : List EncodedParameter) → map decoded_pair ps
    ≡ map (λ (p : List ℕ × List ℕ). (decode p.0, decode p.1)) (map encoded_pair ps)
decoded_again [] = refl
decoded_again (p ∷ ps) = ap (λ l. decoded_pair p ∷ l) (decoded_again ps)

-- the names and values that parameters stand for
pub decoded_pairs : (query : List ℕ) → map decoded_pair (parameters_of query) ≡ parse query
decoded_pairs query =
    decoded_again (parameters_of query)
    ∙ ap (map (λ (p : List ℕ × List ℕ). (decode p.0, decode p.1))) (encoded_pairs query)
