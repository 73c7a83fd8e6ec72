-- The first item that passes a test, in lists of one or two.
use Rattle.std.proofs.Common.{◌≡◌, ◌||◌, Bool, true, false, cond, List, [], ◌∷◌, length, Some, None, ap, ◌∙◌, ⊎_elim, arith}
use Rattle.std.proofs.lemmas.Bool.{both_ways, or_cases}
use Rattle.std.specs.List.{find, list_any}

module _ {X : Type 0} (r p : X → Bool) (first : (x : X) → p x ≡ true → r x ≡ true) where
  -- the one item of a list, where one passes
  pub first_of_one : (xs : List X) → length xs ≡ 1 → list_any p xs ≡ true → (x : X) × (p x ≡ true) × (find r xs ≡ Some x)
  first_of_one [] l a = absurd (cc a)
  first_of_one (x ∷ []) l a = ⊎_elim (λ e. (x, e, ap (λ b. cond b (Some x) None) (first x e))) (λ e. absurd (cc e)) (or_cases (p x) false a)
  first_of_one (x ∷ y ∷ xs) l a = absurd (omega arith)

  -- of two items, where one passes, and one passes another test and does not come first by that
  pub first_of_two : (q : X → Bool) → ((x : X) → q x ≡ true → r x ≡ false) → (xs : List X) → length xs ≡ 2 → list_any p xs ≡ true → list_any q xs ≡ true
      → (x : X) × (p x ≡ true) × (find r xs ≡ Some x)
  first_of_two q other [] l a b = absurd (cc a)
  first_of_two q other (x ∷ []) l a b = absurd (omega arith)
  first_of_two q other (x ∷ y ∷ []) l a b =
      ⊎_elim (λ e. (x, e, ap (λ c. cond c (Some x) (cond (r y) (Some y) None)) (first x e)))
      (λ rest. ⊎_elim (λ e. (y, e, ap (λ c. cond c (Some x) (cond (r y) (Some y) None)) (not_first e) ∙ ap (λ c. cond c (Some y) None) (first y e))) (λ e. absurd (cc e)) (or_cases (p y) false rest))
      (or_cases (p x) (p y || false) a)
    where
      not_first : p y ≡ true → r x ≡ false
      not_first e =
          ⊎_elim (λ f. other x f)
          (λ rest. ⊎_elim (λ f. absurd (both_ways (r y) (other y f) (first y e))) (λ f. absurd (cc f)) (or_cases (q y) false rest))
          (or_cases (q x) (q y || false) b)
  first_of_two q other (x ∷ y ∷ z ∷ xs) l a b = absurd (omega arith)
