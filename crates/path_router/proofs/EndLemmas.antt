-- A part of a text that ends before the first byte of a kind.
use Rattle.std.proofs.Common.{◌≡◌, ◌<◌, ◌≤◌, ◌+◌, ◌++◌, ℕ, zero, suc, List, [], ◌∷◌, length, take, drop, get_or, refl, sym, ap, ◌∙◌, subst, arith}
use Rattle.std.specs.List.{AllByRecursion}
use Rattle.path_router.specs.TargetPath.{IsEndedBy}

-- what holds of the first items and of the next holds of one more
pub each_step : {X : Type 0} (P : X → Type 0) (n : ℕ) (xs : List X) (d : X) → n < length xs
    → AllByRecursion P (take n xs) → P (get_or xs n d) → AllByRecursion P (take (n + 1) xs)
each_step {X} P n xs d h a p = let on : suc n ≡ n + 1 = omega arith in
    subst (λ k. AllByRecursion P (take k xs)) on (next n xs h a p)
  where
    next : (n : ℕ) (xs : List X) → n < length xs → AllByRecursion P (take n xs) → P (get_or xs n d)
        → AllByRecursion P (take (suc n) xs)
    next n [] h a p = absurd (omega arith)
    next zero (x ∷ xs) h a p = (p, tt)
    next (suc n) (x ∷ xs) h a p = (a.0, next n xs (omega arith) a.1 p)

-- a part ends at an offset where a byte of the kind stands or nothing follows
pub ended_at : (Ends : ℕ → Type 0) (n : ℕ) (xs : List ℕ) (d : ℕ) → n ≤ length xs → (n < length xs → Ends (get_or xs n d))
    → IsEndedBy Ends (drop n xs)
ended_at Ends zero [] d l h = tt
ended_at Ends zero (x ∷ xs) d l h = h (omega arith)
ended_at Ends (suc n) [] d l h = absurd (omega arith)
ended_at Ends (suc n) (x ∷ xs) d l h = ended_at Ends n xs d (omega arith) (λ k. h (omega (arith, k)))

-- what stands behind the first byte
abbrev pub tail_or_none : List ℕ → List ℕ
tail_or_none [] = []
tail_or_none (b ∷ s) = s

-- the first byte, or this one where there is none
abbrev pub head_or : ℕ → List ℕ → ℕ
head_or d [] = d
head_or d (b ∷ s) = b

-- two parts at the front, each ended behind, are one
pub one_end : (Ends : ℕ → Type 0) (p q x y : List ℕ) → AllByRecursion (λ b. Ends b → ⊥) p
    → AllByRecursion (λ b. Ends b → ⊥) q → IsEndedBy Ends x → IsEndedBy Ends y → p ++ x ≡ q ++ y → (p ≡ q) × (x ≡ y)
one_end Ends [] [] x y a b ex ey e = (refl, e)
one_end Ends [] (d ∷ q) x y a b ex ey e = absurd (b.0 (subst (IsEndedBy Ends) e ex))
one_end Ends (c ∷ p) [] x y a b ex ey e = absurd (a.0 (subst (IsEndedBy Ends) (sym e) ey))
one_end Ends (c ∷ p) (d ∷ q) x y a b ex ey e =
    let r = one_end Ends p q x y a.1 b.1 ex ey (ap tail_or_none e) in
    let heads : c ≡ d = ap (head_or 0) e in
    (ap (λ z. z ∷ p) heads ∙ ap (λ z. d ∷ z) r.0, r.1)
