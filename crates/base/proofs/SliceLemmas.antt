-- Lists from an index on.
use Rattle.std.proofs.Common.{◌≡◌, ◌-◌, ◌≤◌, zero, suc, ℕ, List, ◌∷◌, drop, arith, refl}

-- without so many of a list one fewer are dropped of what stands behind its first
pub drop_one : {X : Type 0} (n : ℕ) (x : X) (xs : List X) → 1 ≤ n → drop n (x ∷ xs) ≡ drop (n - 1) xs
drop_one zero x xs h = absurd (omega arith)
drop_one (suc n) x xs h = let e : suc n - 1 ≡ n = omega arith in rw e refl
