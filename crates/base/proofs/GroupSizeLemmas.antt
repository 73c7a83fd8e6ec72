-- Numbers in groups of seven bits: how many bytes they take, and what was written alone is read.
use Rattle.std.proofs.Common.{◌≡◌, ◌+◌, ◌-◌, ◌*◌, ◌<◌, ◌≤◌, ◌^◌, ℕ, zero, suc, Bool, true, false, cond, List, [], ◌∷◌, length, Result, Ok, Err, refl, subst, arith, nat_lt, append-nil}
use Rattle.base.specs.declared.base128.GroupFault.{GroupFault}
use Rattle.base.specs.Base128.{before_groups, groups_in, groups_of}
use Rattle.base.proofs.GroupLemmas.{groups_read}

size_step : (k b : ℕ) (bs : List ℕ) (r : ℕ × ℕ) (x : Result (ℕ × ℕ) GroupFault) (t : Bool) → groups_in k bs ≡ x
    → ((q : ℕ × ℕ) → groups_in k bs ≡ Ok q → (1 ≤ q.1) × (q.1 ≤ length bs))
    → cond t (Ok (b, 1)) (before_groups b x) ≡ Ok r → (1 ≤ r.1) × (r.1 ≤ length bs + 1)
size_step k b bs r x true g ih h = let e : (b, 1) ≡ r = cc in subst (λ (q : ℕ × ℕ). (1 ≤ q.1) × (q.1 ≤ length bs + 1)) e (omega arith, omega arith)
size_step k b bs r (Err d) false g ih h = absurd cc
size_step k b bs r (Ok q) false g ih h =
    let i = ih q g in
    let e : (b - 128 + 128 * q.0, q.1 + 1) ≡ r = ok_is _ _ h in
    subst (λ (p : ℕ × ℕ). (1 ≤ p.1) × (p.1 ≤ length bs + 1)) e (omega arith, omega (arith, i.1))
  where
    ok_is : (x y : ℕ × ℕ) → ◌≡◌ {A = Result (ℕ × ℕ) GroupFault} (Ok x) (Ok y) → x ≡ y
    ok_is x y e = cc

-- a number that is read takes a byte at least, and no more than there are
pub groups_within : (k : ℕ) (bytes : List ℕ) (r : ℕ × ℕ) → groups_in k bytes ≡ Ok r → (1 ≤ r.1) × (r.1 ≤ length bytes)
groups_within zero bytes r h = absurd cc
groups_within (suc k) [] r h = absurd cc
groups_within (suc k) (b ∷ bs) r h =
    let s = size_step k b bs r (groups_in k bs) (nat_lt b 128) refl (λ q e. groups_within k bs q e) h in
    (s.0, omega (arith, s.1))

-- a number that is written in groups, with nothing behind it, is read
pub groups_back : (k n : ℕ) → 0 < k → n < 128 ^ k → groups_in k (groups_of k n) ≡ Ok (n, length (groups_of k n))
groups_back k n p h = rw append-nil at (groups_read k k n [] p (omega arith) h)
