-- Numbers in groups of seven bits: what is written is read, and what is read stays, whatever comes behind it.
use Rattle.std.proofs.Common.{◌≡◌, ◌+◌, ◌-◌, ◌*◌, ◌/◌, ◌%◌, ◌<◌, ◌≤◌, ◌^◌, ◌++◌, ℕ, zero, suc, Bool, true, false, cond, List, [], ◌∷◌, length, Result, Ok, Err, refl, ap, sym, ◌∙◌, arith, nat_lt}
use Rattle.std.proofs.lemmas.Bool.{lt-ltb, le-ltb}
use Rattle.std.proofs.lemmas.Bool.Decides.{nat_tests}
use Rattle.base.specs.declared.base128.GroupFault.{GroupFault}
use Rattle.base.specs.Base128.{before_groups, groups_in, groups_of}
use Rattle.base.proofs.PowerLemmas.{shrinks}

-- a last group is read
last_read : (b k : ℕ) (bytes : List ℕ) → b < 128 → groups_in (suc k) (b ∷ bytes) ≡ Ok (b, 1)
last_read b k bytes h = ap (λ (t : Bool). cond t (Ok (b, 1)) (before_groups b (groups_in k bytes))) (lt-ltb b 128 h)

-- one group more is read
more_read : (b k n len : ℕ) (bytes : List ℕ) → 128 ≤ b → groups_in k bytes ≡ Ok (n, len) → groups_in (suc k) (b ∷ bytes) ≡ Ok (b - 128 + 128 * n, len + 1)
more_read b k n len bytes h e =
    ap (λ (t : Bool). cond t (Ok (b, 1)) (before_groups b (groups_in k bytes))) (le-ltb b 128 h) ∙ ap (before_groups b) e

groups_step : (k j n : ℕ) (more : List ℕ) (test : Bool) → nat_lt n 128 ≡ test → (128 ≤ n → groups_in k (groups_of j (n / 128) ++ more) ≡ Ok (n / 128, length (groups_of j (n / 128)))) → n < 128 ^ suc k
    → groups_in (suc k) (groups_of (suc j) n ++ more) ≡ Ok (n, length (groups_of (suc j) n))
unfolding groups_of
groups_step k j n more true e ih l = let h : n < 128 = grind (arith, nat_tests) in rw e (last_read n k more h)
groups_step k j n more false e ih l =
    let h : 128 ≤ n = grind (arith, nat_tests) in
    let value : n % 128 + 128 - 128 + 128 * (n / 128) ≡ n = omega arith in
    let len : length (groups_of j (n / 128)) + 1 ≡ suc (length (groups_of j (n / 128))) = omega arith in
    rw e (more_read (n % 128 + 128) k (n / 128) (length (groups_of j (n / 128))) (groups_of j (n / 128) ++ more) (omega arith) (ih h)
    ∙ (ap (λ (x : ℕ). Ok (x, length (groups_of j (n / 128)) + 1)) value ∙ ap (λ (x : ℕ). Ok (n, x)) len))

-- a number that is written in groups is read, whatever stands behind it
pub groups_read : (k j n : ℕ) (more : List ℕ) → 0 < k → k ≤ j → n < 128 ^ k → groups_in k (groups_of j n ++ more) ≡ Ok (n, length (groups_of j n))
groups_read zero j n more p l h = absurd (omega arith)
groups_read (suc k) zero n more p l h = absurd (omega arith)
groups_read (suc zero) (suc j) n more p l h = groups_step zero j n more (nat_lt n 128) refl (λ g. absurd (omega (arith, shrinks 1 n (omega arith) h, g))) h
groups_read (suc (suc k)) (suc j) n more p l h = groups_step (suc k) j n more (nat_lt n 128) refl (λ g. groups_read (suc k) j (n / 128) more (omega arith) (omega arith) (let m : suc (suc k) - 1 ≡ suc k = omega arith in rw m at (shrinks (suc (suc k)) n (omega arith) h))) h

-- groups before others that are read are read
before_ok : (b : ℕ) (x : Result (ℕ × ℕ) GroupFault) (r : ℕ × ℕ) → before_groups b x ≡ Ok r → (q : ℕ × ℕ) × (x ≡ Ok q) × (r ≡ (b - 128 + 128 * q.0, q.1 + 1))
before_ok b (Ok q) r h = (q, refl, cc)
before_ok b (Err e) r h = absurd cc

stable_step : (k b : ℕ) (bs more : List ℕ) (r : ℕ × ℕ) (t : Bool)
    → ((q : ℕ × ℕ) → groups_in k bs ≡ Ok q → groups_in k (bs ++ more) ≡ Ok q)
    → cond t (Ok (b, 1)) (before_groups b (groups_in k bs)) ≡ Ok r → cond t (Ok (b, 1)) (before_groups b (groups_in k (bs ++ more))) ≡ Ok r
stable_step k b bs more r true ih h = h
stable_step k b bs more r false ih h =
    let q = before_ok b (groups_in k bs) r h in
    ap (before_groups b) (ih q.0 q.1) ∙ ap (λ (p : ℕ × ℕ). Ok p) (sym q.2)

-- a number that is read is the same, whatever comes behind it
pub groups_stable : (k : ℕ) (bytes more : List ℕ) (r : ℕ × ℕ) → groups_in k bytes ≡ Ok r → groups_in k (bytes ++ more) ≡ Ok r
groups_stable zero bytes more r h = absurd cc
groups_stable (suc k) [] more r h = absurd cc
groups_stable (suc k) (b ∷ bs) more r h = stable_step k b bs more r (nat_lt b 128) (λ q e. groups_stable k bs more q e) h
