-- Powers of 128, and numbers in groups of seven bits.
use Rattle.std.proofs.Common.{◌≡◌, ◌+◌, ◌-◌, ◌*◌, ◌/◌, ◌%◌, ◌<◌, ◌≤◌, ◌^◌, ◌++◌, ◌∷◌, ℕ, zero, suc, arith, add-zero, refl, List, [], length, append-nil, ap}
use Rattle.std.proofs.Math.Nat.{pow-suc, add-suc}
use Rattle.std.proofs.lemmas.Bool.{lt-ltb, le-ltb}
use Rattle.base.specs.Base128.{groups_of}

pow_up : (a d : ℕ) → 128 ^ a ≤ 128 ^ (a + d)
pow_up a zero = rw add-zero (omega arith)
pow_up a (suc d) = rw (add-suc, pow-suc) (omega (arith, pow_up a d))

-- ten groups at most are below 128 ^ 10
pub pow_cap : (k : ℕ) → k ≤ 10 → 128 ^ k ≤ 128 ^ 10
pow_cap k h = let e : k + (10 - k) ≡ 10 = omega arith in rw e at (pow_up k (10 - k))

-- one more byte
pub grows : (k high low : ℕ) → 0 < k → high < 128 ^ (k - 1) → low < 128 → low + 128 * high < 128 ^ k
grows zero high low p h l = absurd (omega arith)
grows (suc k) high low p h l = let e : suc k - 1 ≡ k = omega arith in let m : high < 128 ^ k = rw e at h in rw pow-suc (omega arith)

-- one byte less
pub shrinks : (k n : ℕ) → 0 < k → n < 128 ^ k → n / 128 < 128 ^ (k - 1)
shrinks zero n p h = absurd (omega arith)
shrinks (suc k) n p h = let e : suc k - 1 ≡ k = omega arith in let m = rw pow-suc at h in rw e (omega arith)

-- a number of 128 and more is written as its low seven bits and the rest
pub shows_more : (k n : ℕ) → 0 < k → 128 ≤ n → groups_of k n ≡ (n % 128 + 128) ∷ groups_of (k - 1) (n / 128)
unfolding groups_of
shows_more zero n p h = absurd (omega arith)
shows_more (suc k) n p h = let e : suc k - 1 ≡ k = omega arith in rw (le-ltb n 128 h, e) refl

-- a number below 128 is its own last group
pub shows_last : (k n : ℕ) → 0 < k → n < 128 → groups_of k n ≡ n ∷ []
unfolding groups_of
shows_last zero n p h = absurd (omega arith)
shows_last (suc k) n p h = rw (lt-ltb n 128 h) refl

-- one group at least holds 128 numbers
pub pow_low : (k : ℕ) → 0 < k → 128 ≤ 128 ^ k
pow_low zero h = absurd (omega arith)
pow_low (suc k) h = let m : 128 ^ 0 ≤ 128 ^ (0 + k) = pow_up 0 k in rw pow-suc (let e : 0 + k ≡ k = omega arith in let o : 128 ^ 0 ≤ 128 ^ k = rw e at m in omega arith)

pub ruleset steps = (shrinks, shows_more, shows_last)

-- no groups are no bytes
pub shows_none : (out : List ℕ) (k n : ℕ) → k ≡ 0 → out ++ groups_of k n ≡ out
unfolding groups_of
shows_none out k n h = rw h (append-nil out)

-- a number of 128 and more has one group more than its rest
pub len_more : (k n : ℕ) → 0 < k → 128 ≤ n → length (groups_of k n) ≡ length (groups_of (k - 1) (n / 128)) + 1
len_more k n p h = rw (ap length (shows_more k n p h)) (omega arith)

-- a number below 128 has one group
pub len_last : (k n : ℕ) → 0 < k → n < 128 → length (groups_of k n) ≡ 1
len_last k n p h = ap length (shows_last k n p h)

-- no groups have no length
pub len_none : (k n : ℕ) → k ≡ 0 → length (groups_of k n) ≡ 0
unfolding groups_of
len_none k n h = rw h refl
