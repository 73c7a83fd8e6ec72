-- Digits, their values, and numbers in so many digits.
use Rattle.std.proofs.Common.{◌≡◌, ℕ, zero, suc, ◌+◌, ◌-◌, ◌*◌, ◌^◌, ◌<◌, ◌≤◌, true, List, [], ◌∷◌, length, take, get_or, arith, lit<, ⊎_elim, subst, ap, refl, ◌∙◌, ◌++◌, ◌/◌, ◌%◌}
use Rattle.std.proofs.Math.Nat.{pow-suc, one-le-pow}
use Rattle.std.proofs.lemmas.List.{length-take-le, take_all}
use Rattle.std.proofs.lemmas.Bool.{and_parts, cases_lt}
use Rattle.std.proofs.lemmas.Bool.Decides.{nat_tests}
use Rattle.std.proofs.lemmas.Int.Digits.{digits_value-lt, digits_value_more}
use Rattle.std.specs.Char.{digit_value, is_ascii_digit}
use Rattle.std.specs.Str.Parse.{AllDigits, digits_value}
use Rattle.time_texts.specs.Digits.{are_all_digits, padded}

-- a digit by its value
digit_is : (b : ℕ) → is_ascii_digit b ≡ true → digit_value b < 10
digit_is b h = grind (arith, nat_tests)

digit_value_is : (b : ℕ) → is_ascii_digit b ≡ true → digit_value b ≡ b - 48
digit_value_is b h = grind (arith, nat_tests)

digit_between : (b : ℕ) → is_ascii_digit b ≡ true → (48 ≤ b) × (b ≤ 57)
digit_between b h = grind (arith, nat_tests)

-- digits, as std's words for numerals see them
pub all_digits_are : (ds : List ℕ) → are_all_digits ds ≡ true → AllDigits 10 ds
all_digits_are [] h = tt
all_digits_are (d ∷ ds) h = let k = and_parts _ _ h in (digit_is d k.0, all_digits_are ds k.1)

-- each of some digits is one
pub digit_at : (ds : List ℕ) (i : ℕ) → i < length ds → are_all_digits ds ≡ true → is_ascii_digit (get_or ds i 0) ≡ true
digit_at [] i within h = absurd (omega arith)
digit_at (d ∷ ds) zero within h = (and_parts _ _ h).0
digit_at (d ∷ ds) (suc i) within h = digit_at ds i (omega arith) (and_parts _ _ h).1

-- a digit is at least 48
pub digit_low : (ds : List ℕ) (i : ℕ) → i < length ds → are_all_digits ds ≡ true → 48 ≤ get_or ds i 0
digit_low ds i within h = (digit_between _ (digit_at ds i within h)).0

-- and at most 57
pub digit_high : (ds : List ℕ) (i : ℕ) → i < length ds → are_all_digits ds ≡ true → get_or ds i 0 ≤ 57
digit_high ds i within h = (digit_between _ (digit_at ds i within h)).1

-- the number of one digit more
pub value_next : (ds : List ℕ) (i : ℕ) → i < length ds → are_all_digits ds ≡ true
    → digits_value 10 (take (i + 1) ds) ≡ digits_value 10 (take i ds) * 10 + (get_or ds i 0 - 48)
value_next ds i within h =
    omega (arith, digits_value_more 10 ds i within, digit_value_is (get_or ds i 0) (digit_at ds i within h))

-- a power of ten is no 0
one_power : (k : ℕ) → 1 ≤ 10 ^ k
one_power k = one-le-pow k 10 (lit< tt)

-- a higher power of ten is larger
pub powers_rise : (k n : ℕ) → k ≤ n → 10 ^ k ≤ 10 ^ n
powers_rise k zero h = let e : k ≡ 0 = omega arith in rw e (omega arith)
powers_rise k (suc n) h = ⊎_elim
    (λ (below : k < suc n). omega (arith, powers_rise k n (omega arith), pow-suc 10 n))
    (λ (same : suc n ≤ k). let e : k ≡ suc n = omega arith in rw e (omega arith))
    (cases_lt k (suc n))

take_digits : (n : ℕ) (ds : List ℕ) → are_all_digits ds ≡ true → AllDigits 10 (take n ds)
take_digits zero ds h = tt
take_digits (suc n) [] h = tt
take_digits (suc n) (d ∷ ds) h = let k = and_parts _ _ h in (digit_is d k.0, take_digits n ds k.1)

-- digits in front are below the power of ten of their number
pub value_front : (ds : List ℕ) (i : ℕ) → i ≤ length ds → are_all_digits ds ≡ true
    → digits_value 10 (take i ds) < 10 ^ i
value_front ds i within h =
    subst (λ n. digits_value 10 (take i ds) < 10 ^ n) (length-take-le i ds within)
    (digits_value-lt 10 (take i ds) (take_digits i ds h))

-- and so are all
pub value_below : (ds : List ℕ) → are_all_digits ds ≡ true → digits_value 10 ds < 10 ^ length ds
value_below ds h = digits_value-lt 10 ds (all_digits_are ds h)

-- a few digits and one more write a number of 32 bits
pub value_room : (ds : List ℕ) (i : ℕ) → i < length ds → length ds ≤ 9 → are_all_digits ds ≡ true
    → digits_value 10 (take i ds) * 10 + (get_or ds i 0 - 48) < 10 ^ 9
value_room ds i within few h =
    omega (arith, value_next ds i within h, value_front ds (i + 1) (omega arith) h, powers_rise (i + 1) 9 (omega arith))

-- all digits
pub value_all : (ds : List ℕ) (i : ℕ) → length ds ≤ i → digits_value 10 (take i ds) ≡ digits_value 10 ds
value_all ds i past = ap (digits_value 10) (take_all i ds past)

-- one place more
pub scale_next : (v p : ℕ) → p ≤ 9 → (p ≡ 9 → ⊥) → v * 10 * 10 ^ (9 - (p + 1)) ≡ v * 10 ^ (9 - p)
scale_next v p within less =
    let e : 9 - p ≡ suc (9 - (p + 1)) = omega arith in
    let f : 10 ^ (9 - p) ≡ 10 ^ (9 - (p + 1)) * 10 = ap (λ n. 10 ^ n) e ∙ pow-suc 10 (9 - (p + 1)) in
    omega (arith, ap (λ n. v * n) f)

-- a number with a zero behind it has one digit more
pub scale_below : (v p : ℕ) → v < 10 ^ p → v * 10 < 10 ^ (p + 1)
scale_below v p h = let e : p + 1 ≡ suc p = omega arith in rw e (omega (arith, pow-suc 10 p))

-- and at most nine
pub scale_room : (v p : ℕ) → p ≤ 9 → (p ≡ 9 → ⊥) → v < 10 ^ p → v * 10 < 10 ^ 9
scale_room v p within less h = omega (arith, scale_below v p h, powers_rise (p + 1) 9 (omega arith))

-- a number of nine digits has no zeros behind it
pub scale_none : (v p : ℕ) → p ≡ 9 → v * 10 ^ (9 - p) ≡ v
scale_none v p e = rw e (omega arith)

-- and is below a billion
pub scale_last : (v p : ℕ) → p ≡ 9 → v < 10 ^ p → v < 10 ^ 9
scale_last v p e h = rw e at h

pub ruleset scale_steps = (scale_next, scale_below, scale_room, scale_none, scale_last)

-- a number in one digit more
pub padded_next : (k n : ℕ) → 0 < k → padded k n ≡ padded (k - 1) (n / 10) ++ (48 + n % 10) ∷ []
padded_next zero n h = absurd (omega arith)
padded_next (suc k) n h = let e : suc k - 1 ≡ k = omega arith in rw e refl

-- a number in no digits
pub padded_none : (k n : ℕ) → k ≡ 0 → padded k n ≡ []
padded_none k n e = rw e refl

pub ruleset padded_steps = (padded_next, padded_none)
