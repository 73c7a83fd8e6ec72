-- Numbers that digits write, up to a cap.
use Rattle.std.proofs.Common.{◌≡◌, ℕ, zero, suc, ◌+◌, ◌-◌, ◌*◌, ◌^◌, ◌<◌, ◌≤◌, min, true, ◌&&◌, List, [], ◌∷◌, ◌++◌, length, take, drop, refl, sym, ap, subst, ◌∙◌, ⊎_elim, arith, lit<, eqb-true, eq-eqb, eqb, get_or}
use Rattle.std.proofs.lemmas.Grind.{common_steps}
use Rattle.std.specs.Char.{digit_value}
use Rattle.std.specs.Str.Parse.{AllDigits, digits_value, digits_value_after}
use Rattle.std.proofs.Math.Nat.{pow-suc, one-le-pow, mul-le-mul_right, le_of_lt}
use Rattle.std.proofs.lemmas.Bool.{cases_lt, and_parts, and_from}
use Rattle.std.proofs.lemmas.List.Folds.{list_all-append}
use Rattle.std.proofs.lemmas.Str.Parse.{digit_from_value}
use Rattle.std.proofs.lemmas.Str.{digit_value_digit}
use Rattle.json_integers.specs.WholeNumbers.{capped, kept, dropped, are_zeros}

-- a power of ten is no 0
pub one_power : (k : ℕ) → 1 ≤ 10 ^ k
one_power k = one-le-pow k 10 (lit< tt)

capped_same : (n : ℕ) → n ≤ 2 ^ 65 → capped n ≡ n
capped_same n h = omega arith

-- digits make no number smaller
after_ge : (n : ℕ) (ds : List ℕ) → n ≤ digits_value_after 10 n ds
after_ge n [] = omega arith
after_ge n (d ∷ ds) = omega (arith, after_ge (n * 10 + digit_value d) ds)

-- a number may be capped before digits follow it
pub after_capped : (n : ℕ) (ds : List ℕ)
    → capped (digits_value_after 10 (capped n) ds) ≡ capped (digits_value_after 10 n ds)
after_capped n ds = ⊎_elim
    (λ a. omega (arith, after_ge n ds, after_ge (capped n) ds))
    (λ b. ap (λ k. capped (digits_value_after 10 k ds)) (capped_same n b))
    (cases_lt (2 ^ 65) n)

-- digits follow one another
pub after_append : (n : ℕ) (xs ys : List ℕ)
    → digits_value_after 10 n (xs ++ ys) ≡ digits_value_after 10 (digits_value_after 10 n xs) ys
after_append n [] ys = refl
after_append n (x ∷ xs) ys = after_append (n * 10 + digit_value x) xs ys

-- one digit of a list
pub capped_digit : (n d : ℕ) (ds : List ℕ) → digit_value d < 10
    → capped (digits_value_after 10 (min (n * 10 + (d - 48)) (2 ^ 65)) ds) ≡ capped (digits_value_after 10 n (d ∷ ds))
capped_digit n d ds h =
    let v : digit_value d ≡ d - 48 = omega (arith, digit_value_digit d (digit_from_value d h)) in
    after_capped (n * 10 + (d - 48)) ds ∙ ap (λ k. capped (digits_value_after 10 (n * 10 + k) ds)) (sym v)

-- one step of a loop over digits
pub capped_next : (v i : ℕ) (ds : List ℕ) → i < length ds → AllDigits 10 (drop i ds)
    → capped (digits_value_after 10 (min (v * 10 + (get_or ds i 0 - 48)) (2 ^ 65)) (drop (i + 1) ds)) ≡ capped
    (digits_value_after 10 v (drop i ds))
capped_next v i ds l h =
    let e : drop i ds ≡ get_or ds i 0 ∷ drop (i + 1) ds = step in
    capped_digit v (get_or ds i 0) (drop (i + 1) ds) (subst (AllDigits 10) e h).0
    ∙ ap (λ xs. capped (digits_value_after 10 v xs)) (sym e)
  where
    step : drop i ds ≡ get_or ds i 0 ∷ drop (i + 1) ds
    step = grind (arith, common_steps)

-- the digits that are left
pub digits_next : (i : ℕ) (ds : List ℕ) → i < length ds → AllDigits 10 (drop i ds) → AllDigits 10 (drop (i + 1) ds)
digits_next i ds l h = (subst (AllDigits 10) (step i ds l) h).1
  where
    step : (i : ℕ) (ds : List ℕ) → i < length ds → drop i ds ≡ get_or ds i 0 ∷ drop (i + 1) ds
    step i ds l = grind (arith, common_steps)

-- the least digit
pub digit_low : (d : ℕ) → digit_value d < 10 → 48 ≤ d
digit_low d h = let r = digit_from_value d h in omega arith

-- the greatest digit
pub digit_high : (d : ℕ) → digit_value d < 10 → d ≤ 57
digit_high d h = let r = digit_from_value d h in omega arith

pub ruleset capped_steps = (capped_next, digits_next, digit_low, digit_high)

-- a product may be capped before it is multiplied
pub capped_mul : (w k : ℕ) → 1 ≤ k → capped (capped w * k) ≡ capped (w * k)
capped_mul w zero h = absurd (omega arith)
capped_mul w (suc k) h = ⊎_elim
    (λ a. let e : capped w ≡ 2 ^ 65 = omega arith in ap (λ n. capped (n * suc k)) e ∙ past a)
    (λ b. ap (λ n. capped (n * suc k)) (capped_same w b))
    (cases_lt (2 ^ 65) w)
  where
    past : 2 ^ 65 < w → capped (2 ^ 65 * suc k) ≡ capped (w * suc k)
    past a = omega (arith, mul-le-mul_right (suc k) (le_of_lt a))

-- one zero more
pub zeros_more : (v n : ℕ) → 0 < n → capped (min (v * 10) (2 ^ 65) * 10 ^ (n - 1)) ≡ capped (v * 10 ^ n)
zeros_more v zero h = absurd (omega arith)
zeros_more v (suc n) h =
    let e : suc n - 1 ≡ n = omega arith in
    let f : v * 10 * 10 ^ n ≡ v * 10 ^ suc n = omega (arith, ap (λ k. v * k) (pow-suc 10 n)) in
    ap (λ k. capped (min (v * 10) (2 ^ 65) * 10 ^ k)) e ∙ capped_mul (v * 10) (10 ^ n) (one_power n) ∙ ap capped f

-- the cap stays the cap
pub zeros_past : (v n : ℕ) → v ≡ 2 ^ 65 → capped (v * 10 ^ n) ≡ v
zeros_past v n h = rw h (omega (arith, one_power n))

-- zeros behind nothing
pub zeros_of_zero : (v n : ℕ) → v ≡ 0 → capped (v * 10 ^ n) ≡ v
zeros_of_zero v n h = rw h (omega arith)

-- no zeros
pub zeros_none : (v n : ℕ) → v ≤ 2 ^ 65 → n ≡ 0 → capped (v * 10 ^ n) ≡ v
zeros_none v n h e = rw e (omega arith)

pub ruleset zero_steps = (zeros_more, zeros_past, zeros_of_zero, zeros_none)

-- digits before and behind the point
pub joined : (xs ys : List ℕ)
    → capped (digits_value_after 10 (capped (digits_value 10 xs)) ys) ≡ capped (digits_value 10 (xs ++ ys))
joined xs ys = after_capped (digits_value 10 xs) ys ∙ ap capped (sym (after_append 0 xs ys))

take_digits : (n : ℕ) (ds : List ℕ) → AllDigits 10 ds → AllDigits 10 (take n ds)
take_digits zero ds h = tt
take_digits (suc n) [] h = tt
take_digits (suc n) (d ∷ ds) h = (h.0, take_digits n ds h.1)

drop_digits : (n : ℕ) (ds : List ℕ) → AllDigits 10 ds → AllDigits 10 (drop n ds)
drop_digits zero ds h = h
drop_digits (suc n) [] h = tt
drop_digits (suc n) (d ∷ ds) h = drop_digits n ds h.1

-- digits behind digits
pub append_digits : (xs ys : List ℕ) → AllDigits 10 xs → AllDigits 10 ys → AllDigits 10 (xs ++ ys)
append_digits [] ys h k = k
append_digits (x ∷ xs) ys h k = (h.0, append_digits xs ys h.1 k)

-- what stays is digits
pub kept_digits : (ds : List ℕ) (n : ℕ) → AllDigits 10 ds → AllDigits 10 (kept ds n)
kept_digits ds n h = take_digits (length ds - n) ds h

-- what is dropped is digits
pub dropped_digits : (ds : List ℕ) (n : ℕ) → AllDigits 10 ds → AllDigits 10 (dropped ds n)
dropped_digits ds n h = drop_digits (length ds - n) ds h

-- zeros behind zeros
pub zeros_append : (xs ys : List ℕ) → are_zeros (xs ++ ys) ≡ (are_zeros xs && are_zeros ys)
zeros_append xs ys = list_all-append (λ d. eqb d 48) xs ys

pub ruleset split_steps = (kept_digits, zeros_append)

-- the value of digits behind others
split_step : (n v p q w a b : ℕ) → q ≡ p * 10 → a ≡ (n * 10 + v) * p + w → b ≡ (0 * 10 + v) * p + w → a ≡ n * q + b
split_step n v p q w a b e f g = omega (arith, ap (λ k. n * k) e)

after_split : (n : ℕ) (ds : List ℕ) → digits_value_after 10 n ds ≡ n * 10 ^ length ds + digits_value 10 ds
after_split n [] = omega arith
after_split n (d ∷ ds) =
    split_step n (digit_value d) (10 ^ length ds) (10 ^ length (d ∷ ds)) (digits_value 10 ds)
    (digits_value_after 10 n (d ∷ ds)) (digits_value 10 (d ∷ ds))
    (pow-suc 10 (length ds)) (after_split (n * 10 + digit_value d) ds) (after_split (0 * 10 + digit_value d) ds)

-- digits behind others add their value
pub value_append : (xs ys : List ℕ)
    → digits_value 10 (xs ++ ys) ≡ digits_value 10 xs * 10 ^ length ys + digits_value 10 ys
value_append xs ys = after_append 0 xs ys ∙ after_split (digits_value 10 xs) ys

-- zeros write 0, and nothing else does
pub zeros_value : (ds : List ℕ) → are_zeros ds ≡ true → digits_value 10 ds ≡ 0
zeros_value [] h = refl
zeros_value (d ∷ ds) h = let k = and_parts _ _ h in ap (λ (x : ℕ). digits_value 10 (x ∷ ds)) (eqb-true d 48 k.0)
    ∙ zeros_value ds k.1

no_value : (v p w a : ℕ) → 1 ≤ p → a ≡ (0 * 10 + v) * p + w → a ≡ 0 → (v ≡ 0) × (w ≡ 0)
no_value v p w a h e z = (omega (arith, mul-le-mul_right v h), omega arith)

-- what writes 0 is zeros
pub value_zeros : (ds : List ℕ) → AllDigits 10 ds → digits_value 10 ds ≡ 0 → are_zeros ds ≡ true
value_zeros [] h e = refl
value_zeros (d ∷ ds) h e =
    let k = no_value (digit_value d) (10 ^ length ds) (digits_value 10 ds) (digits_value 10 (d ∷ ds))
    (one_power (length ds)) (after_split (0 * 10 + digit_value d) ds) e in
    let z : digit_value d ≡ 0 = k.0 in
    let f : d ≡ 48 = omega (arith, digit_value_digit d (digit_from_value d h.0)) in
    and_from _ _ (eq-eqb d 48 f) (value_zeros ds h.1 k.1)
