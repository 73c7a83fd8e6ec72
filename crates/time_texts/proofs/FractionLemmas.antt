-- Fractions in front of what stops them, and the fraction that is written for billionths.
use Rattle.std.proofs.Common.{◌≡◌, ℕ, zero, suc, ◌+◌, ◌-◌, ◌*◌, ◌/◌, ◌%◌, ◌^◌, ◌<◌, Bool, true, false, cond, not, ◌&&◌, eqb, List, [], ◌∷◌, ◌++◌, length, take, drop, refl, sym, ap, subst, ◌∙◌, arith, eqb-true, eq-eqb, length-append}
use Rattle.std.proofs.Math.Nat.{pow-suc}
use Rattle.std.proofs.Math.Seq.{take-append_seam, drop-append_seam}
use Rattle.std.proofs.lemmas.Bool.{and_parts, and_from}
use Rattle.std.proofs.lemmas.Bool.Decides.{nat_tests}
use Rattle.std.proofs.lemmas.Int.Digits.{digits_value_push}
use Rattle.std.specs.Prelude.{nat_le}
use Rattle.std.specs.Char.{digit_value, is_ascii_digit}
use Rattle.std.specs.List.{prefix_len}
use Rattle.std.specs.Str.Parse.{digits_value}
use Rattle.time_texts.specs.Digits.{are_all_digits, are_digits, padded}
use Rattle.time_texts.specs.Fractions.{is_fraction, fraction_len, nanos_of, fraction_text}

-- a list does not go on with a digit
unfoldable pub NoDigit : List ℕ → Type 0
NoDigit [] = Unit {0}
NoDigit (b ∷ bs) = is_ascii_digit b ≡ false

-- nor with a point
unfoldable pub NoPoint : List ℕ → Type 0
NoPoint [] = Unit {0}
NoPoint (b ∷ bs) = eqb b 46 ≡ false

-- digits in front of what is none are counted
pub len_of_digits : (ds r : List ℕ) → are_all_digits ds ≡ true → NoDigit r
    → prefix_len is_ascii_digit (ds ++ r) ≡ length ds
unfolding NoDigit
len_of_digits [] [] h n = refl
len_of_digits [] (b ∷ r) h n = ap (λ t. cond t (1 + prefix_len is_ascii_digit r) 0) n
len_of_digits (d ∷ ds) r h n =
    let k = and_parts _ _ h in
    ap (λ t. cond t (1 + prefix_len is_ascii_digit (ds ++ r)) 0) k.0
    ∙ one_more _ _ (len_of_digits ds r k.1 n)
  where
    one_more : (a b : ℕ) → a ≡ b → 1 + a ≡ suc b
    one_more a b e = omega arith

no_point : (r : List ℕ) → NoPoint r → fraction_len r ≡ 0
unfolding NoPoint
no_point [] h = refl
no_point (b ∷ s) h = ap (λ t. cond t (suc (prefix_len is_ascii_digit s)) 0) h

-- a fraction in front of what is neither is found
pub len_of_fraction : (f r : List ℕ) → is_fraction f ≡ true → NoDigit r → NoPoint r → fraction_len (f ++ r) ≡ length f
len_of_fraction [] r h n p = no_point r p
len_of_fraction (b ∷ ds) r h n p =
    let k = and_parts _ _ h in
    let digits = (and_parts _ _ (and_parts _ _ k.1).1).1 in
    ap (λ t. cond t (suc (prefix_len is_ascii_digit (ds ++ r))) 0) k.0
    ∙ ap suc (len_of_digits ds r digits n)

-- a fraction begins with no digit
pub fraction_begins : (f r : List ℕ) → is_fraction f ≡ true → NoDigit r → NoDigit (f ++ r)
unfolding NoDigit
fraction_begins [] r h n = n
fraction_begins (b ∷ ds) r h n =
    let point : b ≡ 46 = eqb-true b 46 (and_parts _ _ h).0 in
    subst (λ (x : ℕ). is_ascii_digit x ≡ false) (sym point) refl

-- two lists that are joined are found again, at the length of the first
pub at_seam : (xs ys : List ℕ) (n : ℕ) → n ≡ length xs → (take n (xs ++ ys) ≡ xs) × (drop n (xs ++ ys) ≡ ys)
at_seam xs ys n h =
    subst (λ k. (take k (xs ++ ys) ≡ xs) × (drop k (xs ++ ys) ≡ ys)) (sym h)
    (take-append_seam xs ys, drop-append_seam xs ys)

-- the last digit of a number is one, of that value
last_digit : (n : ℕ) → is_ascii_digit (48 + n % 10) ≡ true
last_digit n = small (n % 10) (omega arith)
  where
    small : (d : ℕ) → d < 10 → is_ascii_digit (48 + d) ≡ true
    small d h = grind (arith, nat_tests)

last_value : (n : ℕ) → digit_value (48 + n % 10) ≡ n % 10
last_value n = small (n % 10) (omega arith)
  where
    small : (d : ℕ) → d < 10 → digit_value (48 + d) ≡ d
    small d h = grind (arith, nat_tests)

digits_append : (xs : List ℕ) (y : ℕ) → are_all_digits xs ≡ true → is_ascii_digit y ≡ true
    → are_all_digits (xs ++ y ∷ []) ≡ true
digits_append [] y h k = and_from _ _ k refl
digits_append (x ∷ xs) y h k = let p = and_parts _ _ h in and_from _ _ p.0 (digits_append xs y p.1 k)

-- a number in so many digits has them
pub padded_digits : (k n : ℕ) → are_all_digits (padded k n) ≡ true
padded_digits zero n = refl
padded_digits (suc k) n = digits_append (padded k (n / 10)) (48 + n % 10) (padded_digits k (n / 10)) (last_digit n)

-- and no others
pub padded_len : (k n : ℕ) → length (padded k n) ≡ k
padded_len zero n = refl
padded_len (suc k) n =
    omega (arith, length-append (padded k (n / 10)) ((48 + n % 10) ∷ []), padded_len k (n / 10))

-- and is written by them where it is below the power of ten
pub padded_value : (k n : ℕ) → n < 10 ^ k → digits_value 10 (padded k n) ≡ n
padded_value zero n h = omega arith
padded_value (suc k) n h =
    let small : n / 10 < 10 ^ k = omega (arith, pow-suc 10 k) in
    omega (arith, digits_value_push 10 (padded k (n / 10)) (48 + n % 10), padded_value k (n / 10) small, last_value n)

-- so many digits, by the test
pub padded_are : (k n : ℕ) → are_digits k (padded k n) ≡ true
padded_are k n = and_from _ _ (eq-eqb _ _ (padded_len k n)) (padded_digits k n)

-- a point and one to nine digits are a fraction
point_is : (ds : List ℕ) (k : ℕ) → length ds ≡ k → (not (eqb k 0) && nat_le k 9) ≡ true
    → are_all_digits ds ≡ true → is_fraction (46 ∷ ds) ≡ true
point_is ds k e small h =
    let p = and_parts _ _ (subst (λ n. (not (eqb n 0) && nat_le n 9) ≡ true) (sym e) small) in
    and_from _ _ p.0 (and_from _ _ p.1 h)

padded_is : (k n : ℕ) → (not (eqb k 0) && nat_le k 9) ≡ true → is_fraction (46 ∷ padded k n) ≡ true
padded_is k n small = point_is (padded k n) k (padded_len k n) small (padded_digits k n)

padded_nanos : (k n : ℕ) → n < 10 ^ k → nanos_of (46 ∷ padded k n) ≡ n * 10 ^ (9 - k)
padded_nanos k n h =
    ap (λ m. digits_value 10 (padded k n) * 10 ^ (9 - m)) (padded_len k n)
    ∙ ap (λ v. v * 10 ^ (9 - k)) (padded_value k n h)

-- what is written for billionths is a fraction
pub written_is_fraction : (n : ℕ) → is_fraction (fraction_text n) ≡ true
written_is_fraction n = none (eqb n 0)
  where
    some : (t : Bool) → is_fraction (cond t (46 ∷ padded 6 (n / 1_000)) (46 ∷ padded 9 n)) ≡ true
    some true = padded_is 6 (n / 1_000) refl
    some false = padded_is 9 n refl

    thousands : (t : Bool) → is_fraction (cond t (46 ∷ padded 3 (n / 1_000_000))
        (cond (eqb (n % 1_000) 0) (46 ∷ padded 6 (n / 1_000)) (46 ∷ padded 9 n))) ≡ true
    thousands true = padded_is 3 (n / 1_000_000) refl
    thousands false = some (eqb (n % 1_000) 0)

    none : (t : Bool) → is_fraction (cond t [] (cond (eqb (n % 1_000_000) 0) (46 ∷ padded 3 (n / 1_000_000))
        (cond (eqb (n % 1_000) 0) (46 ∷ padded 6 (n / 1_000)) (46 ∷ padded 9 n)))) ≡ true
    none true = refl
    none false = thousands (eqb (n % 1_000_000) 0)

-- of just those billionths
pub written_nanos : (n : ℕ) → n < 1_000_000_000 → nanos_of (fraction_text n) ≡ n
written_nanos n h = none (eqb n 0) refl
  where
    some : (t : Bool) → eqb (n % 1_000) 0 ≡ t
        → nanos_of (cond t (46 ∷ padded 6 (n / 1_000)) (46 ∷ padded 9 n)) ≡ n
    some true e = let z = eqb-true _ _ e in
        padded_nanos 6 (n / 1_000) (omega arith) ∙ (omega arith)
    some false e = padded_nanos 9 n (omega arith) ∙ (omega arith)

    thousands : (t : Bool) → eqb (n % 1_000_000) 0 ≡ t → nanos_of (cond t (46 ∷ padded 3 (n / 1_000_000))
        (cond (eqb (n % 1_000) 0) (46 ∷ padded 6 (n / 1_000)) (46 ∷ padded 9 n))) ≡ n
    thousands true e = let z = eqb-true _ _ e in
        padded_nanos 3 (n / 1_000_000) (omega arith) ∙ (omega arith)
    thousands false e = some (eqb (n % 1_000) 0) refl

    none : (t : Bool) → eqb n 0 ≡ t → nanos_of (cond t [] (cond (eqb (n % 1_000_000) 0) (46 ∷ padded 3 (n / 1_000_000))
        (cond (eqb (n % 1_000) 0) (46 ∷ padded 6 (n / 1_000)) (46 ∷ padded 9 n)))) ≡ n
    none true e = sym (eqb-true n 0 e)
    none false e = thousands (eqb (n % 1_000_000) 0) refl
