-- A number is one integer at most.
use Rattle.std.proofs.Common.{◌≡◌, ℕ, suc, ◌*◌, ◌/◌, ◌^◌, ◌<◌, ◌≤◌, List, [], ◌∷◌, ◌++◌, length, get_or, ⊎_elim, refl, sym, ap, ap₂, subst, ◌∙◌, arith, lit<, drop}
use Rattle.std.specs.Prelude.{ℤ, pos, negsuc, ⊤}
use Rattle.std.specs.Char.{digit_value}
use Rattle.std.specs.Str.Parse.{AllDigits}
use Rattle.std.proofs.Math.Nat.{one-le-pow, mul-div_cancel, le-mul_of_pos_right}
use Rattle.std.proofs.lemmas.Bool.Decides.{nat_tests}
use Rattle.json_events.specs.JsonNumbers.{AreSomeDigits, IsMinus, IsInt, IsFraction, IsExponent, NumberParts, number_text, AreNumberParts, fraction_digits, significand, multiplier, divisor, exponent_value, with_minus, DenotesInteger}

-- the list does not go on with a digit
NoDigit : List ℕ → Type 0
NoDigit [] = ⊤
NoDigit (b ∷ bs) = digit_value b < 10 → ⊥

-- two lists of digits that go on with no digit
same_digits : (xs ys r t : List ℕ) → AllDigits 10 xs → AllDigits 10 ys → NoDigit r → NoDigit t → xs ++ r ≡ ys ++ t → (xs ≡ ys) × (r ≡ t)
unfolding NoDigit
same_digits [] [] r t h k m n e = (refl, e)
same_digits [] (y ∷ ys) r t h k m n e = absurd (subst NoDigit e m k.0)
same_digits (x ∷ xs) [] r t h k m n e = absurd (subst NoDigit (sym e) n h.0)
same_digits (x ∷ xs) (y ∷ ys) r t h k m n e =
    let head : x ≡ y = cc in
    let tail : xs ++ r ≡ ys ++ t = cc in
    let p = same_digits xs ys r t h.1 k.1 m n tail in
    (ap₂ (λ z zs. z ∷ zs) head p.0, p.1)

no_digit_e : (e : ℕ) → e ≡ 101 → digit_value e < 10 → ⊥
no_digit_e e h k = grind (arith, nat_tests)

no_digit_upper_e : (e : ℕ) → e ≡ 69 → digit_value e < 10 → ⊥
no_digit_upper_e e h k = grind (arith, nat_tests)

no_digit_point : (p : ℕ) → p ≡ 46 → digit_value p < 10 → ⊥
no_digit_point p h k = grind (arith, nat_tests)

-- an exponent begins with no digit
exponent_begins : (s : List ℕ) → IsExponent s → NoDigit s
unfolding NoDigit
exponent_begins [] h = tt
exponent_begins (e ∷ power) h = ⊎_elim (λ k. no_digit_e e k) (λ k. no_digit_upper_e e k) h.0

-- nor does a fraction with what follows it
fraction_begins : (fraction exponent : List ℕ) → IsFraction fraction → IsExponent exponent → NoDigit (fraction ++ exponent)
unfolding NoDigit
fraction_begins [] exponent h k = exponent_begins exponent k
fraction_begins (p ∷ ds) exponent h k = no_digit_point p h.0

some_digits : (ds : List ℕ) → AreSomeDigits ds → AllDigits 10 ds
some_digits [] h = absurd h
some_digits (d ∷ ds) h = h

int_digits : (ds : List ℕ) → IsInt ds → AllDigits 10 ds
int_digits [] h = absurd h
int_digits (d ∷ ds) h = ⊎_elim (λ x. subst (λ k. AllDigits 10 (k ∷ ds)) (sym x.0) (subst (λ (xs : List ℕ). AllDigits 10 (48 ∷ xs)) (sym x.1) (lit< tt, tt))) (λ x. x.1) h

-- an integer part begins with no minus
no_minus : (int r w : List ℕ) → IsInt int → int ++ r ≡ 45 ∷ w → ⊥
no_minus [] r w h e = h
no_minus (d ∷ ds) r w h e =
    let head : d ≡ 45 = ap (λ (xs : List ℕ). get_or xs 0 0) e in
    ⊎_elim (λ x. let f : d ≡ 48 = x.0 in omega arith) (λ x. let f : 49 ≤ d = x.0 in omega arith) h

-- two signs before integer parts
same_minus : (m n x y r t : List ℕ) → IsMinus m → IsMinus n → IsInt x → IsInt y → m ++ (x ++ r) ≡ n ++ (y ++ t) → (m ≡ n) × (x ++ r ≡ y ++ t)
same_minus m n x y r t h k i j e =
    ⊎_elim
    (λ a. ⊎_elim
    (λ b. (a ∙ sym b, ap (λ xs. xs ++ (x ++ r)) (sym a) ∙ e ∙ ap (λ xs. xs ++ (y ++ t)) b))
    (λ b. absurd (no_minus x r (y ++ t) i (ap (λ xs. xs ++ (x ++ r)) (sym a) ∙ e ∙ ap (λ xs. xs ++ (y ++ t)) b)))
    k)
    (λ a. ⊎_elim
    (λ b. absurd (no_minus y t (x ++ r) j (sym (ap (λ xs. xs ++ (x ++ r)) (sym a) ∙ e ∙ ap (λ xs. xs ++ (y ++ t)) b))))
    (λ b. (a ∙ sym b, behind_minus (x ++ r) (y ++ t) (ap (λ xs. xs ++ (x ++ r)) (sym a) ∙ e ∙ ap (λ xs. xs ++ (y ++ t)) b)))
    k)
    h
  where
    behind_minus : (u v : List ℕ) → 45 ∷ u ≡ 45 ∷ v → u ≡ v
    behind_minus u v e = ap (drop 1) e

-- an exponent begins with no point
no_point : (exponent w : List ℕ) → IsExponent exponent → exponent ≡ 46 ∷ w → ⊥
no_point [] w h e = cc
no_point (b ∷ power) w h e =
    let head : b ≡ 46 = ap (λ (xs : List ℕ). get_or xs 0 0) e in
    ⊎_elim (λ x. let f : b ≡ 101 = x in omega arith) (λ x. let f : b ≡ 69 = x in omega arith) h.0

-- two fractions before exponents
same_fraction : (x y r t : List ℕ) → IsFraction x → IsFraction y → IsExponent r → IsExponent t → x ++ r ≡ y ++ t → (x ≡ y) × (r ≡ t)
same_fraction [] [] r t h k i j e = (refl, e)
same_fraction [] (p ∷ ds) r t h k i j e = absurd (no_point r (ds ++ t) i (e ∙ ap (λ b. b ∷ (ds ++ t)) k.0))
same_fraction (p ∷ ds) [] r t h k i j e = absurd (no_point t (ds ++ r) j (sym e ∙ ap (λ b. b ∷ (ds ++ r)) h.0))
same_fraction (p ∷ ds) (q ∷ es) r t h k i j e =
    let tail : ds ++ r ≡ es ++ t = cc in
    let s = same_digits ds es r t (some_digits ds h.1) (some_digits es k.1) (exponent_begins r i) (exponent_begins t j) tail in
    (ap₂ (λ z zs. z ∷ zs) (h.0 ∙ sym k.0) s.0, s.1)

-- a number has its parts in one way
record AreSame (p q : NumberParts) : Type 0 where
  pub minus : p.minus ≡ q.minus
  pub int : p.int ≡ q.int
  pub fraction : p.fraction ≡ q.fraction
  pub exponent : p.exponent ≡ q.exponent

same_parts : (p q : NumberParts) → AreNumberParts p → AreNumberParts q → number_text p ≡ number_text q → AreSame p q
same_parts p q h k e =
    let m = same_minus p.minus q.minus p.int q.int (p.fraction ++ p.exponent) (q.fraction ++ q.exponent) h.minus k.minus h.int k.int e in
    let i = same_digits p.int q.int (p.fraction ++ p.exponent) (q.fraction ++ q.exponent) (int_digits p.int h.int) (int_digits q.int k.int)
    (fraction_begins p.fraction p.exponent h.fraction h.exponent) (fraction_begins q.fraction q.exponent k.fraction k.exponent) m.1 in
    let f = same_fraction p.fraction q.fraction p.exponent q.exponent h.fraction k.fraction h.exponent k.exponent i.1 in
    record { minus = m.0; int = i.0; fraction = f.0; exponent = f.1 }

divisor_positive : (z : ℤ) → 0 < divisor z
divisor_positive (pos n) = lit< tt
divisor_positive (negsuc n) = let h = one-le-pow (suc n) 10 (lit< tt) in h

both_positive : (a b : ℕ) → 0 < a → 0 < b → 0 < a * b
both_positive a b h k = omega (arith, le-mul_of_pos_right {m = b} a k)

-- a product that is not 0 has one other factor
same_factor : (m n d : ℕ) → 0 < d → m * d ≡ n * d → m ≡ n
same_factor m n d h e = sym (mul-div_cancel m h) ∙ ap (λ k. k / d) e ∙ mul-div_cancel n h

-- the parts of one number are one
parts_are : (p q : NumberParts) → AreSame p q → p ≡ q
parts_are p q s = λ i. record { minus = s.minus i; int = s.int i; fraction = s.fraction i; exponent = s.exponent i }

-- what the integer is multiplied by, to be the number's digits
abbrev scale : NumberParts → ℕ
scale p = 10 ^ length (fraction_digits p) * divisor (exponent_value p.exponent)

scale_positive : (p : NumberParts) → 0 < scale p
scale_positive p =
    let h : 1 ≤ 10 ^ length (fraction_digits p) = one-le-pow (length (fraction_digits p)) 10 (lit< tt) in
    both_positive (10 ^ length (fraction_digits p)) (divisor (exponent_value p.exponent)) (omega arith) (divisor_positive (exponent_value p.exponent))

-- a number is one integer
pub one_integer : (y z : ℤ) (text : List ℕ) → DenotesInteger y text → DenotesInteger z text → y ≡ z
one_integer y z text a b =
    let p = a.number.parts in
    let q = b.number.parts in
    let same : p ≡ q = parts_are p q (same_parts p q a.number.allowed b.number.allowed (sym a.number.text_is ∙ b.number.text_is)) in
    let magnitude : a.magnitude ≡ b.magnitude = same_factor a.magnitude b.magnitude (scale p) (scale_positive p)
    (sym a.exact ∙ ap (λ (r : NumberParts). significand r * multiplier (exponent_value r.exponent)) same ∙ b.exact ∙ ap (λ (r : NumberParts). b.magnitude * scale r) (sym same)) in
    a.signed ∙ ap₂ (λ (r : NumberParts) (n : ℕ). with_minus r.minus n) same magnitude ∙ sym b.signed
