-- A text is cut into the parts of a number in one way, and the tests tell whether it is one.
use Rattle.std.proofs.Common.{◌≡◌, ℕ, suc, ◌<◌, ◌≤◌, Bool, true, false, cond, not, ◌||◌, eqb, List, [], ◌∷◌, ◌++◌, length, take, drop, inl, inr, ⊎_elim, refl, sym, ap, ap₂, subst, ◌∙◌, arith, eqb-true, eq-eqb, take-append-drop}
use Rattle.std.specs.Prelude.{⊤, ◌⊎◌, ◌↔◌}
use Rattle.std.specs.Char.{digit_value}
use Rattle.std.specs.Str.Parse.{AllDigits}
use Rattle.std.proofs.Math.Seq.{take-append_seam, drop-append_seam}
use Rattle.std.proofs.lemmas.Bool.{and_parts, and_from, or_cases, cases_eq}
use Rattle.std.proofs.lemmas.Bool.Decides.{nat_tests}
use Rattle.json_events.specs.JsonNumbers.{AreSomeDigits, IsMinus, IsInt, IsFraction, IsSign, IsPower, IsExponent, NumberParts, number_text, AreNumberParts}
use Rattle.json_events.specs.WordSteps.{is_digit, is_e, is_sign}
use Rattle.json_integers.specs.NumberCut.{digits_len, minus_len, fraction_len, sign_len, cut_behind, cut_unsigned, cut_number, is_int, are_some_digits, is_exponent, are_parts}

-- the parts are the text
pub cut_text : (s : List ℕ) → number_text (cut_number s) ≡ s
cut_text s =
    let m = minus_len s in
    let u = drop m s in
    let n = digits_len u in
    let v = drop n u in
    ap (λ x. take m s ++ (take n u ++ x)) (take-append-drop (fraction_len v) v)
    ∙ ap (λ x. take m s ++ x) (take-append-drop n u)
    ∙ take-append-drop m s

-- a digit, as a byte and by its value
digit_is : (b : ℕ) → (is_digit b ≡ true) ↔ (digit_value b < 10)
digit_is b = (λ d. grind (arith, nat_tests), λ d. grind (arith, nat_tests))

-- the digits at the front are digits
pub front_digits : (s : List ℕ) → AllDigits 10 (take (digits_len s) s)
front_digits [] = tt
front_digits (b ∷ s) = choice (front_digits s) (is_digit b) refl
  where
    choice : AllDigits 10 (take (digits_len s) s) → (t : Bool) → is_digit b ≡ t
        → AllDigits 10 (take (cond t (suc (digits_len s)) 0) (b ∷ s))
    choice h true e = ((digit_is b).0 e, h)
    choice h false e = tt

-- some digits are digits, of which there is one
some_is : (ds : List ℕ) → AreSomeDigits ds ↔ (AllDigits 10 ds × (length ds ≡ 0 → ⊥))
some_is [] = (λ h. absurd h, λ h. h.1 refl)
some_is (d ∷ ds) = (λ h. (h, λ n. absurd (omega arith)), λ h. h.0)

no_length : (n : ℕ) → not (eqb n 0) ≡ true → n ≡ 0 → ⊥
no_length n h e = grind (arith, nat_tests)

minus_is : (s : List ℕ) → IsMinus (take (minus_len s) s)
minus_is [] = inl refl
minus_is (b ∷ s) = choice (eqb b 45) refl
  where
    choice : (t : Bool) → eqb b 45 ≡ t → IsMinus (take (cond t 1 0) (b ∷ s))
    choice true e = inr (ap (λ k. k ∷ []) (eqb-true b 45 e))
    choice false e = inl refl

fraction_is : (s : List ℕ) → not (eqb (length (take (fraction_len s) s)) 1) ≡ true
    → IsFraction (take (fraction_len s) s)
fraction_is [] h = tt
fraction_is (b ∷ s) h = choice (eqb b 46) refl h
  where
    choice : (t : Bool) → eqb b 46 ≡ t → not (eqb (length (take (cond t (suc (digits_len s)) 0) (b ∷ s))) 1) ≡ true
        → IsFraction (take (cond t (suc (digits_len s)) 0) (b ∷ s))
    choice true e h = (
      eqb-true b 46 e,
      (some_is (take (digits_len s) s)).1
          (front_digits s, λ z. grind (arith, nat_tests)),
    )
    choice false e h = tt

int_is : (ds : List ℕ) → AllDigits 10 ds → is_int ds ≡ true → IsInt ds
int_is [] h e = absurd (cc)
int_is (d ∷ []) h e = ⊎_elim (λ a. inl (a, refl)) (λ b. inr (from_48 d h.0 b, h)) (cases_eq d 48)
  where
    from_48 : (d : ℕ) → digit_value d < 10 → (d ≡ 48 → ⊥) → 49 ≤ d
    from_48 d h n = let k = (digit_is d).1 h in grind (arith, nat_tests)
int_is (d ∷ x ∷ xs) h e = inr (from_49 d (length (x ∷ xs)) h.0 (omega arith) e, h)
  where
    from_49 : (d n : ℕ) → digit_value d < 10 → 0 < n → (eqb n 0 || not (eqb d 48)) ≡ true → 49 ≤ d
    from_49 d n h p e = let k = (digit_is d).1 h in grind (arith, nat_tests)

-- the letter of an exponent, in either case
e_is : (b : ℕ) → (is_e b ≡ true) ↔ ((b ≡ 101) ⊎ (b ≡ 69))
e_is b = (
  λ e. ⊎_elim (λ x. inl (eqb-true b 101 x)) (λ x. inr (eqb-true b 69 x)) (or_cases _ _ e),
  λ h. ⊎_elim (λ x. subst (λ c. is_e c ≡ true) (sym x) refl) (λ x. subst (λ c. is_e c ≡ true) (sym x) refl) h,
)

sign_is : (s : List ℕ) → IsSign (take (sign_len s) s)
sign_is [] = inl refl
sign_is (b ∷ s) = choice (is_sign b) refl
  where
    choice : (t : Bool) → is_sign b ≡ t → IsSign (take (cond t 1 0) (b ∷ s))
    choice true e = ⊎_elim (λ x. inr (inr (ap (λ c. c ∷ []) (eqb-true b 43 x))))
        (λ x. inr (inl (ap (λ c. c ∷ []) (eqb-true b 45 x)))) (or_cases _ _ e)
    choice false e = inl refl

take_whole : (s : List ℕ) → take (length s) s ≡ s
take_whole [] = refl
take_whole (b ∷ s) = ap (λ x. b ∷ x) (take_whole s)

some_digits_are : (s : List ℕ) → are_some_digits s ≡ true → AreSomeDigits s
some_digits_are s h =
    let k = and_parts _ _ h in
    let e : digits_len s ≡ length s = eqb-true (digits_len s) (length s) k.1 in
    (some_is s).1 (
      subst (AllDigits 10) (ap (λ n. take n s) e ∙ take_whole s) (front_digits s),
      no_length
          (length s) k.0,
    )

power_is : (s : List ℕ) → are_some_digits (drop (sign_len s) s) ≡ true → IsPower s
power_is s h = record {
  sign = take (sign_len s) s;
  digits = drop (sign_len s) s;
  text_is = sym (take-append-drop (sign_len s) s);
  sign_is = sign_is s;
  digits_are = some_digits_are (drop (sign_len s) s) h;
}

exponent_is : (s : List ℕ) → is_exponent s ≡ true → IsExponent s
exponent_is [] h = tt
exponent_is (e ∷ power) h = let k = and_parts _ _ h in ((e_is e).0 k.0, power_is power k.1)

-- parts that the tests accept are those of a number
pub parts_are : (s : List ℕ) → are_parts (cut_number s) ≡ true → AreNumberParts (cut_number s)
parts_are s h =
    let u = drop (minus_len s) s in
    let v = drop (digits_len u) u in
    let a = and_parts _ _ h in
    let b = and_parts _ _ a.1 in
    record {
      minus = minus_is s;
      int = int_is (take (digits_len u) u) (front_digits u) a.0;
      fraction =
          fraction_is v b.0;
      exponent = exponent_is (drop (fraction_len v) v) b.1;
    }

-- the list does not go on with a digit
NoDigit : List ℕ → Type 0
NoDigit [] = ⊤
NoDigit (b ∷ bs) = is_digit b ≡ false

no_digit_e : (e : ℕ) → is_e e ≡ true → is_digit e ≡ false
no_digit_e e h = grind (arith, nat_tests)

exponent_begins : (s : List ℕ) → IsExponent s → NoDigit s
unfolding NoDigit
exponent_begins [] h = tt
exponent_begins (e ∷ power) h = no_digit_e e ((e_is e).1 h.0)

fraction_begins : (fraction exponent : List ℕ) → IsFraction fraction → IsExponent exponent
    → NoDigit (fraction ++ exponent)
unfolding NoDigit
fraction_begins [] exponent h k = exponent_begins exponent k
fraction_begins (p ∷ ds) exponent h k = subst (λ (b : ℕ). is_digit b ≡ false) (sym h.0) refl

len_of_digits : (ds r : List ℕ) → AllDigits 10 ds → NoDigit r → digits_len (ds ++ r) ≡ length ds
unfolding NoDigit
len_of_digits [] [] h n = refl
len_of_digits [] (b ∷ r) h n = ap (λ t. cond t (suc (digits_len r)) 0) n
len_of_digits (d ∷ ds) r h n = ap (λ t. cond t (suc (digits_len (ds ++ r))) 0) ((digit_is d).1 h.0)
    ∙ ap suc (len_of_digits ds r h.1 n)

-- an integer part is digits
pub int_digits : (ds : List ℕ) → IsInt ds → AllDigits 10 ds
int_digits [] h = absurd h
int_digits (d ∷ ds) h = ⊎_elim
    (λ x. ((digit_is d).0 (subst (λ (b : ℕ). is_digit b ≡ true) (sym x.0) refl), subst (AllDigits 10) (sym x.1) tt))
    (λ x. x.1) h

-- what stands behind the point is digits
pub fraction_digits_are : (s : List ℕ) → IsFraction s → AllDigits 10 (drop 1 s)
fraction_digits_are [] h = tt
fraction_digits_are (p ∷ ds) h = ((some_is ds).0 h.1).0

no_minus : (int r : List ℕ) → IsInt int → minus_len (int ++ r) ≡ 0
no_minus [] r h = absurd h
no_minus (d ∷ ds) r h = ap (λ t. cond t 1 0) (not_45 d (int_digits (d ∷ ds) h).0)
  where
    not_45 : (d : ℕ) → digit_value d < 10 → eqb d 45 ≡ false
    not_45 d h = let k = (digit_is d).1 h in grind (arith, nat_tests)

len_of_minus : (m int r : List ℕ) → IsMinus m → IsInt int → minus_len (m ++ (int ++ r)) ≡ length m
len_of_minus m int r h k = ⊎_elim
    (λ a. subst (λ (x : List ℕ). minus_len (x ++ (int ++ r)) ≡ length x) (sym a) (no_minus int r k))
    (λ a. subst (λ (x : List ℕ). minus_len (x ++ (int ++ r)) ≡ length x) (sym a) refl)
    h

no_point : (exponent : List ℕ) → IsExponent exponent → fraction_len exponent ≡ 0
no_point [] h = refl
no_point (b ∷ power) h = ap (λ t. cond t (suc (digits_len power)) 0) (not_46 b ((e_is b).1 h.0))
  where
    not_46 : (b : ℕ) → is_e b ≡ true → eqb b 46 ≡ false
    not_46 b h = grind (arith, nat_tests)

len_of_fraction : (f e : List ℕ) → IsFraction f → IsExponent e → fraction_len (f ++ e) ≡ length f
len_of_fraction [] e h k = no_point e k
len_of_fraction (p ∷ ds) e h k =
    ap (λ (b : ℕ). cond (eqb b 46) (suc (digits_len (ds ++ e))) 0) h.0
    ∙ ap suc (len_of_digits ds e (((some_is ds).0 h.1).0) (exponent_begins e k))

take_seam : (xs ys : List ℕ) (n : ℕ) → n ≡ length xs → take n (xs ++ ys) ≡ xs
take_seam xs ys n h = ap (λ k. take k (xs ++ ys)) h ∙ take-append_seam xs ys

drop_seam : (xs ys : List ℕ) (n : ℕ) → n ≡ length xs → drop n (xs ++ ys) ≡ ys
drop_seam xs ys n h = ap (λ k. drop k (xs ++ ys)) h ∙ drop-append_seam xs ys

cut_behind_is : (m i f e : List ℕ) → IsFraction f → IsExponent e
    → cut_behind m i (f ++ e) ≡ record { minus = m; int = i; fraction = f; exponent = e }
cut_behind_is m i f e h k =
    let n = len_of_fraction f e h k in
    ap₂ (λ x y. record { minus = m; int = i; fraction = x; exponent = y }) (take_seam f e (fraction_len (f ++ e)) n)
    (drop_seam f e (fraction_len (f ++ e)) n)

cut_unsigned_is : (m i f e : List ℕ) → IsInt i → IsFraction f → IsExponent e
    → cut_unsigned m (i ++ (f ++ e)) ≡ record { minus = m; int = i; fraction = f; exponent = e }
cut_unsigned_is m i f e j h k =
    let n = len_of_digits i (f ++ e) (int_digits i j) (fraction_begins f e h k) in
    ap₂ (λ x y. cut_behind m x y) (take_seam i (f ++ e) (digits_len (i ++ (f ++ e))) n)
    (drop_seam i (f ++ e) (digits_len (i ++ (f ++ e))) n)
    ∙ cut_behind_is m i f e h k

-- the parts of a number are found
pub cut_is : (q : NumberParts) → AreNumberParts q → cut_number (number_text q) ≡ q
cut_is q h =
    let r = q.fraction ++ q.exponent in
    let n = len_of_minus q.minus q.int r h.minus h.int in
    ap₂ (λ x y. cut_unsigned x y) (take_seam q.minus (q.int ++ r) (minus_len (number_text q)) n)
    (drop_seam q.minus (q.int ++ r) (minus_len (number_text q)) n)
    ∙ cut_unsigned_is q.minus q.int q.fraction q.exponent h.int h.fraction h.exponent

is_int_of : (ds : List ℕ) → IsInt ds → is_int ds ≡ true
is_int_of [] h = absurd h
is_int_of (d ∷ ds) h = ⊎_elim
    (λ x. subst (λ (s : List ℕ). is_int (d ∷ s) ≡ true) (sym x.1) refl)
    (λ x. from_49 d (length ds) x.0)
    h
  where
    from_49 : (d n : ℕ) → 49 ≤ d → (eqb n 0 || not (eqb d 48)) ≡ true
    from_49 d n h = grind (arith, nat_tests)

is_fraction_of : (f : List ℕ) → IsFraction f → not (eqb (length f) 1) ≡ true
is_fraction_of [] h = refl
is_fraction_of (p ∷ []) h = absurd h.1
is_fraction_of (p ∷ d ∷ ds) h = two (length ds)
  where
    two : (n : ℕ) → not (eqb (suc (suc n)) 1) ≡ true
    two n = grind (arith, nat_tests)

are_some_of : (ds : List ℕ) → AreSomeDigits ds → are_some_digits ds ≡ true
unfolding NoDigit
are_some_of [] h = absurd h
are_some_of (d ∷ ds) h =
    let n : digits_len (d ∷ ds) ≡ length (d ∷ ds) = ap (λ (s : List ℕ). digits_len s) (sym (append_none (d ∷ ds)))
    ∙ len_of_digits (d ∷ ds) [] h tt in
    and_from _ _ (some_length (length ds)) (eq-eqb (digits_len (d ∷ ds)) (length (d ∷ ds)) n)
  where
    append_none : (s : List ℕ) → s ++ [] ≡ s
    append_none [] = refl
    append_none (x ∷ xs) = ap (λ k. x ∷ k) (append_none xs)

    some_length : (n : ℕ) → not (eqb (suc n) 0) ≡ true
    some_length n = grind (arith, nat_tests)

no_sign : (ds : List ℕ) → AreSomeDigits ds → sign_len ds ≡ 0
no_sign [] h = absurd h
no_sign (d ∷ ds) h = ap (λ t. cond t 1 0) (not_sign d ((digit_is d).1 h.0))
  where
    not_sign : (b : ℕ) → is_digit b ≡ true → is_sign b ≡ false
    not_sign b d = grind (arith, nat_tests)

len_of_sign : (sign ds : List ℕ) → IsSign sign → AreSomeDigits ds → sign_len (sign ++ ds) ≡ length sign
len_of_sign sign ds s h = ⊎_elim
    (λ e. subst (λ (x : List ℕ). sign_len (x ++ ds) ≡ length x) (sym e) (no_sign ds h))
    (λ r. ⊎_elim (λ e. subst (λ (x : List ℕ). sign_len (x ++ ds) ≡ length x) (sym e) refl)
    (λ e. subst (λ (x : List ℕ). sign_len (x ++ ds) ≡ length x) (sym e) refl) r)
    s

-- behind its sign a power has digits
pub power_digits : (s : List ℕ) → IsPower s → AreSomeDigits (drop (sign_len s) s)
power_digits s h =
    subst AreSomeDigits (sym (ap (λ (x : List ℕ). drop (sign_len x) x) h.text_is
    ∙ drop_seam h.sign h.digits (sign_len (h.sign ++ h.digits))
    (len_of_sign h.sign h.digits h.sign_is h.digits_are))) h.digits_are

-- and nothing else
pub power_all_digits : (s : List ℕ) → IsPower s → AllDigits 10 (drop (sign_len s) s)
power_all_digits s h = ((some_is (drop (sign_len s) s)).0 (power_digits s h)).0

is_exponent_of : (s : List ℕ) → IsExponent s → is_exponent s ≡ true
is_exponent_of [] h = refl
is_exponent_of (e ∷ power) h = and_from _ _ ((e_is e).1 h.0)
    (are_some_of (drop (sign_len power) power) (power_digits power h.1))

-- the tests accept the parts of a number
pub are_parts_of : (q : NumberParts) → AreNumberParts q → are_parts q ≡ true
are_parts_of q h = and_from _ _ (is_int_of q.int h.int)
    (and_from _ _ (is_fraction_of q.fraction h.fraction) (is_exponent_of q.exponent h.exponent))
