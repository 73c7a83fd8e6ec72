-- The integer that is computed of a text is the one that the text denotes.
use Rattle.std.proofs.Common.{◌≡◌, inl, inr, ℕ, zero, suc, ◌*◌, ◌^◌, ◌%◌, ◌/◌, ◌<◌, ◌≤◌, Bool, true, false, cond, eqb, List, length, Option, Some, None, refl, sym, ap, ◌∙◌, arith}
use Rattle.std.specs.Prelude.{ℤ, pos, negsuc, ◌↔◌, nat_abs}
use Rattle.std.proofs.lemmas.Bool.{cases_lt}
use Rattle.std.proofs.Math.Nat.{mul-mod_left, mul-div_cancel, mod-eq-sub-div-mul, div-mul-le_self, one-le-pow}
use Rattle.std.proofs.lemmas.Bool.Decides.{nat_tests}
use Rattle.json_events.specs.JsonNumbers.{IsNumber, NumberParts, divisor, fraction_digits, exponent_value, with_minus, DenotesInteger}
use Rattle.json_integers.specs.ExactIntegers.{exact_of, exact_integer, quotient_of}
use Rattle.json_integers.specs.NumberCut.{are_parts, cut_number}
use Rattle.json_integers.specs.IntegerTexts.{IsIntegerText}
use Rattle.json_integers.specs.declared.integer_text.IntegerText.{IntegerText}
use Rattle.json_integers.specs.declared.integer_text.IntegerText.TheVariants.{NotANumber, NotAnInteger, PastRange, Integer}
use Rattle.json_integers.proofs.AnswerLemmas.{same_parts, no_number}
use Rattle.json_integers.proofs.CutLemmas.{cut_text, parts_are, are_parts_of}

-- a number passes the tests of its cut
tested : (s : List ℕ) → IsNumber s → are_parts (cut_number s) ≡ true
tested s n = ap are_parts (same_parts s n) ∙ are_parts_of n.parts n.allowed

-- a text is a number exactly where its cut passes the tests
pub number_tested : (s : List ℕ) → IsNumber s ↔ (are_parts (cut_number s) ≡ true)
number_tested s = (tested s, λ e. record { parts = cut_number s; text_is = sym (cut_text s); allowed = parts_are s e })

divisor_some : (z : ℤ) → 1 ≤ divisor z
divisor_some (pos n) = omega arith
divisor_some (negsuc n) = one-le-pow (suc n) 10 (omega arith)

product_some : (a b : ℕ) → 1 ≤ a → 1 ≤ b → 0 < a * b
product_some zero b p q = absurd (omega arith)
product_some (suc a) zero p q = absurd (omega arith)
product_some (suc a) (suc b) p q = omega arith

places_some : (p : NumberParts) → 0 < 10 ^ length (fraction_digits p) * divisor (exponent_value p.exponent)
places_some p =
    product_some _ _ (one-le-pow (length (fraction_digits p)) 10 (omega arith))
    (divisor_some (exponent_value p.exponent))

-- a fraction that is so many times its lower part
whole_of : (minus : List ℕ) (upper lower m : ℕ) → 0 < lower → upper ≡ m * lower
    → quotient_of minus upper lower ≡ Some (with_minus minus m)
whole_of minus upper lower m some h =
    let none : upper % lower ≡ 0 = ap (λ n. n % lower) h ∙ mul-mod_left m lower in
    let size : upper / lower ≡ m = ap (λ n. n / lower) h ∙ mul-div_cancel m some in
    ap (λ n. cond (eqb n 0) (Some (with_minus minus (upper / lower))) None) none
    ∙ ap (λ n. Some (with_minus minus n)) size

-- a fraction that is whole is so many times its lower part
of_whole : (minus : List ℕ) (upper lower : ℕ) (z : ℤ) → quotient_of minus upper lower ≡ Some z
    → (m : ℕ) × (upper ≡ m * lower) × (z ≡ with_minus minus m)
of_whole minus upper lower z h = by_rest (eqb (upper % lower) 0) refl h
  where
    whole : (n d : ℕ) → n % d ≡ 0 → n ≡ n / d * d
    whole n d none = omega (arith, mod-eq-sub-div-mul n d, div-mul-le_self n d)

    by_rest : (t : Bool) → eqb (upper % lower) 0 ≡ t → cond t (Some (with_minus minus (upper / lower))) None ≡ Some z
        → (m : ℕ) × (upper ≡ m * lower) × (z ≡ with_minus minus m)
    by_rest true none is = (upper / lower, whole upper lower (grind (arith, nat_tests)), cc)
    by_rest false some is = absurd cc

module _ (s : List ℕ) where
  -- what the text denotes is computed
  computed : (z : ℤ) → DenotesInteger z s → exact_integer s ≡ Some z
  computed z h =
      let parts = same_parts s h.number in
      ap (λ t. cond t (exact_of (cut_number s)) None) (tested s h.number)
      ∙ (ap exact_of parts
      ∙ (whole_of h.number.parts.minus _ _ h.magnitude (places_some h.number.parts) h.exact ∙ ap Some (sym h.signed)))

  -- what is computed is denoted
  denoted : (z : ℤ) → exact_integer s ≡ Some z → DenotesInteger z s
  denoted z h = by_test (are_parts (cut_number s)) refl h
    where
      by_test : (t : Bool) → are_parts (cut_number s) ≡ t → cond t (exact_of (cut_number s)) None ≡ Some z
          → DenotesInteger z s
      by_test true e is =
          let found = of_whole (cut_number s).minus _ _ z is in
          record {
            number = record { parts = cut_number s; text_is = sym (cut_text s); allowed = parts_are s e };
            magnitude = found.0;
            exact = found.1;
            signed = found.2;
          }
      by_test false e is = absurd cc

  -- a text denotes an integer exactly where that is computed
  pub exact_is : (z : ℤ) → DenotesInteger z s ↔ (exact_integer s ≡ Some z)
  exact_is z = (computed z, denoted z)

-- each text has an answer
pub each_answer : (s : List ℕ) → (x : IntegerText) × IsIntegerText s x
each_answer s = by_number (are_parts (cut_number s)) refl
  where
    of_integer : (z : ℤ) → DenotesInteger z s → (x : IntegerText) × IsIntegerText s x
    of_integer z d =
        elim (cases_lt (nat_abs z) (2 ^ 64)) [
          | inl told ↦ (Integer z, (d, told))
          | inr past ↦ (PastRange, (z, d, λ told. omega (arith, past, told)))
        ]

    by_integer : are_parts (cut_number s) ≡ true → (o : Option ℤ) → exact_integer s ≡ o
        → (x : IntegerText) × IsIntegerText s x
    by_integer number None e = (NotAnInteger, ((number_tested s).1 number, λ z d. absurd (cc (e, (exact_is s z).0 d))))
    by_integer number (Some z) e = of_integer z ((exact_is s z).1 e)

    by_number : (t : Bool) → are_parts (cut_number s) ≡ t → (x : IntegerText) × IsIntegerText s x
    by_number true e = by_integer e (exact_integer s) refl
    by_number false e = (NotANumber, no_number s e)
