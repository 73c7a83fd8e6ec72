-- The answer for a text is the one that the definitions give it, and there is one.
use Rattle.std.proofs.Common.{◌≡◌, ℕ, zero, suc, ◌^◌, ◌<◌, ◌≤◌, Bool, true, false, cond, ltb, List, [], ◌∷◌, ◌++◌, length, Option, Some, None, refl, sym, ap, subst, ◌∙◌, arith, length-append, length-drop}
use Rattle.std.specs.Prelude.{ℤ, nat_abs}
use Rattle.std.proofs.lemmas.Bool.Decides.{nat_tests}
use Rattle.json_events.specs.JsonNumbers.{IsNumber, NumberParts, fraction_digits, with_minus, DenotesInteger}
use Rattle.json_integers.specs.IntegerTexts.{IsTold, IsIntegerText}
use Rattle.json_integers.specs.NumberCut.{are_parts, cut_number}
use Rattle.json_integers.specs.WholeNumbers.{told, parts_text}
use Rattle.json_integers.specs.declared.integer_text.IntegerText.{IntegerText}
use Rattle.json_integers.specs.declared.integer_text.IntegerText.TheVariants.{NotANumber, NotAnInteger, PastRange, Integer}
use Rattle.json_integers.proofs.CutLemmas.{cut_text, cut_is, parts_are, are_parts_of}
use Rattle.json_integers.proofs.MagnitudeLemmas.{Finds, IsMagnitude, magnitude_found}

-- a minus changes no magnitude
size_with_minus : (m : List ℕ) (n : ℕ) → nat_abs (with_minus m n) ≡ n
size_with_minus [] n = refl
size_with_minus (x ∷ xs) zero = refl
size_with_minus (x ∷ xs) (suc n) = refl

-- a number has the parts that are found
pub same_parts : (s : List ℕ) (n : IsNumber s) → cut_number s ≡ n.parts
same_parts s n = ap cut_number n.text_is ∙ cut_is n.parts n.allowed

-- the tests refuse what is no number
pub no_number : (s : List ℕ) → are_parts (cut_number s) ≡ false → IsNumber s → ⊥
no_number s e n = let t : are_parts (cut_number s) ≡ true = ap are_parts (same_parts s n)
    ∙ are_parts_of n.parts n.allowed in absurd (cc)

module _ (s : List ℕ) (e : are_parts (cut_number s) ≡ true) where
  number : IsNumber s
  number = record { parts = cut_number s; text_is = sym (cut_text s); allowed = parts_are s e }

  integer : (m : ℕ) → IsMagnitude (cut_number s) m → DenotesInteger (with_minus (cut_number s).minus m) s
  integer m h = record {
    number =
        record { parts = cut_number s; text_is = sym (cut_text s); allowed = parts_are s e };
    magnitude = m;
    exact =
        h;
    signed = refl;
  }

  magnitude_in : (z : ℤ) (h : DenotesInteger z s) → IsMagnitude (cut_number s) h.magnitude
  magnitude_in z h = subst (λ (q : NumberParts). IsMagnitude q h.magnitude) (sym (same_parts s h.number)) h.exact

  short_digits : length s < 2 ^ 64 → length ((cut_number s).int ++ fraction_digits (cut_number s)) < 2 ^ 64
  short_digits h =
      let p = cut_number s in
      omega (
        arith,
        ap length (cut_text s),
        length-append p.int (fraction_digits p),
        length-append p.minus (p.int ++ (p.fraction ++ p.exponent)),
        length-append p.int (p.fraction ++ p.exponent),
        length-append p.fraction p.exponent,
        length-drop 1 p.fraction,
      )

  told_is : (o : Option ℕ) → Finds (IsMagnitude (cut_number s)) o → IsIntegerText s (told (cut_number s).minus o)
  told_is None f = (number, λ z h. f h.magnitude (magnitude_in z h))
  told_is (Some x) f = choice (ltb x (2 ^ 64)) refl
    where
      choice : (t : Bool) → ltb x (2 ^ 64) ≡ t
          → IsIntegerText s (cond t (Integer (with_minus (cut_number s).minus x)) PastRange)
      choice true h =
          let l : x < 2 ^ 64 = below x h in
          let m : f.0 ≡ x = omega (arith, f.2) in
          (integer x (subst (IsMagnitude (cut_number s)) m f.1), omega (arith, size_with_minus (cut_number s).minus x))
        where
          below : (x : ℕ) → ltb x (2 ^ 64) ≡ true → x < 2 ^ 64
          below x h = grind (arith, nat_tests)
      choice false h =
          let l : 2 ^ 64 ≤ x = above x h in (
            with_minus (cut_number s).minus f.0,
            integer f.0 f.1,
            λ
                (t : IsTold (with_minus (cut_number s).minus f.0)). omega
                (arith, f.2, size_with_minus (cut_number s).minus f.0),
          )
        where
          above : (x : ℕ) → ltb x (2 ^ 64) ≡ false → 2 ^ 64 ≤ x
          above x h = grind (arith, nat_tests)

  -- the answer for the parts of a number is that of the text
  pub parts_answer : length s < 2 ^ 64 → IsIntegerText s (parts_text (cut_number s))
  parts_answer h = told_is _ (magnitude_found (cut_number s) (parts_are s e) (short_digits h))

-- a text has one answer alone, as a number is one integer at most
module _ (one : (y z : ℤ) (s : List ℕ) → DenotesInteger y s → DenotesInteger z s → y ≡ z) (s : List ℕ) where
  pub one_answer : (x y : IntegerText) → IsIntegerText s x → IsIntegerText s y → x ≡ y
  one_answer NotANumber NotANumber h k = refl
  one_answer NotANumber NotAnInteger h k = absurd (h k.0)
  one_answer NotANumber PastRange h k = absurd (h k.1.number)
  one_answer NotANumber (Integer z) h k = absurd (h k.0.number)
  one_answer NotAnInteger NotANumber h k = absurd (k h.0)
  one_answer NotAnInteger NotAnInteger h k = refl
  one_answer NotAnInteger PastRange h k = absurd (h.1 k.0 k.1)
  one_answer NotAnInteger (Integer z) h k = absurd (h.1 z k.0)
  one_answer PastRange NotANumber h k = absurd (k h.1.number)
  one_answer PastRange NotAnInteger h k = absurd (k.1 h.0 h.1)
  one_answer PastRange PastRange h k = refl
  one_answer PastRange (Integer z) h k = absurd (h.2 (subst IsTold (one z h.0 s k.0 h.1) k.1))
  one_answer (Integer z) NotANumber h k = absurd (k h.0.number)
  one_answer (Integer z) NotAnInteger h k = absurd (k.1 z h.0)
  one_answer (Integer z) PastRange h k = absurd (k.2 (subst IsTold (one z k.0 s h.0 k.1) h.1))
  one_answer (Integer y) (Integer z) h k = ap Integer (one y z s h.0 k.0)
