-- A number's text is read as the integer that it denotes, where the kind has it.
use Rattle.std.proofs.Common.{◌≡◌, ◌∙◌, ◌⊎◌, ◌↔◌, inl, inr, sym, ap, subst, refl, cond, ℕ, Bool, true, false, List, Option, Some, None, Result, Ok, Err, arith}
use Rattle.std.specs.Prelude.{ℤ, ◌≤ℤ◌, ◌<ℤ◌}
use Rattle.std.specs.Ordering.{int_cmp, is_lt}
use Rattle.std.proofs.lemmas.Int.{ints}
use Rattle.message_types.specs.declared.fields.Scalar.{Scalar}
use Rattle.message_types.specs.declared.fields.Scalar.TheVariants.{Int32, Int64, Uint32, Uint64, Sint32, Sint64, Fixed32, Fixed64, Sfixed32, Sfixed64, Bool as BoolOf, Text as TextOf, Bytes as BytesOf, Enumeration}
use Rattle.schema.specs.Layers.{ItemLayer}
use Rattle.schema.specs.Validity.{IsScalarItem, IsWithin}
use Rattle.schema.specs.declared.value.Item.TheOpen.{Number}
use Rattle.json_events.specs.JsonNumbers.{DenotesInteger}
use Rattle.json_integers.specs.ExactIntegers.{exact_integer}
use Rattle.json_meanings.specs.JsonScalars.{IsNumberKind, high_of, in_range, integer_in, low_of, number_as}
use Rattle.json_meanings.specs.ScalarLaws.{DenotesNumberOf, DenotesOtherOf, NumberLawsHold, RangeLawsHold}
use Rattle.json_meanings.specs.declared.fault.FieldKind.{FieldKind}
use Rattle.json_meanings.specs.declared.fault.FieldKind.TheVariants.{BadNumber, OutOfRange}

-- a number in a range, or past it
abbrev ranged : ℤ → ℤ → ℤ → Result ItemLayer FieldKind
ranged low high z =
    cond (is_lt (int_cmp z low)) (Err OutOfRange) (cond (is_lt (int_cmp z high)) (Ok (Number z)) (Err OutOfRange))

-- a number is in a range, or it is not, and is read so
abbrev Ranged : Type 0 → ℤ → Result ItemLayer FieldKind → Type 0
Ranged Within z r = (Within × (r ≡ Ok (Number z))) ⊎ ((Within → ⊥) × (r ≡ Err OutOfRange))

range_cases : (low high z : ℤ) → Ranged (IsWithin low high z) z (ranged low high z)
range_cases low high z = by_low (is_lt (int_cmp z low)) refl
  where
    not_low : is_lt (int_cmp z low) ≡ true → IsWithin low high z → ⊥
    not_low e h = let p = h.0 in grind (arith, ints)

    not_high : is_lt (int_cmp z high) ≡ false → IsWithin low high z → ⊥
    not_high e h = let p = h.1 in grind (arith, ints)

    from_low : is_lt (int_cmp z low) ≡ false → low ≤ℤ z
    from_low e = grind (arith, ints)

    from_high : is_lt (int_cmp z high) ≡ true → z <ℤ high
    from_high e = grind (arith, ints)

    by_high : is_lt (int_cmp z low) ≡ false → (t : Bool) → is_lt (int_cmp z high) ≡ t
        → Ranged (IsWithin low high z) z (cond t (Ok (Number z)) (Err OutOfRange))
    by_high l true e = inl ((from_low l, from_high e), refl)
    by_high l false e = inr (not_high e, refl)

    by_low : (t : Bool) → is_lt (int_cmp z low) ≡ t
        → Ranged (IsWithin low high z) z
        (cond t (Err OutOfRange) (cond (is_lt (int_cmp z high)) (Ok (Number z)) (Err OutOfRange)))
    by_low true e = inr (not_low e, refl)
    by_low false e = by_high e _ refl

-- a number is one of the kind, or it is not, and is read so
pub kind_cases : (s : Scalar) (z : ℤ) → IsNumberKind s → Ranged (IsScalarItem s (Number z)) z (in_range s z)
kind_cases Int32 z n = range_cases (low_of Int32) (high_of Int32) z
kind_cases Int64 z n = range_cases (low_of Int64) (high_of Int64) z
kind_cases Uint32 z n = range_cases (low_of Uint32) (high_of Uint32) z
kind_cases Uint64 z n = range_cases (low_of Uint64) (high_of Uint64) z
kind_cases Sint32 z n = range_cases (low_of Sint32) (high_of Sint32) z
kind_cases Sint64 z n = range_cases (low_of Sint64) (high_of Sint64) z
kind_cases Fixed32 z n = range_cases (low_of Fixed32) (high_of Fixed32) z
kind_cases Fixed64 z n = range_cases (low_of Fixed64) (high_of Fixed64) z
kind_cases Sfixed32 z n = range_cases (low_of Sfixed32) (high_of Sfixed32) z
kind_cases Sfixed64 z n = range_cases (low_of Sfixed64) (high_of Sfixed64) z
kind_cases BoolOf z n = absurd n
kind_cases TextOf z n = absurd n
kind_cases BytesOf z n = absurd n
kind_cases (Enumeration id) z n = range_cases (low_of (Enumeration id)) (high_of (Enumeration id)) z

-- what is read of a number
pub range_laws : (s : Scalar) (z : ℤ) → IsNumberKind s → RangeLawsHold s z
range_laws s z number = record {
  read = λ i. (λ e. read_of i (in_range s z) e cases, λ h. kept h.1 cases ∙ ap Ok (sym h.0));
  refused = λ k. (λ e. refused_of k (in_range s z) e cases, λ h. past h.1 cases ∙ ap Err (sym h.0));
}
  where
    cases : Ranged (IsScalarItem s (Number z)) z (in_range s z)
    cases = kind_cases s z number

    read_of : (i : ItemLayer) (r : Result ItemLayer FieldKind) → r ≡ Ok i → Ranged (IsScalarItem s (Number z)) z r
        → (i ≡ Number z) × IsScalarItem s (Number z)
    read_of i r e (inl x) = let q = sym e ∙ x.1 in (cc q, x.0)
    read_of i r e (inr x) = let q = sym e ∙ x.1 in absurd (cc q)

    refused_of : (k : FieldKind) (r : Result ItemLayer FieldKind) → r ≡ Err k → Ranged (IsScalarItem s (Number z)) z r
        → (k ≡ OutOfRange) × (IsScalarItem s (Number z) → ⊥)
    refused_of k r e (inl x) = let q = sym e ∙ x.1 in absurd (cc q)
    refused_of k r e (inr x) = let q = sym e ∙ x.1 in (cc q, x.0)

    kept : IsScalarItem s (Number z) → Ranged (IsScalarItem s (Number z)) z (in_range s z) → in_range s z
        ≡ Ok (Number z)
    kept h (inl x) = x.1
    kept h (inr x) = absurd (x.0 h)

    past : (IsScalarItem s (Number z) → ⊥) → Ranged (IsScalarItem s (Number z)) z (in_range s z) → in_range s z
        ≡ Err OutOfRange
    past h (inl x) = absurd (h x.0)
    past h (inr x) = x.1

module _ (computed : (text : List ℕ) (z : ℤ) → DenotesInteger z text ↔ (exact_integer text ≡ Some z)) (s : Scalar)
    (text : List ℕ) (number : IsNumberKind s) where
  -- what is read of an integer that a text denotes
  read_as : (z : ℤ) → DenotesInteger z text → number_as s text ≡ in_range s z
  read_as z h = ap (integer_in s) ((computed text z).0 h)

  -- what is read of a text is that of the integer which it denotes, or it denotes none
  abbrev IsCase : Type 0
  IsCase =
      ((z : ℤ) × DenotesInteger z text × (number_as s text ≡ in_range s z))
      ⊎ (((z : ℤ) → DenotesInteger z text → ⊥) × (number_as s text ≡ Err BadNumber))

  text_cases : IsCase
  text_cases = by_integer (exact_integer text) refl
    where
      by_integer : (o : Option ℤ) → exact_integer text ≡ o → IsCase
      by_integer (Some z) e = inl (z, (computed text z).1 e, ap (integer_in s) e)
      by_integer None e = inr (λ z h. (let q = sym ((computed text z).0 h) ∙ e in absurd cc), ap (integer_in s) e)

  -- what is read, in each of three cases
  abbrev IsAnswer : Result ItemLayer FieldKind → Type 0
  IsAnswer (Ok i) = DenotesNumberOf s text i
  IsAnswer (Err k) =
      ((k ≡ OutOfRange) × DenotesOtherOf s text) ⊎ ((k ≡ BadNumber) × ((z : ℤ) → DenotesInteger z text → ⊥))

  answer : IsAnswer (number_as s text)
  answer = by_text text_cases
    where
      by_range : (z : ℤ) → DenotesInteger z text → (r : Result ItemLayer FieldKind)
          → Ranged (IsScalarItem s (Number z)) z r → IsAnswer r
      by_range z h (Ok i) (inl x) = (z, cc (x.1), h, x.0)
      by_range z h (Ok i) (inr x) = absurd (cc (x.1))
      by_range z h (Err k) (inl x) = absurd (cc (x.1))
      by_range z h (Err k) (inr x) = inl (cc (x.1), (z, h, x.0))

      by_text : IsCase → IsAnswer (number_as s text)
      by_text (inl x) = subst IsAnswer (sym x.2) (by_range x.0 x.1 (in_range s x.0) (kind_cases s x.0 number))
      by_text (inr x) = subst IsAnswer (sym x.1) (inr (refl, x.0))

  -- what is read of a text
  pub number_laws : NumberLawsHold s text
  number_laws = record {
    read = λ i. (λ e. subst IsAnswer e answer, λ h. read_as h.0 h.2 ∙ ((range_laws s h.0 number).read i).1 (h.1, h.3));
    out_of_range = (
      λ e. other (subst IsAnswer e answer),
      λ h. read_as h.0 h.1
          ∙ ((range_laws s h.0 number).refused OutOfRange).1 (refl, h.2),
    );
    bad_number = (λ e. none (subst IsAnswer e answer), λ h. by_none h text_cases);
    no_other = λ k e. by_kind k (subst IsAnswer e answer);
  }
    where
      other : IsAnswer (Err OutOfRange) → DenotesOtherOf s text
      other (inl x) = x.1
      other (inr x) = absurd (cc (x.0))

      none : IsAnswer (Err BadNumber) → (z : ℤ) → DenotesInteger z text → ⊥
      none (inl x) z h = absurd (cc (x.0))
      none (inr x) z h = x.1 z h

      by_none : ((z : ℤ) → DenotesInteger z text → ⊥) → IsCase → number_as s text ≡ Err BadNumber
      by_none h (inl x) = absurd (h x.0 x.1)
      by_none h (inr x) = x.1

      by_kind : (k : FieldKind) → IsAnswer (Err k) → (k ≡ BadNumber) ⊎ (k ≡ OutOfRange)
      by_kind k (inl x) = inr x.0
      by_kind k (inr x) = inl x.0
