-- A text is read as a key exactly as it is by itself.
use Rattle.std.proofs.Common.{◌≡◌, ◌≢◌, ◌∙◌, ◌↔◌, ◌⊎◌, inl, inr, sym, ap, subst, refl, cond, ℕ, Bool, true, false, List, codes, Option, Some, None, Result, Ok, Err}
use Rattle.std.specs.Prelude.{ℤ}
use Rattle.std.specs.Str.{IsUtf8, bytes_eq}
use Rattle.std.proofs.lemmas.Slice.Eq.{bytes_eq-Decides}
use Rattle.message_types.specs.declared.fields.Scalar.{Scalar}
use Rattle.message_types.specs.declared.fields.Scalar.TheVariants.{Int32, Int64, Uint32, Uint64, Sint32, Sint64, Fixed32, Fixed64, Sfixed32, Sfixed64, Bool as BoolOf, Text as TextOf, Bytes as BytesOf, Enumeration}
use Rattle.message_types.specs.declared.messages.Types.{Types}
use Rattle.schema.specs.Layers.{ItemLayer}
use Rattle.schema.specs.declared.value.Item.TheOpen.{Truth}
use Rattle.json_events.specs.JsonNumbers.{IsNumber, DenotesInteger}
use Rattle.json_integers.specs.NumberCut.{are_parts, cut_number}
use Rattle.json_meanings.specs.EnumNames.{number_named, values_of}
use Rattle.json_meanings.specs.JsonScalars.{IsNumberKind, bytes_as, enum_as, in_range, number_as, text_as, truth_as}
use Rattle.json_meanings.specs.SpelledBytes.{spelled_bytes}
use Rattle.known_types.specs.BytesTexts.{IsBytesText}
use Rattle.base64.specs.GeneralPurpose.{IsBytes}
use Rattle.json_meanings.specs.ScalarLaws.{NumberLawsHold, RangeLawsHold}
use Rattle.json_meanings.specs.declared.fault.FieldKind.{FieldKind}
use Rattle.json_meanings.specs.declared.fault.FieldKind.TheVariants as kinds
use Rattle.scalar_texts.specs.KeyTexts.{HasKeyFault, KeyLawsHold, key_fault}
use Rattle.scalar_texts.specs.ScalarTexts.{DenotesNumber, IsEnumKind, IsScalarText, named_number}
use Rattle.json_meanings.specs.JsonScalars.{truth_text}
use Rattle.scalar_texts.specs.declared.fault.ScalarFault.TheVariants.{BadText, BadNumber, OutOfRange, BadEnum}
use Rattle.scalar_texts.proofs.TextBytes.{utf8_bytes}
use Rattle.scalar_texts.proofs.ReadingLemmas.{layer_fault, one_fault, one_layer}

module _ (numbers : (s : Scalar) (text : List ℕ) → IsNumberKind s → NumberLawsHold s text)
    (ranges : (s : Scalar) (z : ℤ) → IsNumberKind s → RangeLawsHold s z)
    (tested : (text : List ℕ) → IsNumber text ↔ (are_parts (cut_number text) ≡ true))
    (computed : (text bytes : List ℕ) → IsBytes text → (IsBytesText text bytes ↔ (spelled_bytes text ≡ Some bytes)))
    (types : Types) (text : List ℕ) where
  -- what is read of a text is what it means, or its fault
  abbrev IsAnswer : Scalar → Result ItemLayer FieldKind → Type 0
  IsAnswer s (Ok i) = IsScalarText types s text i
  IsAnswer s (Err k) = HasKeyFault types s text k

  -- a text that names no number
  number_answer : (s : Scalar) → named_number types s text ≡ None → IsNumberKind s → (IsEnumKind s → IsNumber text)
      → IsAnswer s (number_as s text)
  number_answer s unnamed number enum = by_result (number_as s text) refl
    where
      laws : NumberLawsHold s text
      laws = numbers s text number

      denoted : (z : ℤ) → DenotesInteger z text → DenotesNumber (named_number types s text) text z
      denoted z h = subst (λ (o : Option ℤ). DenotesNumber o text z) (sym unnamed) h

      integer : (z : ℤ) → DenotesNumber (named_number types s text) text z → DenotesInteger z text
      integer z h = subst (λ (o : Option ℤ). DenotesNumber o text z) unnamed h

      by_fault : (k : FieldKind) → number_as s text ≡ Err k → ((k ≡ kinds.BadNumber) ⊎ (k ≡ kinds.OutOfRange))
          → HasKeyFault types s text k
      by_fault k e (inl is) =
          let none = laws.bad_number.0 (e ∙ ap Err is) in
          (BadNumber, ap Some (sym is), (number, λ z h. none z (integer z h), enum))
      by_fault k e (inr is) =
          let other = laws.out_of_range.0 (e ∙ ap Err is) in
          (OutOfRange, ap Some (sym is), (number, (other.0, denoted other.0 other.1, other.2)))

      by_result : (r : Result ItemLayer FieldKind) → number_as s text ≡ r → IsAnswer s r
      by_result (Ok i) e =
          let h = (laws.read i).0 e in
          subst (IsScalarText types s text) (sym h.1) (denoted h.0 h.2, h.3)
      by_result (Err k) e = by_fault k e (laws.no_other k e)

  -- a text that names a number
  named_answer : (s : Scalar) (n : ℤ) → named_number types s text ≡ Some n → IsNumberKind s → IsAnswer s (in_range s n)
  named_answer s n named number = by_result (in_range s n) refl
    where
      laws : RangeLawsHold s n
      laws = ranges s n number

      is : (z : ℤ) → z ≡ n → DenotesNumber (named_number types s text) text z
      is z h = subst (λ (o : Option ℤ). DenotesNumber o text z) (sym named) h

      by_result : (r : Result ItemLayer FieldKind) → in_range s n ≡ r → IsAnswer s r
      by_result (Ok i) e =
          let h = (laws.read i).0 e in
          subst (IsScalarText types s text) (sym h.0) (is n refl, h.1)
      by_result (Err k) e =
          let h = (laws.refused k).0 e in
          (OutOfRange, ap Some (sym h.0), (number, (n, is n refl, h.1)))

  truth_answer : IsAnswer BoolOf (truth_as text)
  truth_answer = by_true _ refl
    where
      is_not : (w : List ℕ) → bytes_eq text w ≡ false → text ≡ w → ⊥
      is_not w f h = let t = (bytes_eq-Decides text w).1 h in absurd cc

      by_false : bytes_eq text (codes "true") ≡ false → (t : Bool) → bytes_eq text (codes "false") ≡ t
          → IsAnswer BoolOf (cond t (Ok (Truth false)) (Err kinds.BadText))
      by_false not_true true e = ((bytes_eq-Decides text (codes "false")).0 e, tt)
      by_false not_true false e = (BadText, refl, neither)
        where
          neither : (b : Bool) → text ≢ truth_text b
          neither true = is_not (codes "true") not_true
          neither false = is_not (codes "false") e

      by_true : (t : Bool) → bytes_eq text (codes "true") ≡ t
          → IsAnswer BoolOf
          (cond t (Ok (Truth true)) (cond (bytes_eq text (codes "false")) (Ok (Truth false)) (Err kinds.BadText)))
      by_true true e = ((bytes_eq-Decides text (codes "true")).0 e, tt)
      by_true false e = by_false e _ refl

  enum_answer : (s : Scalar) → IsNumberKind s → IsEnumKind s → (o : Option ℤ) → named_number types s text ≡ o
      → IsAnswer s (enum_as o s text)
  enum_answer s number enum (Some n) e = named_answer s n e number
  enum_answer s number enum None e = by_test (are_parts (cut_number text)) refl
    where
      no_number : are_parts (cut_number text) ≡ false → IsNumber text → ⊥
      no_number f h = let t = (tested text).0 h in absurd cc

      none : are_parts (cut_number text) ≡ false → (z : ℤ) → DenotesNumber (named_number types s text) text z → ⊥
      none f z h =
          let d : DenotesInteger z text = subst (λ (o : Option ℤ). DenotesNumber o text z) e h in no_number f d.number

      by_test : (t : Bool) → are_parts (cut_number text) ≡ t
          → IsAnswer s (cond t (number_as s text) (Err kinds.BadEnum))
      by_test true t = number_answer s e number (λ h. (tested text).1 t)
      by_test false t = (BadEnum, refl, (enum, none t, no_number t))

  bytes_answer : IsBytes text → (o : Option (List ℕ)) → spelled_bytes text ≡ o → IsAnswer BytesOf (bytes_as o)
  bytes_answer are (Some b) e = ((computed text b are).1 e, tt)
  bytes_answer are None e = (BadText, refl, λ b h. none_some b (sym e ∙ (computed text b are).0 h))
    where
      none_some : (b : List ℕ) → ◌≡◌ {A = Option (List ℕ)} None (Some b) → ⊥
      none_some b p = cc p

  -- what is read of a text
  answer : (s : Scalar) → IsUtf8 text → IsAnswer s (text_as types s text)
  answer Int32 utf8 = number_answer Int32 refl tt (λ h. absurd h)
  answer Int64 utf8 = number_answer Int64 refl tt (λ h. absurd h)
  answer Uint32 utf8 = number_answer Uint32 refl tt (λ h. absurd h)
  answer Uint64 utf8 = number_answer Uint64 refl tt (λ h. absurd h)
  answer Sint32 utf8 = number_answer Sint32 refl tt (λ h. absurd h)
  answer Sint64 utf8 = number_answer Sint64 refl tt (λ h. absurd h)
  answer Fixed32 utf8 = number_answer Fixed32 refl tt (λ h. absurd h)
  answer Fixed64 utf8 = number_answer Fixed64 refl tt (λ h. absurd h)
  answer Sfixed32 utf8 = number_answer Sfixed32 refl tt (λ h. absurd h)
  answer Sfixed64 utf8 = number_answer Sfixed64 refl tt (λ h. absurd h)
  answer BoolOf utf8 = truth_answer
  answer TextOf utf8 = (refl, utf8)
  answer BytesOf utf8 = bytes_answer (utf8_bytes text utf8) (spelled_bytes text) refl
  answer (Enumeration id) utf8 = enum_answer (Enumeration id) tt tt (number_named (values_of types id) text) refl

  module _ (one : (y z : ℤ) (text : List ℕ) → DenotesInteger y text → DenotesInteger z text → y ≡ z)
      (spelled : (text a b : List ℕ) → IsBytesText text a → IsBytesText text b → a ≡ b) (s : Scalar)
      (utf8 : IsUtf8 text) where
    same : IsAnswer s (text_as types s text)
    same = answer s utf8

    -- it is the one that a text has by itself
    pub key_laws : KeyLawsHold types s text
    key_laws = record {
      read = λ i. (λ e. subst (IsAnswer s) e same, λ h. by_read i h (text_as types s text) refl);
      fault = λ k. (λ e. subst (IsAnswer s) e same, λ h. by_fault k h (text_as types s text) refl);
    }
      where
        by_read : (i : ItemLayer) → IsScalarText types s text i → (r : Result ItemLayer FieldKind)
            → text_as types s text ≡ r → r ≡ Ok i
        by_read i h (Ok j) e = ap Ok (one_layer one spelled types s text j i (subst (IsAnswer s) e same) h)
        by_read i h (Err k) e =
            let f : HasKeyFault types s text k = subst (IsAnswer s) e same in
            absurd (layer_fault one spelled types s text i f.0 h f.2)

        by_fault : (k : FieldKind) → HasKeyFault types s text k → (r : Result ItemLayer FieldKind)
            → text_as types s text ≡ r → r ≡ Err k
        by_fault k h (Ok j) e = absurd (layer_fault one spelled types s text j h.0 (subst (IsAnswer s) e same) h.2)
        by_fault k h (Err l) e =
            let f : HasKeyFault types s text l = subst (IsAnswer s) e same in
            let found : key_fault f.0 ≡ Some l = f.1 in
            let wanted : key_fault h.0 ≡ Some k = h.1 in
            let both : f.0 ≡ h.0 = one_fault one spelled types s text f.0 h.0 f.2 h.2 in
            let kinds_are : Some l ≡ Some k = sym found ∙ (ap key_fault both ∙ wanted) in
            ap Err (cc kinds_are)
