-- Each text means an item, or there is something wrong with it (`every_text_is_read`).
use Rattle.std.proofs.Common.{◌≡◌, ◌≢◌, ◌∙◌, ◌↔◌, ◌⊎◌, inl, inr, ℕ, Bool, true, false, List, Option, Some, None, refl, sym, subst, arith}
use Rattle.std.proofs.lemmas.Bool.{cases_lt}
use Rattle.std.proofs.lemmas.Int.{ints}
use Rattle.std.proofs.lemmas.Slice.Eq.{bytes_eq-Decides}
use Rattle.std.proofs.lemmas.Str.{IsUtf8-from_is_utf8, is_utf8-from_IsUtf8}
use Rattle.std.specs.Prelude.{ℤ, pos, negsuc, ◌≤ℤ◌, ◌<ℤ◌}
use Rattle.std.specs.Str.{bytes_eq, is_utf8}
use Rattle.json_events.specs.JsonNumbers.{DenotesInteger}
use Rattle.json_integers.specs.IntegerTexts.{IsIntegerText}
use Rattle.json_integers.specs.declared.integer_text.IntegerText.{IntegerText}
use Rattle.json_integers.specs.declared.integer_text.IntegerText.TheVariants.{NotANumber, NotAnInteger, PastRange, Integer}
use Rattle.message_types.specs.declared.fields.Scalar.{Scalar}
use Rattle.message_types.specs.declared.fields.Scalar.TheVariants.{Int32, Int64, Uint32, Uint64, Sint32, Sint64, Fixed32, Fixed64, Sfixed32, Sfixed64, Bool as BoolOf, Text as TextOf, Bytes as BytesOf, Enumeration}
use Rattle.message_types.specs.declared.messages.Types.{Types}
use Rattle.schema.specs.Validity.{IsWithin, IsScalarItem}
use Rattle.schema.specs.declared.value.Item.TheOpen.{Number, Truth, Text, Bytes}
use Rattle.base64.specs.GeneralPurpose.{IsBytes}
use Rattle.known_types.specs.BytesTexts.{IsBytesText}
use Rattle.json_meanings.specs.SpelledBytes.{spelled_bytes}
use Rattle.scalar_texts.proofs.TextBytes.{bytes_or_not, bytes_text_bytes}
use Rattle.scalar_texts.proofs.Theorems.{number_told}
use Rattle.scalar_texts.specs.ScalarTexts.{named_number, DenotesNumber, DenotesItem, IsEnumKind, IsRead}
use Rattle.json_meanings.specs.JsonScalars.{truth_text}
use Rattle.json_meanings.specs.JsonScalars.{IsNumberKind}
use Rattle.scalar_texts.specs.declared.fault.ScalarFault.TheVariants.{BadText, BadNumber, OutOfRange, BadEnum, NotUtf8}

-- ---- ranges

order : (a b : ℤ) → (a <ℤ b) ⊎ (b ≤ℤ a)
order (pos m) (pos n) =
    elim (cases_lt m n) [ inl h ↦ inl (omega (arith, ints, h)) | inr h ↦ inr (omega (arith, ints, h)) ]
order (pos m) (negsuc n) = inr (omega (arith, ints))
order (negsuc m) (pos n) = inl (omega (arith, ints))
order (negsuc m) (negsuc n) =
    elim (cases_lt n m) [ inl h ↦ inl (omega (arith, ints, h)) | inr h ↦ inr (omega (arith, ints, h)) ]

within : (low high z : ℤ) → Dec (IsWithin low high z)
within low high z =
    elim (order z low) [
      | inl under ↦ no (λ h. let a = h.0 in omega (arith, ints, under, a))
      | inr above ↦ elim (order z high) [
        | inl under ↦ yes (above, under)
        | inr past ↦ no (λ h. let b = h.1 in omega (arith, ints, past, b))
      ]
    ]

-- a number is one of the kind or not
in_kind : (s : Scalar) (z : ℤ) → IsNumberKind s → Dec (IsScalarItem s (Number z))
in_kind Int32 z k = within _ _ z
in_kind Int64 z k = within _ _ z
in_kind Uint32 z k = within _ _ z
in_kind Uint64 z k = within _ _ z
in_kind Sint32 z k = within _ _ z
in_kind Sint64 z k = within _ _ z
in_kind Fixed32 z k = within _ _ z
in_kind Fixed64 z k = within _ _ z
in_kind Sfixed32 z k = within _ _ z
in_kind Sfixed64 z k = within _ _ z
in_kind BoolOf z k = absurd k
in_kind TextOf z k = absurd k
in_kind BytesOf z k = absurd k
in_kind (Enumeration id) z k = within _ _ z

is_enum : (s : Scalar) → Dec (IsEnumKind s)
is_enum Int32 = no (λ h. h)
is_enum Int64 = no (λ h. h)
is_enum Uint32 = no (λ h. h)
is_enum Uint64 = no (λ h. h)
is_enum Sint32 = no (λ h. h)
is_enum Sint64 = no (λ h. h)
is_enum Fixed32 = no (λ h. h)
is_enum Fixed64 = no (λ h. h)
is_enum Sfixed32 = no (λ h. h)
is_enum Sfixed64 = no (λ h. h)
is_enum BoolOf = no (λ h. h)
is_enum TextOf = no (λ h. h)
is_enum BytesOf = no (λ h. h)
is_enum (Enumeration id) = yes tt

-- ---- texts of numbers

module _ (types : Types) (s : Scalar) (text : List ℕ) (kind : IsNumberKind s) where
  denoted : (z : ℤ) → DenotesItem types s text (Number z) → IsRead types s text
  denoted z d =
      elim (in_kind s z kind) [ yes h ↦ inl (Number z, (d, h)) | no n ↦ inr (OutOfRange, (kind, (z, d, n))) ]

  module _ (unnamed : named_number types s text ≡ None) where
    as_item : (z : ℤ) → DenotesInteger z text → DenotesItem types s text (Number z)
    as_item z d = subst (λ (o : Option ℤ). DenotesNumber o text z) (sym unnamed) d

    as_integer : (z : ℤ) → DenotesItem types s text (Number z) → DenotesInteger z text
    as_integer z d = subst (λ (o : Option ℤ). DenotesNumber o text z) unnamed d

    no_number : IsIntegerText text NotANumber → Dec (IsEnumKind s) → IsRead types s text
    no_number h (yes k) = inr (BadEnum, (k, (λ z d. h (as_integer z d).number), h))
    no_number h (no n) = inr (BadNumber, (kind, (λ z d. h (as_integer z d).number), (λ k. absurd (n k))))

    by_integer : (x : IntegerText) → IsIntegerText text x → IsRead types s text
    by_integer NotANumber h = no_number h (is_enum s)
    by_integer NotAnInteger h = inr (BadNumber, (kind, (λ z d. h.1 z (as_integer z d)), (λ k. h.0)))
    by_integer PastRange h =
        inr (OutOfRange, (kind, (h.0, as_item h.0 h.1, λ k. h.2 (number_told s h.0 k))))
    by_integer (Integer z) h = denoted z (as_item z h.0)

  of_number : (o : Option ℤ) → named_number types s text ≡ o → (x : IntegerText) → IsIntegerText text x
      → IsRead types s text
  of_number None e x h = by_integer e x h
  of_number (Some n) e x h = denoted n (subst (λ (o : Option ℤ). DenotesNumber o text n) (sym e) refl)

-- ---- other texts

equal_bytes : (a b : List ℕ) → Dec (a ≡ b)
equal_bytes a b = pick (bytes_eq a b) refl
  where
    pick : (t : Bool) → t ≡ bytes_eq a b → Dec (a ≡ b)
    pick true e = yes ((bytes_eq-Decides a b).0 (sym e))
    pick false e = no (λ s. let t : bytes_eq a b ≡ true = (bytes_eq-Decides a b).1 s in absurd (cc (t, e)))

no_truth : (text : List ℕ) → text ≢ truth_text true → text ≢ truth_text false → (b : Bool) → text ≢ truth_text b
no_truth text t f true = t
no_truth text t f false = f

of_truth : (types : Types) (text : List ℕ) → IsRead types BoolOf text
of_truth types text =
    elim (equal_bytes text (truth_text true)) [
      | yes e ↦ inl (Truth true, (e, tt))
      | no n ↦ elim (equal_bytes text (truth_text false)) [
        | yes e ↦ inl (Truth false, (e, tt))
        | no m ↦ inr (BadText, no_truth text n m)
      ]
    ]

of_text : (types : Types) (text : List ℕ) → IsRead types TextOf text
of_text types text = pick (is_utf8 text) refl
  where
    pick : (t : Bool) → is_utf8 text ≡ t → IsRead types TextOf text
    pick true e = inl (Text text, (refl, IsUtf8-from_is_utf8 text e))
    pick false e =
        inr (NotUtf8, (refl, λ u. let t : is_utf8 text ≡ true = is_utf8-from_IsUtf8 text u in absurd (cc (t, e))))

-- bytes are computed of the texts that spell some
abbrev AreComputed : Type 0
AreComputed = (text bytes : List ℕ) → IsBytes text → (IsBytesText text bytes ↔ (spelled_bytes text ≡ Some bytes))

module _ (computed : AreComputed) (types : Types) (text : List ℕ) where
  by_spelled : IsBytes text → (o : Option (List ℕ)) → spelled_bytes text ≡ o → IsRead types BytesOf text
  by_spelled are (Some b) e = inl (Bytes b, ((computed text b are).1 e, tt))
  by_spelled are None e = inr (BadText, λ b h. none_some b (sym e ∙ (computed text b are).0 h))
    where
      none_some : (b : List ℕ) → ◌≡◌ {A = Option (List ℕ)} None (Some b) → ⊥
      none_some b p = cc p

  of_bytes : IsRead types BytesOf text
  of_bytes = elim (bytes_or_not text) [
    | yes are ↦ by_spelled are (spelled_bytes text) refl
    | no n ↦ inr (BadText, λ b h. n (bytes_text_bytes text b h))
  ]

-- each text means an item, or there is something wrong with it
module _ (computed : AreComputed)
    (some : (text : List ℕ) → (x : IntegerText) × IsIntegerText text x)
    (types : Types) where
  number_or_fault : (s : Scalar) (text : List ℕ) → IsNumberKind s → IsRead types s text
  number_or_fault s text k =
      let x = some text in of_number types s text k (named_number types s text) refl x.0 x.1

  pub each_reading : (s : Scalar) (text : List ℕ) → IsRead types s text
  each_reading Int32 text = number_or_fault Int32 text tt
  each_reading Int64 text = number_or_fault Int64 text tt
  each_reading Uint32 text = number_or_fault Uint32 text tt
  each_reading Uint64 text = number_or_fault Uint64 text tt
  each_reading Sint32 text = number_or_fault Sint32 text tt
  each_reading Sint64 text = number_or_fault Sint64 text tt
  each_reading Fixed32 text = number_or_fault Fixed32 text tt
  each_reading Fixed64 text = number_or_fault Fixed64 text tt
  each_reading Sfixed32 text = number_or_fault Sfixed32 text tt
  each_reading Sfixed64 text = number_or_fault Sfixed64 text tt
  each_reading BoolOf text = of_truth types text
  each_reading TextOf text = of_text types text
  each_reading BytesOf text = of_bytes computed types text
  each_reading (Enumeration id) text = number_or_fault (Enumeration id) text tt
