-- What is read of a text by itself is what a token with it means.
use Rattle.std.proofs.Common.{◌≡◌, sym, subst, refl, ℕ, List, Result, Ok, Err}
use Rattle.std.specs.Prelude.{ℤ}
use Rattle.std.specs.Str.{IsUtf8}
use Rattle.message_types.specs.declared.fields.Scalar.{Scalar}
use Rattle.message_types.specs.declared.messages.Types.{Types}
use Rattle.schema.specs.Layers.{ItemLayer}
use Rattle.schema.specs.declared.value.Item.TheOpen.{Number}
use Rattle.schema.specs.declared.value.Item.{Item, out-Item}
use Rattle.json_events.specs.JsonNumbers.{DenotesInteger}
use Rattle.json_meanings.specs.JsonScalars.{IsNumberKind, number_as, text_as}
use Rattle.json_meanings.specs.ScalarLaws.{NumberLawsHold}
use Rattle.json_meanings.specs.declared.fault.FieldKind.{FieldKind}
use Rattle.json_meanings.specs.declared.fault.FieldKind.TheVariants as kinds
use Rattle.scalar_texts.specs.KeyTexts.{KeyLawsHold}
use Rattle.scalar_texts.specs.ScalarMeanings.{IsNumberReading}
use Rattle.scalar_texts.specs.ScalarTexts.{IsScalarReading}
use Rattle.protojson_read.specs.TokenAnswers.{Gives, number_fault, text_refusal}
use Rattle.scalar_texts.specs.declared.fault.ScalarFault.{ScalarFault}
use Rattle.scalar_texts.specs.declared.fault.ScalarFault.TheVariants.{BadText, BadNumber, OutOfRange, BadEnum, NotUtf8, NoMemory}
use Rattle.protojson_read.specs.declared.refusal.Refusal.TheVariants.{Fault}

-- a fault that the definitions have too
refused : (r : Result ItemLayer FieldKind) (k : FieldKind) → r ≡ Err k → Gives (Err (Fault k)) r
refused r k e = subst (Gives (Err (Fault k))) (sym e) refl

-- an item that the definitions have too
given : (r : Result ItemLayer FieldKind) (i : Item) (j : ItemLayer) → r ≡ Ok j → out-Item i ≡ j → Gives (Ok i) r
given r i j e is = subst (Gives (Ok i)) (sym e) is

module _ (laws : (types : Types) (s : Scalar) (text : List ℕ) → IsUtf8 text → KeyLawsHold types s text) (types : Types)
    (s : Scalar) (text : List ℕ) (utf8 : IsUtf8 text) where
  -- an item that is read of a text
  pub key_read : (i : Item) → IsScalarReading types s text (Ok i) → Gives (Ok i) (text_as types s text)
  key_read i h = given (text_as types s text) i (out-Item i) (((laws types s text utf8).read (out-Item i)).1 h) refl

  -- what is wrong with it
  pub key_refused : (f : ScalarFault) → IsScalarReading types s text (Err f)
      → Gives (Err (text_refusal f)) (text_as types s text)
  key_refused BadText h =
      refused _ kinds.BadText (((laws types s text utf8).fault kinds.BadText).1 (BadText, refl, h))
  key_refused BadNumber h =
      refused _ kinds.BadNumber (((laws types s text utf8).fault kinds.BadNumber).1 (BadNumber, refl, h))
  key_refused OutOfRange h =
      refused _ kinds.OutOfRange (((laws types s text utf8).fault kinds.OutOfRange).1 (OutOfRange, refl, h))
  key_refused BadEnum h =
      refused _ kinds.BadEnum (((laws types s text utf8).fault kinds.BadEnum).1 (BadEnum, refl, h))
  key_refused NotUtf8 h = absurd (h.1 utf8)
  key_refused NoMemory h = tt

module _ (laws : (s : Scalar) (text : List ℕ) → IsNumberKind s → NumberLawsHold s text) (s : Scalar) (text : List ℕ)
    (kind : IsNumberKind s) where
  -- a number that is read of a text
  pub digits_read : (i : Item) (z : ℤ) → out-Item i ≡ Number z → IsNumberReading s text (Ok z)
      → Gives (Ok i) (number_as s text)
  digits_read i z is h =
      given _ i (Number z) (((laws s text kind).read (Number z)).1 (z, refl, h.0, h.1)) is

  none : ((z : ℤ) → DenotesInteger z text → ⊥) → Gives (Err (Fault kinds.BadNumber)) (number_as s text)
  none h = refused _ kinds.BadNumber ((laws s text kind).bad_number.1 h)

  -- what is wrong with it
  pub digits_refused : (f : ScalarFault) → IsNumberReading s text (Err f)
      → Gives (Err (Fault (number_fault f))) (number_as s text)
  digits_refused BadText h = absurd h
  digits_refused BadNumber h = none h.0
  digits_refused OutOfRange h = refused _ kinds.OutOfRange ((laws s text kind).out_of_range.1 h)
  digits_refused BadEnum h = none (λ z d. h.1 d.number)
  digits_refused NotUtf8 h = absurd h
  digits_refused NoMemory h = absurd h
