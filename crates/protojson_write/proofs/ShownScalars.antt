-- The text of a scalar is that of a token that is read as the scalar.
use Rattle.std.proofs.Common.{◌≡◌, ◌∙◌, ◌<◌, ◌↔◌, ap, refl, arith, ℕ, zero, suc, Bool, true, false, List, [], ◌∷◌, codes, map, Option, Some, None, Ok}
use Rattle.std.specs.Prelude.{◌^◌, ℤ, nat_abs}
use Rattle.std.specs.Fmt.{signed_decimal}
use Rattle.std.specs.List.{AllByRecursion, list_all}
use Rattle.std.specs.Str.{IsUtf8}
use Rattle.std.proofs.lemmas.Int.{ints}
use Rattle.base.specs.Bytes.{AreBytes}
use Rattle.message_types.specs.declared.enums.EnumId.{EnumId}
use Rattle.message_types.specs.declared.enums.EnumType.{EnumType}
use Rattle.message_types.specs.declared.enums.EnumValue.{EnumValue}
use Rattle.message_types.specs.declared.fields.Scalar.{Scalar}
use Rattle.message_types.specs.declared.fields.Scalar.TheVariants.{Int32, Int64, Uint32, Uint64, Sint32, Sint64, Fixed32, Fixed64, Sfixed32, Sfixed64, Bool as BoolOf, Text as TextOf, Bytes as BytesOf, Enumeration}
use Rattle.message_types.specs.declared.messages.Types.{Types}
use Rattle.schema.specs.Layers.{ItemLayer}
use Rattle.schema.specs.Soundness.{AreNamesApart, IsKeyKind, IsSound}
use Rattle.schema.specs.Validity.{IsScalarItem, key_item}
use Rattle.schema.specs.declared.key.Key.{Key}
use Rattle.schema.specs.declared.key.Key.TheVariants.{Number as NumberKey, Truth as TruthKey, Text as TextKey}
use Rattle.schema.specs.declared.value.Item.TheOpen.{Number, Truth, Text, Bytes}
use Rattle.schema.specs.declared.value.Value.{Value}
use Rattle.json_events.specs.JsonNumbers.{DenotesInteger, IsNumber}
use Rattle.json_events.specs.JsonStrings.{IsString}
use Rattle.json_events.specs.JsonTree.{digits, text}
use Rattle.json_events.specs.StringOutput.{json_string}
use Rattle.json_meanings.specs.EnumNames.{values_of}
use Rattle.json_meanings.specs.JsonScalars.{IsNumberKind, bytes_as, enum_as, number_as, scalar_as, text_as, truth_text}
use Rattle.json_meanings.specs.ScalarLaws.{NumberLawsHold, RangeLawsHold}
use Rattle.json_meanings.specs.SpelledBytes.{spelled_bytes}
use Rattle.known_types.specs.BytesTexts.{IsBytesText, bytes_text, is_written_byte}
use Rattle.protojson_write.specs.ScalarOutput.{enum_text, key_text, name_of, quoted, scalar_text}
use Rattle.protojson_write.specs.ShownMeans.{HasUtf8Names, ItemHoldsBytes}
use Rattle.protojson_write.proofs.PlainTexts.{ArePlain, integer_plain, plain_string, symbols_plain}
use Rattle.protojson_write.proofs.ShownNames.{apart_enums, mapped_names, named_all, named_back, values_all}
use Rattle.protojson_write.proofs.ShownTokens.{IsLeafText, Leaf, leaf_mark, number_leaf, text_leaf, truth_leaf}

-- what the crates below promise of the texts of scalars
pub record ScalarsAreReadBack : Type 0 where
  pub strings : (t : List ℕ) → IsUtf8 t → IsString t (json_string t)
  pub integers : (z : ℤ) → nat_abs z < 2 ^ 64 → DenotesInteger z (signed_decimal z)
  pub numbers : (s : Scalar) (t : List ℕ) → IsNumberKind s → NumberLawsHold s t
  pub ranges : (s : Scalar) (z : ℤ) → IsNumberKind s → RangeLawsHold s z
  pub spelled : (t b : List ℕ) → AreBytes t → (IsBytesText t b ↔ (spelled_bytes t ≡ Some b))
  pub written : (b : List ℕ) → AreBytes b → IsBytesText (bytes_text b) b
  pub symbols : (b : List ℕ) → AreBytes b → list_all is_written_byte (bytes_text b) ≡ true

-- a number of each kind has a size below that of 64 bits
size_within : (s : Scalar) (z : ℤ) → IsScalarItem s (Number z) → nat_abs z < 2 ^ 64
size_within Int32 z h = let a = h.0 in let b = h.1 in grind (arith, ints)
size_within Int64 z h = let a = h.0 in let b = h.1 in grind (arith, ints)
size_within Uint32 z h = let a = h.0 in let b = h.1 in grind (arith, ints)
size_within Uint64 z h = let a = h.0 in let b = h.1 in grind (arith, ints)
size_within Sint32 z h = let a = h.0 in let b = h.1 in grind (arith, ints)
size_within Sint64 z h = let a = h.0 in let b = h.1 in grind (arith, ints)
size_within Fixed32 z h = let a = h.0 in let b = h.1 in grind (arith, ints)
size_within Fixed64 z h = let a = h.0 in let b = h.1 in grind (arith, ints)
size_within Sfixed32 z h = let a = h.0 in let b = h.1 in grind (arith, ints)
size_within Sfixed64 z h = let a = h.0 in let b = h.1 in grind (arith, ints)
size_within (Enumeration id) z h = let a = h.0 in let b = h.1 in grind (arith, ints)
size_within BoolOf z h = absurd h
size_within TextOf z h = absurd h
size_within BytesOf z h = absurd h

symbols_are_bytes : (t : List ℕ) → ArePlain t → AreBytes t
symbols_are_bytes [] h i = omega arith
symbols_are_bytes (b ∷ t) h zero = let high = h.0.high in omega (arith, high)
symbols_are_bytes (b ∷ t) h (suc i) = symbols_are_bytes t h.1 i

-- a bool, by its text
truth_back : (types : Types) (b : Bool) → text_as types BoolOf (truth_text b) ≡ Ok (Truth b)
truth_back types true = refl
truth_back types false = refl

truth_leaf_back : (types : Types) (b : Bool) → scalar_as types BoolOf (leaf_mark (truth_leaf b)) ≡ Ok (Truth b)
truth_leaf_back types true = refl
truth_leaf_back types false = refl

truth_plain : (b : Bool) → ArePlain (truth_text b)
truth_plain true = symbols_plain (codes "true") refl
truth_plain false = symbols_plain (codes "false") refl

module _ (laws : ScalarsAreReadBack) (types : Types) (sound : IsSound types) (utf8 : HasUtf8Names types) where
  -- the text is that of a token that is read as the item
  abbrev pub HasScalarText : Scalar → ItemLayer → List ℕ → Type 0
  HasScalarText s i w = (p : Leaf) × IsLeafText p w × (scalar_as types s (leaf_mark p) ≡ Ok i)

  denoted : (s : Scalar) (z : ℤ) → IsScalarItem s (Number z) → DenotesInteger z (signed_decimal z)
  denoted s z h = laws.integers z (size_within s z h)

  -- the digits of a number are read as it
  number_back : (s : Scalar) (z : ℤ) → IsNumberKind s → IsScalarItem s (Number z)
      → number_as s (signed_decimal z) ≡ Ok (Number z)
  number_back s z kind h =
      ((laws.numbers s (signed_decimal z) kind).read (Number z)).1 (z, refl, denoted s z h, h)

  number_spelled : (s : Scalar) (z : ℤ) → IsScalarItem s (Number z) → IsNumber (signed_decimal z)
  number_spelled s z h = (denoted s z h).number

  -- in quotes they are a string
  integer_string : (s : Scalar) (z : ℤ) → IsScalarItem s (Number z)
      → IsString (signed_decimal z) (quoted (signed_decimal z))
  integer_string s z h = plain_string laws.strings (signed_decimal z) (integer_plain z (size_within s z h))

  -- a number as it is
  bare : (s : Scalar) (z : ℤ) → IsNumberKind s → IsScalarItem s (Number z)
      → scalar_as types s (digits (signed_decimal z)) ≡ number_as s (signed_decimal z)
      → HasScalarText s (Number z) (signed_decimal z)
  bare s z kind h as_number =
      (number_leaf (signed_decimal z), (refl, number_spelled s z h), as_number ∙ number_back s z kind h)

  -- a number in quotes
  in_quotes : (s : Scalar) (z : ℤ) → IsNumberKind s → IsScalarItem s (Number z)
      → scalar_as types s (text (signed_decimal z)) ≡ number_as s (signed_decimal z)
      → HasScalarText s (Number z) (quoted (signed_decimal z))
  in_quotes s z kind h as_number =
      (text_leaf (signed_decimal z), integer_string s z h, as_number ∙ number_back s z kind h)

  enum_back : (id : EnumId) (z : ℤ) (o : Option (List ℕ)) → name_of (values_of types id) z ≡ o
      → IsScalarItem (Enumeration id) (Number z)
      → HasScalarText (Enumeration id) (Number z) (enum_text o z)
  enum_back id z None e h = (
    number_leaf (signed_decimal z),
    (refl, number_spelled (Enumeration id) z h),
    number_back (Enumeration id) z tt h,
  )
  enum_back id z (Some t) e h =
      let names_utf8 =
      named_all IsUtf8 (values_of types id) z t
      (values_all (λ vs. AllByRecursion IsUtf8 (map (λ (v : EnumValue). v.name) vs)) types id
      (utf8_enums types.enums utf8.values) tt) e in
      let back =
      named_back (values_of types id) z t
      (values_all AreNamesApart types id (apart_enums types.enums sound.enums) tt) e in (
        text_leaf t,
        laws.strings t names_utf8,
        ap (λ o. enum_as o (Enumeration id) t) back
            ∙ ((laws.ranges (Enumeration id) z tt).read (Number z)).1 (refl, h),
      )
    where
      utf8_enums : (es : List EnumType)
          → AllByRecursion (λ (e : EnumType). AllByRecursion (λ (v : EnumValue). IsUtf8 v.name) e.values) es
          → AllByRecursion (λ (e : EnumType). AllByRecursion IsUtf8 (map (λ (v : EnumValue). v.name) e.values)) es
      utf8_enums [] all = tt
      utf8_enums (x ∷ es) all = (mapped_names x.values all.0, utf8_enums es all.1)

  bytes_back : (b : List ℕ) → AreBytes b → HasScalarText BytesOf (Bytes b) (quoted (bytes_text b))
  bytes_back b h =
      let plain = symbols_plain (bytes_text b) (laws.symbols b h) in (
        text_leaf (bytes_text b),
        plain_string laws.strings (bytes_text b) plain,
        ap bytes_as ((laws.spelled (bytes_text b) b (symbols_are_bytes (bytes_text b) plain)).0 (laws.written b h)),
      )

  -- a scalar
  pub scalar_shown : (Holds : Value → Type 0) (s : Scalar) (i : ItemLayer) → IsScalarItem s i → ItemHoldsBytes Holds i
      → HasScalarText s i (scalar_text types s i)
  scalar_shown Holds Int32 (Number z) h b = bare Int32 z tt h refl
  scalar_shown Holds Uint32 (Number z) h b = bare Uint32 z tt h refl
  scalar_shown Holds Sint32 (Number z) h b = bare Sint32 z tt h refl
  scalar_shown Holds Fixed32 (Number z) h b = bare Fixed32 z tt h refl
  scalar_shown Holds Sfixed32 (Number z) h b = bare Sfixed32 z tt h refl
  scalar_shown Holds Int64 (Number z) h b = in_quotes Int64 z tt h refl
  scalar_shown Holds Uint64 (Number z) h b = in_quotes Uint64 z tt h refl
  scalar_shown Holds Sint64 (Number z) h b = in_quotes Sint64 z tt h refl
  scalar_shown Holds Fixed64 (Number z) h b = in_quotes Fixed64 z tt h refl
  scalar_shown Holds Sfixed64 (Number z) h b = in_quotes Sfixed64 z tt h refl
  scalar_shown Holds (Enumeration id) (Number z) h b = enum_back id z (name_of (values_of types id) z) refl h
  scalar_shown Holds BoolOf (Truth t) h b = (truth_leaf t, refl, truth_leaf_back types t)
  scalar_shown Holds TextOf (Text t) h b = (text_leaf t, laws.strings t h, refl)
  scalar_shown Holds BytesOf (Bytes t) h b = bytes_back t b
  scalar_shown Holds s i h b = absurd h

  number_key : (s : Scalar) (z : ℤ) → IsNumberKind s → IsScalarItem s (Number z)
      → text_as types s (signed_decimal z) ≡ number_as s (signed_decimal z)
      → (t : List ℕ) × IsString t (quoted (signed_decimal z)) × (text_as types s t ≡ Ok (Number z))
  number_key s z kind h as_number =
      (signed_decimal z, integer_string s z h, as_number ∙ number_back s z kind h)

  -- the key of an entry: a string that is read as it
  pub key_shown : (s : Scalar) (key : Key) → IsKeyKind s → IsScalarItem s (key_item key)
      → (t : List ℕ) × IsString t (key_text key) × (text_as types s t ≡ Ok (key_item key))
  key_shown Int32 (NumberKey z) k h = number_key Int32 z tt h refl
  key_shown Int64 (NumberKey z) k h = number_key Int64 z tt h refl
  key_shown Uint32 (NumberKey z) k h = number_key Uint32 z tt h refl
  key_shown Uint64 (NumberKey z) k h = number_key Uint64 z tt h refl
  key_shown Sint32 (NumberKey z) k h = number_key Sint32 z tt h refl
  key_shown Sint64 (NumberKey z) k h = number_key Sint64 z tt h refl
  key_shown Fixed32 (NumberKey z) k h = number_key Fixed32 z tt h refl
  key_shown Fixed64 (NumberKey z) k h = number_key Fixed64 z tt h refl
  key_shown Sfixed32 (NumberKey z) k h = number_key Sfixed32 z tt h refl
  key_shown Sfixed64 (NumberKey z) k h = number_key Sfixed64 z tt h refl
  key_shown BoolOf (TruthKey b) k h =
      (truth_text b, plain_string laws.strings (truth_text b) (truth_plain b), truth_back types b)
  key_shown TextOf (TextKey t) k h = (t, laws.strings t h, refl)
  key_shown (Enumeration id) key k h = absurd k
  key_shown BytesOf key k h = absurd k
  key_shown s key k h = absurd h
