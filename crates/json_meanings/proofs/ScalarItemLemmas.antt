-- What is read of a token is a value of its kind.
use Rattle.std.proofs.Common.{◌≡◌, sym, subst, refl, cond, ℕ, Bool, true, false, List, codes, Option, Some, None, Result, Ok, Err}
use Rattle.std.specs.Prelude.{ℤ}
use Rattle.std.specs.Str.{IsUtf8, bytes_eq}
use Rattle.message_types.specs.declared.fields.Scalar.{Scalar}
use Rattle.message_types.specs.declared.fields.Scalar.TheVariants.{Int32, Int64, Uint32, Uint64, Sint32, Sint64, Fixed32, Fixed64, Sfixed32, Sfixed64, Bool as BoolOf, Text as TextOf, Bytes as BytesOf, Enumeration}
use Rattle.message_types.specs.declared.messages.Types.{Types}
use Rattle.schema.specs.Layers.{ItemLayer}
use Rattle.schema.specs.Soundness.{IsKeyKind}
use Rattle.schema.specs.Validity.{IsScalarItem, key_item}
use Rattle.schema.specs.declared.value.Item.TheOpen.{Number, Truth, Text, Bytes, Message}
use Rattle.json_events.specs.JsonTree.{Mark, name, digits, text, opens, closes, comma, colon, key}
use Rattle.json_events.specs.declared.state.Name.{Name}
use Rattle.json_events.specs.declared.state.Name.TheVariants as names
use Rattle.json_integers.specs.NumberCut.{are_parts, cut_number}
use Rattle.json_meanings.specs.EnumNames.{number_named, values_of}
use Rattle.json_meanings.specs.JsonScalars.{IsNumberKind, bytes_as, digits_as, enum_as, in_range, name_as, number_as, scalar_as, string_as, text_as, truth_as}
use Rattle.json_meanings.specs.PartialMessages.{as_key}
use Rattle.json_meanings.specs.ScalarLaws.{NumberLawsHold, RangeLawsHold}
use Rattle.json_meanings.specs.SpelledBytes.{spelled_bytes}
use Rattle.json_meanings.specs.declared.fault.FieldKind.{FieldKind}
use Rattle.json_meanings.specs.declared.fault.FieldKind.TheVariants.{BadEnum, BadText}
use Rattle.json_meanings.specs.ValidLaws.{MarkIsUtf8}

-- what is read is a value of the kind
abbrev pub IsReadOf : Scalar → Result ItemLayer FieldKind → Type 0
IsReadOf s (Ok i) = IsScalarItem s i
IsReadOf s (Err k) = Unit {0}

module _ (numbers : (s : Scalar) (t : List ℕ) → IsNumberKind s → NumberLawsHold s t)
    (ranges : (s : Scalar) (z : ℤ) → IsNumberKind s → RangeLawsHold s z) (types : Types) where
  number_read : (s : Scalar) (t : List ℕ) → IsNumberKind s → IsReadOf s (number_as s t)
  number_read s t number = by_result (number_as s t) refl
    where
      by_result : (r : Result ItemLayer FieldKind) → number_as s t ≡ r → IsReadOf s r
      by_result (Ok i) e = let h = ((numbers s t number).read i).0 e in subst (IsScalarItem s) (sym h.1) h.3
      by_result (Err k) e = tt

  range_read : (s : Scalar) (z : ℤ) → IsNumberKind s → IsReadOf s (in_range s z)
  range_read s z number = by_result (in_range s z) refl
    where
      by_result : (r : Result ItemLayer FieldKind) → in_range s z ≡ r → IsReadOf s r
      by_result (Ok i) e = let h = ((ranges s z number).read i).0 e in subst (IsScalarItem s) (sym h.0) h.1
      by_result (Err k) e = tt

  enum_read : (s : Scalar) (o : Option ℤ) (t : List ℕ) → IsNumberKind s → IsReadOf s (enum_as o s t)
  enum_read s (Some n) t number = range_read s n number
  enum_read s None t number = by_test (are_parts (cut_number t))
    where
      by_test : (b : Bool) → IsReadOf s (cond b (number_as s t) (Err BadEnum))
      by_test true = number_read s t number
      by_test false = tt

  truth_read : (t : List ℕ) → IsReadOf BoolOf (truth_as t)
  truth_read t = by_true (bytes_eq t (codes "true"))
    where
      by_false : (b : Bool) → IsReadOf BoolOf (cond b (Ok (Truth false)) (Err BadText))
      by_false true = tt
      by_false false = tt

      by_true : (b : Bool)
          → IsReadOf BoolOf
          (cond b (Ok (Truth true)) (cond (bytes_eq t (codes "false")) (Ok (Truth false)) (Err BadText)))
      by_true true = tt
      by_true false = by_false (bytes_eq t (codes "false"))

  bytes_read : (o : Option (List ℕ)) → IsReadOf BytesOf (bytes_as o)
  bytes_read (Some b) = tt
  bytes_read None = tt

  -- a text as a scalar
  pub text_read : (s : Scalar) (t : List ℕ) → IsUtf8 t → IsReadOf s (text_as types s t)
  text_read Int32 t utf8 = number_read Int32 t tt
  text_read Int64 t utf8 = number_read Int64 t tt
  text_read Uint32 t utf8 = number_read Uint32 t tt
  text_read Uint64 t utf8 = number_read Uint64 t tt
  text_read Sint32 t utf8 = number_read Sint32 t tt
  text_read Sint64 t utf8 = number_read Sint64 t tt
  text_read Fixed32 t utf8 = number_read Fixed32 t tt
  text_read Fixed64 t utf8 = number_read Fixed64 t tt
  text_read Sfixed32 t utf8 = number_read Sfixed32 t tt
  text_read Sfixed64 t utf8 = number_read Sfixed64 t tt
  text_read BoolOf t utf8 = truth_read t
  text_read TextOf t utf8 = utf8
  text_read BytesOf t utf8 = bytes_read (spelled_bytes t)
  text_read (Enumeration id) t utf8 = enum_read (Enumeration id) (number_named (values_of types id) t) t tt

  string_read : (s : Scalar) (t : List ℕ) → IsUtf8 t → IsReadOf s (string_as types s t)
  string_read Int32 t utf8 = number_read Int32 t tt
  string_read Int64 t utf8 = number_read Int64 t tt
  string_read Uint32 t utf8 = number_read Uint32 t tt
  string_read Uint64 t utf8 = number_read Uint64 t tt
  string_read Sint32 t utf8 = number_read Sint32 t tt
  string_read Sint64 t utf8 = number_read Sint64 t tt
  string_read Fixed32 t utf8 = number_read Fixed32 t tt
  string_read Fixed64 t utf8 = number_read Fixed64 t tt
  string_read Sfixed32 t utf8 = number_read Sfixed32 t tt
  string_read Sfixed64 t utf8 = number_read Sfixed64 t tt
  string_read BoolOf t utf8 = tt
  string_read TextOf t utf8 = utf8
  string_read BytesOf t utf8 = bytes_read (spelled_bytes t)
  string_read (Enumeration id) t utf8 = enum_read (Enumeration id) (number_named (values_of types id) t) t tt

  digits_read : (s : Scalar) (t : List ℕ) → IsReadOf s (digits_as s t)
  digits_read Int32 t = number_read Int32 t tt
  digits_read Int64 t = number_read Int64 t tt
  digits_read Uint32 t = number_read Uint32 t tt
  digits_read Uint64 t = number_read Uint64 t tt
  digits_read Sint32 t = number_read Sint32 t tt
  digits_read Sint64 t = number_read Sint64 t tt
  digits_read Fixed32 t = number_read Fixed32 t tt
  digits_read Fixed64 t = number_read Fixed64 t tt
  digits_read Sfixed32 t = number_read Sfixed32 t tt
  digits_read Sfixed64 t = number_read Sfixed64 t tt
  digits_read BoolOf t = tt
  digits_read TextOf t = tt
  digits_read BytesOf t = tt
  digits_read (Enumeration id) t = number_read (Enumeration id) t tt

  name_read : (s : Scalar) (n : Name) → IsReadOf s (name_as s n)
  name_read BoolOf names.True = tt
  name_read BoolOf names.False = tt
  name_read BoolOf names.Null = tt
  name_read Int32 n = tt
  name_read Int64 n = tt
  name_read Uint32 n = tt
  name_read Uint64 n = tt
  name_read Sint32 n = tt
  name_read Sint64 n = tt
  name_read Fixed32 n = tt
  name_read Fixed64 n = tt
  name_read Sfixed32 n = tt
  name_read Sfixed64 n = tt
  name_read TextOf n = tt
  name_read BytesOf n = tt
  name_read (Enumeration id) n = tt

  -- a token without brackets as a scalar
  pub scalar_read : (s : Scalar) (m : Mark) → MarkIsUtf8 m → IsReadOf s (scalar_as types s m)
  scalar_read s (name n) utf8 = name_read s n
  scalar_read s (digits t) utf8 = digits_read s t
  scalar_read s (text t) utf8 = string_read s t utf8
  scalar_read s (opens b) utf8 = tt
  scalar_read s (closes b) utf8 = tt
  scalar_read s comma utf8 = tt
  scalar_read s colon utf8 = tt
  scalar_read s (key t) utf8 = tt

  -- an item of a kind of keys is a key
  pub key_read : (s : Scalar) (i : ItemLayer) → IsKeyKind s → IsScalarItem s i → IsScalarItem s (key_item (as_key i))
  key_read s (Number z) is h = h
  key_read s (Truth b) is h = h
  key_read s (Text t) is h = h
  key_read Int32 (Bytes b) is h = absurd h
  key_read Int64 (Bytes b) is h = absurd h
  key_read Uint32 (Bytes b) is h = absurd h
  key_read Uint64 (Bytes b) is h = absurd h
  key_read Sint32 (Bytes b) is h = absurd h
  key_read Sint64 (Bytes b) is h = absurd h
  key_read Fixed32 (Bytes b) is h = absurd h
  key_read Fixed64 (Bytes b) is h = absurd h
  key_read Sfixed32 (Bytes b) is h = absurd h
  key_read Sfixed64 (Bytes b) is h = absurd h
  key_read BoolOf (Bytes b) is h = absurd h
  key_read TextOf (Bytes b) is h = absurd h
  key_read BytesOf (Bytes b) is h = absurd is
  key_read (Enumeration id) (Bytes b) is h = absurd h
  key_read Int32 (Message v) is h = absurd h
  key_read Int64 (Message v) is h = absurd h
  key_read Uint32 (Message v) is h = absurd h
  key_read Uint64 (Message v) is h = absurd h
  key_read Sint32 (Message v) is h = absurd h
  key_read Sint64 (Message v) is h = absurd h
  key_read Fixed32 (Message v) is h = absurd h
  key_read Fixed64 (Message v) is h = absurd h
  key_read Sfixed32 (Message v) is h = absurd h
  key_read Sfixed64 (Message v) is h = absurd h
  key_read BoolOf (Message v) is h = absurd h
  key_read TextOf (Message v) is h = absurd h
  key_read BytesOf (Message v) is h = absurd h
  key_read (Enumeration id) (Message v) is h = absurd h
