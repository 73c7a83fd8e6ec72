-- What a JSON value without brackets means as a scalar, or which fault it has (the ProtoJSON guide, "Representation of
-- each type").
use Rattle.std.specs.Prelude.{◌^◌, ◌-◌, ℕ, ℤ, pos, negsuc, Bool, true, false, List, codes, Option, Some, None, Result, Ok, Err, if◌then◌else◌}
use Rattle.std.specs.Str.{bytes_eq}
use Rattle.std.specs.Ordering.{int_cmp, is_lt}
use Rattle.message_types.specs.declared.fields.Scalar.{Scalar}
use Rattle.message_types.specs.declared.fields.Scalar.TheVariants.{Int32, Int64, Uint64, Sint32, Sint64, Fixed64, Sfixed32, Sfixed64, Bool as BoolOf, Text as TextOf, Bytes as BytesOf, Enumeration}
use Rattle.message_types.specs.declared.messages.Known.{Known}
use Rattle.message_types.specs.declared.messages.Types.{Types}
use Rattle.schema.specs.Layers.{ItemLayer}
use Rattle.schema.specs.declared.value.Item.TheOpen.{Number, Truth, Text, Bytes}
use Rattle.schema.specs.declared.value.Value.{Value}
use Rattle.json_events.specs.JsonTree.{Mark, name, digits, text}
use Rattle.json_events.specs.declared.state.Name.{Name}
use Rattle.json_events.specs.declared.state.Name.TheVariants as names
use Rattle.json_integers.specs.ExactIntegers.{exact_integer}
use Rattle.json_integers.specs.NumberCut.{are_parts, cut_number}
use Rattle.json_meanings.specs.EnumNames.{number_named, values_of}
use Rattle.json_meanings.specs.SpelledBytes.{spelled_bytes}
use Rattle.json_meanings.specs.declared.fault.FieldKind.{FieldKind}
use Rattle.json_meanings.specs.declared.fault.FieldKind.TheVariants.{WrongShape, BadNumber, OutOfRange, BadEnum, BadText}

-- what trees are read by: the types, and the texts of the well-known types that have one
pub record Schema : Type 0 where
  pub types : Types
  pub known : Known → List ℕ → Result Value FieldKind

-- the values of the scalar kind are numbers
abbrev pub IsNumberKind : Scalar → Type 0
IsNumberKind BoolOf = ⊥
IsNumberKind TextOf = ⊥
IsNumberKind BytesOf = ⊥
IsNumberKind _ = Unit {0}

-- the least number of a kind
abbrev pub low_of : Scalar → ℤ
low_of Int32 = negsuc (2 ^ 31 - 1)
low_of Sint32 = negsuc (2 ^ 31 - 1)
low_of Sfixed32 = negsuc (2 ^ 31 - 1)
low_of (Enumeration id) = negsuc (2 ^ 31 - 1)
low_of Int64 = negsuc (2 ^ 63 - 1)
low_of Sint64 = negsuc (2 ^ 63 - 1)
low_of Sfixed64 = negsuc (2 ^ 63 - 1)
low_of _ = pos 0

-- the number behind the greatest of a kind
abbrev pub high_of : Scalar → ℤ
high_of Int32 = pos (2 ^ 31)
high_of Sint32 = pos (2 ^ 31)
high_of Sfixed32 = pos (2 ^ 31)
high_of (Enumeration id) = pos (2 ^ 31)
high_of Int64 = pos (2 ^ 63)
high_of Sint64 = pos (2 ^ 63)
high_of Sfixed64 = pos (2 ^ 63)
high_of Uint64 = pos (2 ^ 64)
high_of Fixed64 = pos (2 ^ 64)
high_of _ = pos (2 ^ 32)

-- a number as one of the kind, if it is in its range
abbrev pub in_range : Scalar → ℤ → Result ItemLayer FieldKind
in_range s z =
    if is_lt (int_cmp z (low_of s)) then Err OutOfRange
    else (if is_lt (int_cmp z (high_of s)) then Ok (Number z) else Err OutOfRange)

-- the integer of a text, if it has one, as a number of the kind
abbrev pub integer_in : Scalar → Option ℤ → Result ItemLayer FieldKind
integer_in s None = Err BadNumber
integer_in s (Some z) = in_range s z

-- the text of a number as a number of the kind
abbrev pub number_as : Scalar → List ℕ → Result ItemLayer FieldKind
number_as s t = integer_in s (exact_integer t)

-- a text as an enum's number: that which it names, or else that which it is
abbrev pub enum_as : Option ℤ → Scalar → List ℕ → Result ItemLayer FieldKind
enum_as (Some n) s t = in_range s n
enum_as None s t = if are_parts (cut_number t) then number_as s t else Err BadEnum

-- the bytes of a text, if it spells some
abbrev pub bytes_as : Option (List ℕ) → Result ItemLayer FieldKind
bytes_as (Some b) = Ok (Bytes b)
bytes_as None = Err BadText

-- the text of a truth value
abbrev pub truth_text : Bool → List ℕ
truth_text b = if b then codes "true" else codes "false"

-- a text as a truth value
abbrev pub truth_as : List ℕ → Result ItemLayer FieldKind
truth_as t =
    if bytes_eq t (codes "true") then Ok (Truth true)
    else (if bytes_eq t (codes "false") then Ok (Truth false) else Err BadText)

-- a text as a scalar: so is a map's key read
abbrev pub text_as : Types → Scalar → List ℕ → Result ItemLayer FieldKind
text_as types BoolOf t = truth_as t
text_as types TextOf t = Ok (Text t)
text_as types BytesOf t = bytes_as (spelled_bytes t)
text_as types (Enumeration id) t = enum_as (number_named (values_of types id) t) (Enumeration id) t
text_as types s t = number_as s t

-- a JSON string as a scalar: as its text, but a bool is no string
abbrev pub string_as : Types → Scalar → List ℕ → Result ItemLayer FieldKind
string_as types BoolOf t = Err WrongShape
string_as types s t = text_as types s t

-- a JSON number as a scalar, which is never an enum's name
abbrev pub digits_as : Scalar → List ℕ → Result ItemLayer FieldKind
digits_as BoolOf t = Err WrongShape
digits_as TextOf t = Err WrongShape
digits_as BytesOf t = Err WrongShape
digits_as s t = number_as s t

-- a literal name as a scalar
abbrev pub name_as : Scalar → Name → Result ItemLayer FieldKind
name_as BoolOf names.True = Ok (Truth true)
name_as BoolOf names.False = Ok (Truth false)
name_as _ _ = Err WrongShape

-- a token without brackets as a scalar
abbrev pub scalar_as : Types → Scalar → Mark → Result ItemLayer FieldKind
scalar_as types s (name n) = name_as s n
scalar_as types s (digits t) = digits_as s t
scalar_as types s (text t) = string_as types s t
scalar_as types s _ = Err WrongShape
