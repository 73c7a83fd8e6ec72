-- The texts of numbers, truth values, strings, bytes and enums, and of the defaults of their kinds (the ProtoJSON
-- guide).
use Rattle.std.specs.Prelude.{◌++◌, ℕ, ℤ, pos, false, List, [], ◌∷◌, Option, Some, None, if◌then◌else◌}
use Rattle.std.specs.Fmt.{signed_decimal}
use Rattle.std.specs.Ordering.{int_eq}
use Rattle.json_events.specs.StringOutput.{json_string}
use Rattle.known_types.specs.BytesTexts.{bytes_text}
use Rattle.message_types.specs.declared.enums.EnumValue.{EnumValue}
use Rattle.message_types.specs.declared.fields.Scalar.{Scalar}
use Rattle.message_types.specs.declared.fields.Scalar.TheVariants.{Int64, Uint64, Sint64, Fixed64, Sfixed64, Bool as BoolOf, Text as TextOf, Bytes as BytesOf, Enumeration}
use Rattle.message_types.specs.declared.messages.Types.{Types}
use Rattle.schema.specs.Layers.{ItemLayer}
use Rattle.schema.specs.declared.key.Key.{Key}
use Rattle.schema.specs.declared.key.Key.TheVariants.{Number as NumberKey, Truth as TruthKey, Text as TextKey}
use Rattle.schema.specs.declared.value.Item.TheOpen.{Number, Truth, Text, Bytes, Message}
use Rattle.json_meanings.specs.EnumNames.{values_of}
use Rattle.json_meanings.specs.JsonScalars.{truth_text}

-- a text between quotation marks, where none of its bytes wants an escape
abbrev pub quoted : List ℕ → List ℕ
quoted text = 34 ∷ (text ++ 34 ∷ [])

-- the first declared name of a number
abbrev pub name_of : List EnumValue → ℤ → Option (List ℕ)
name_of [] z = None
name_of (v ∷ vs) z = if int_eq v.number z then Some v.name else name_of vs z

-- a number of an enum: the name, where it has one, and else the number
abbrev pub enum_text : Option (List ℕ) → ℤ → List ℕ
enum_text (Some name) z = json_string name
enum_text None z = signed_decimal z

-- a number of a scalar kind: as a string where the kind has 64 bits
abbrev pub number_text : Types → Scalar → ℤ → List ℕ
number_text types Int64 z = quoted (signed_decimal z)
number_text types Uint64 z = quoted (signed_decimal z)
number_text types Sint64 z = quoted (signed_decimal z)
number_text types Fixed64 z = quoted (signed_decimal z)
number_text types Sfixed64 z = quoted (signed_decimal z)
number_text types (Enumeration id) z = enum_text (name_of (values_of types id) z) z
number_text types _ z = signed_decimal z

-- an item of a scalar kind
abbrev pub scalar_text : Types → Scalar → ItemLayer → List ℕ
scalar_text types s (Number z) = number_text types s z
scalar_text types s (Truth t) = truth_text t
scalar_text types s (Text t) = json_string t
scalar_text types s (Bytes b) = quoted (bytes_text b)
scalar_text types s (Message v) = []

-- the default of a scalar kind, as an item
abbrev pub default_of : Scalar → ItemLayer
default_of BoolOf = Truth false
default_of TextOf = Text []
default_of BytesOf = Bytes []
default_of _ = Number (pos 0)

-- a key of a map, as the name of a member
abbrev pub key_text : Key → List ℕ
key_text (NumberKey z) = quoted (signed_decimal z)
key_text (TruthKey t) = quoted (truth_text t)
key_text (TextKey t) = json_string t
