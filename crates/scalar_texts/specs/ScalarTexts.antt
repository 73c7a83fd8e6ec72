-- What the text of a scalar means, and what is wrong with it (the ProtoJSON guide, "Representation of each type"; RFC
-- 8259, section 6): the text of a value of a path or a query, or of a map's key.
use Rattle.std.specs.Prelude.{◌≢◌, ◌≡◌, ◌⊎◌, ℕ, ℤ, Bool, List, Option, Some, None, Result, Ok, Err}
use Rattle.std.specs.Str.{IsUtf8}
use Rattle.json_events.specs.JsonNumbers.{IsNumber, DenotesInteger}
use Rattle.message_types.specs.declared.fields.Scalar.{Scalar}
use Rattle.message_types.specs.declared.fields.Scalar.TheVariants.{Bool as BoolOf, Text as TextOf, Bytes as BytesOf, Enumeration}
use Rattle.message_types.specs.declared.messages.Types.{Types}
use Rattle.schema.specs.Layers.{ItemLayer}
use Rattle.schema.specs.Validity.{IsScalarItem}
use Rattle.schema.specs.declared.value.Item.TheOpen.{Number, Truth, Text, Bytes, Message}
use Rattle.schema.specs.declared.value.Item.{out-Item, Item}
use Rattle.known_types.specs.BytesTexts.{IsBytesText}
use Rattle.json_meanings.specs.EnumNames.{number_named, values_of}
use Rattle.json_meanings.specs.JsonScalars.{IsNumberKind, truth_text}
use Rattle.scalar_texts.specs.declared.fault.ScalarFault.{ScalarFault}
use Rattle.scalar_texts.specs.declared.fault.ScalarFault.TheVariants.{BadText, BadNumber, OutOfRange, BadEnum, NotUtf8, NoMemory}

-- the number that a text names: that of an enum's value; nothing else has names
abbrev pub named_number : Types → Scalar → List ℕ → Option ℤ
named_number types (Enumeration id) text = number_named (values_of types id) text
named_number types _ text = None

-- a text denotes a number: that which it names, and where it names none the integer that it is
abbrev pub DenotesNumber : Option ℤ → List ℕ → ℤ → Type 0
DenotesNumber (Some n) text z = z ≡ n
DenotesNumber None text z = DenotesInteger z text

-- a text denotes an item, of the scalar kind or not; messages have no text here
abbrev pub DenotesItem : Types → Scalar → List ℕ → ItemLayer → Type 0
DenotesItem types scalar text (Number z) = DenotesNumber (named_number types scalar text) text z
DenotesItem types scalar text (Truth b) = text ≡ truth_text b
DenotesItem types scalar text (Text t) = t ≡ text
DenotesItem types scalar text (Bytes b) = IsBytesText text b
DenotesItem types scalar text (Message v) = ⊥

-- a text means an item: it denotes it, and the item is one of the scalar kind
abbrev pub IsScalarText : Types → Scalar → List ℕ → ItemLayer → Type 0
IsScalarText types scalar text i = DenotesItem types scalar text i × IsScalarItem scalar i

-- the values of the scalar kind are those of an enum
abbrev pub IsEnumKind : Scalar → Type 0
IsEnumKind (Enumeration id) = Unit {0}
IsEnumKind _ = ⊥

-- a text denotes no number
abbrev pub DenotesNoNumber : Types → Scalar → List ℕ → Type 0
DenotesNoNumber types scalar text = (z : ℤ) → DenotesItem types scalar text (Number z) → ⊥

-- a text denotes a number that the scalar kind does not have
abbrev pub DenotesOther : Types → Scalar → List ℕ → Type 0
DenotesOther types scalar text =
    (z : ℤ) × DenotesItem types scalar text (Number z) × (IsScalarItem scalar (Number z) → ⊥)

-- a text is no bool's, being neither word, or no bytes', spelling none
abbrev pub IsOtherText : Scalar → List ℕ → Type 0
IsOtherText BoolOf text = (b : Bool) → text ≢ truth_text b
IsOtherText BytesOf text = (bytes : List ℕ) → IsBytesText text bytes → ⊥
IsOtherText _ text = ⊥

-- what is wrong with a text: of a bool, that it is neither word; of bytes, that it spells none; of a string, that it is
-- not UTF-8; of a number, that it denotes none, or one that the kind does not have; of an enum, that it is neither a
-- name nor a number
abbrev pub IsScalarTextFault : Types → Scalar → List ℕ → ScalarFault → Type 0
IsScalarTextFault types scalar text BadText = IsOtherText scalar text
IsScalarTextFault types scalar text NotUtf8 = (scalar ≡ TextOf) × (IsUtf8 text → ⊥)
IsScalarTextFault types scalar text BadNumber =
    IsNumberKind scalar × DenotesNoNumber types scalar text × (IsEnumKind scalar → IsNumber text)
IsScalarTextFault types scalar text BadEnum =
    IsEnumKind scalar × DenotesNoNumber types scalar text × (IsNumber text → ⊥)
IsScalarTextFault types scalar text OutOfRange = IsNumberKind scalar × DenotesOther types scalar text
IsScalarTextFault types scalar text NoMemory = ⊥

-- a reading may lack memory: that of a string, which means something, or of bytes. No other item that is read does.
abbrev pub MayLackMemory : Scalar → List ℕ → Type 0
MayLackMemory TextOf text = IsUtf8 text
MayLackMemory BytesOf text = Unit {0}
MayLackMemory _ text = ⊥

-- a reading of a text: the item that it means, or what is wrong with it, or out of memory
abbrev pub IsScalarReading : Types → Scalar → List ℕ → Result Item ScalarFault → Type 0
IsScalarReading types scalar text (Ok item) = IsScalarText types scalar text (out-Item item)
IsScalarReading types scalar text (Err NoMemory) = MayLackMemory scalar text
IsScalarReading types scalar text (Err fault) = IsScalarTextFault types scalar text fault

-- a text means an item, or there is something wrong with it
abbrev pub IsRead : Types → Scalar → List ℕ → Type 0
IsRead types scalar text =
    ((i : ItemLayer) × IsScalarText types scalar text i)
    ⊎ ((fault : ScalarFault) × IsScalarTextFault types scalar text fault)
