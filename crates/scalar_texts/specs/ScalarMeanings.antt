-- What is found of a text before its item is made.
use Rattle.std.specs.Prelude.{ℕ, ℤ, List, Result, Ok, Err}
use Rattle.json_events.specs.JsonNumbers.{IsNumber, DenotesInteger}
use Rattle.message_types.specs.declared.fields.Scalar.{Scalar}
use Rattle.message_types.specs.declared.messages.Types.{Types}
use Rattle.schema.specs.Layers.{ItemLayer}
use Rattle.schema.specs.Validity.{IsScalarItem}
use Rattle.schema.specs.declared.value.Item.TheOpen.{Number as NumberItem, Truth as TruthItem, Text as TextItem}
use Rattle.scalar_texts.specs.ScalarTexts.{IsEnumKind, IsScalarText, IsScalarTextFault}
use Rattle.scalar_texts.specs.declared.fault.ScalarFault.{ScalarFault}
use Rattle.scalar_texts.specs.declared.fault.ScalarFault.TheVariants.{BadNumber, BadEnum, OutOfRange}
use Rattle.scalar_texts.specs.declared.meanings.Meaning.{Meaning}
use Rattle.scalar_texts.specs.declared.meanings.Meaning.TheVariants.{Number, Truth, Text}

-- a text denotes no integer
abbrev pub IsNoInteger : List ℕ → Type 0
IsNoInteger text = (z : ℤ) → DenotesInteger z text → ⊥

-- a text denotes an integer that the scalar kind does not have
abbrev pub IsOtherInteger : Scalar → List ℕ → Type 0
IsOtherInteger scalar text = (z : ℤ) × DenotesInteger z text × (IsScalarItem scalar (NumberItem z) → ⊥)

-- what is read of an integer's text for the kind, whatever the text names
abbrev pub IsNumberReading : Scalar → List ℕ → Result ℤ ScalarFault → Type 0
IsNumberReading scalar text (Ok z) = DenotesInteger z text × IsScalarItem scalar (NumberItem z)
IsNumberReading scalar text (Err BadNumber) = IsNoInteger text × (IsEnumKind scalar → IsNumber text)
IsNumberReading scalar text (Err BadEnum) = IsEnumKind scalar × (IsNumber text → ⊥)
IsNumberReading scalar text (Err OutOfRange) = IsOtherInteger scalar text
IsNumberReading scalar text (Err _) = ⊥

-- what is found of a number: the number that the text means, or the fault
abbrev pub IsNumberMeaning : Types → Scalar → List ℕ → Result ℤ ScalarFault → Type 0
IsNumberMeaning types scalar text (Ok z) = IsScalarText types scalar text (NumberItem z)
IsNumberMeaning types scalar text (Err fault) = IsScalarTextFault types scalar text fault

-- a meaning as an item
abbrev pub meaning_layer : Meaning → ItemLayer
meaning_layer (Number z) = NumberItem z
meaning_layer (Truth b) = TruthItem b
meaning_layer (Text t) = TextItem t.now

-- what is found of a text: its meaning, or the fault
abbrev pub IsMeaning : Types → Scalar → List ℕ → Result Meaning ScalarFault → Type 0
IsMeaning types scalar text (Ok meaning) = IsScalarText types scalar text (meaning_layer meaning)
IsMeaning types scalar text (Err fault) = IsScalarTextFault types scalar text fault
