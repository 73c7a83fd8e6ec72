-- What a text means as a scalar by itself, and as a map's key in a JSON tree (the ProtoJSON guide): the same.
use Rattle.std.specs.Prelude.{◌≡◌, ◌↔◌, ℕ, List, Option, Some, None, Ok, Err}
use Rattle.message_types.specs.declared.fields.Scalar.{Scalar}
use Rattle.message_types.specs.declared.messages.Types.{Types}
use Rattle.schema.specs.Layers.{ItemLayer}
use Rattle.json_meanings.specs.JsonScalars.{text_as}
use Rattle.json_meanings.specs.declared.fault.FieldKind.{FieldKind}
use Rattle.json_meanings.specs.declared.fault.FieldKind.TheVariants as kinds
use Rattle.scalar_texts.specs.ScalarTexts.{IsScalarText, IsScalarTextFault}
use Rattle.scalar_texts.specs.declared.fault.ScalarFault.{ScalarFault}
use Rattle.scalar_texts.specs.declared.fault.ScalarFault.TheVariants.{BadText, BadNumber, OutOfRange, BadEnum, NotUtf8, NoMemory}

-- the fault of a text as that of a key; the texts of JSON are UTF-8
abbrev pub key_fault : ScalarFault → Option FieldKind
key_fault BadText = Some kinds.BadText
key_fault BadNumber = Some kinds.BadNumber
key_fault OutOfRange = Some kinds.OutOfRange
key_fault BadEnum = Some kinds.BadEnum
key_fault NotUtf8 = None
key_fault NoMemory = None

-- a text has a fault that is this one as a key's
abbrev pub HasKeyFault : Types → Scalar → List ℕ → FieldKind → Type 0
HasKeyFault types scalar text k =
    (fault : ScalarFault) × (key_fault fault ≡ Some k) × IsScalarTextFault types scalar text fault

-- a text is read as a key exactly as it is by itself
pub record KeyLawsHold (types : Types) (scalar : Scalar) (text : List ℕ) : Type 0 where
  pub read : (i : ItemLayer) → (text_as types scalar text ≡ Ok i) ↔ IsScalarText types scalar text i
  pub fault : (k : FieldKind) → (text_as types scalar text ≡ Err k) ↔ HasKeyFault types scalar text k
