-- What the text of a leaf means, and what is wrong with it (the ProtoJSON guide, "Representation of each type"): the
-- text of a path's variable or of a query's parameter. A leaf is a scalar, an enum, a timestamp, a duration, a field
-- mask or a wrapper.
use Rattle.std.specs.Prelude.{◌≡◌, ◌⊎◌, ℕ, List, [], ◌∷◌, Result, Ok, Err, if◌then◌else◌}
use Rattle.json_meanings.specs.SpotTables.{known_of, wrapped_scalar}
use Rattle.known_types.specs.KnownTexts.{known_value}
use Rattle.known_types.specs.declared.fault.TextFault.TheVariants as text_faults
use Rattle.message_types.specs.Types.{field_of}
use Rattle.message_types.specs.declared.fields.Kind.{Kind}
use Rattle.message_types.specs.declared.fields.Kind.TheVariants.{One as OneOf, Message as MessageOf}
use Rattle.message_types.specs.declared.fields.Scalar.{Scalar}
use Rattle.message_types.specs.declared.messages.Known.{Known}
use Rattle.message_types.specs.declared.messages.Known.TheVariants.{Wrapper}
use Rattle.message_types.specs.declared.messages.TypeId.{TypeId}
use Rattle.message_types.specs.declared.messages.Types.{Types}
use Rattle.scalar_texts.specs.ScalarTexts.{IsScalarText, IsScalarTextFault, MayLackMemory}
use Rattle.scalar_texts.specs.declared.fault.ScalarFault.{ScalarFault}
use Rattle.scalar_texts.specs.declared.fault.ScalarFault.TheVariants.{BadText, OutOfRange, NoMemory}
use Rattle.schema.specs.Layers.{ItemLayer}
use Rattle.schema.specs.Validity.{is_default}
use Rattle.schema.specs.declared.value.Item.TheOpen.{Message}
use Rattle.schema.specs.declared.value.Item.{Item, out-Item}
use Rattle.schema.specs.declared.value.Slot.{One}
use Rattle.schema.specs.declared.value.Value.{Value}

-- the message of a wrapper's value (wrappers.proto): its one field does not tell a default from absence
abbrev pub wrapper_of : Item → Value
wrapper_of i = record { fields = if is_default (out-Item i) then [] else (1, One i) ∷ [] }

-- the kind of the value of a wrapper of this type, which is that of its field 1
abbrev pub scalar_of_wrapper : Types → TypeId → Scalar
scalar_of_wrapper types id = wrapped_scalar (field_of types id 1)

-- a text means an item as a wrapper of a value of the scalar kind: the message of the value that it means
abbrev pub IsWrapperText : Types → Scalar → List ℕ → ItemLayer → Type 0
IsWrapperText types scalar text i =
    (value : Item) × IsScalarText types scalar text (out-Item value) × (i ≡ Message (wrapper_of value))

-- a text means an item as a timestamp, a duration or a field mask: the message that it is read as; no text of another
-- type does
abbrev pub IsKnownText : Known → List ℕ → ItemLayer → Type 0
IsKnownText known text i = (v : Value) × (known_value known text ≡ Ok v) × (i ≡ Message v)

-- a text means an item as a message of a type that is this well-known one
abbrev pub IsMessageText : Types → TypeId → Known → List ℕ → ItemLayer → Type 0
IsMessageText types id Wrapper text i = IsWrapperText types (scalar_of_wrapper types id) text i
IsMessageText types id known text i = IsKnownText known text i

-- a text means an item as a value of the kind
abbrev pub IsLeafText : Types → Kind → List ℕ → ItemLayer → Type 0
IsLeafText types (OneOf scalar) text i = IsScalarText types scalar text i
IsLeafText types (MessageOf id) text i = IsMessageText types id (known_of types id) text i

-- what is wrong with a text as a timestamp, a duration or a field mask: it has not the form of the type, or what it
-- says is out of its range; a message of another type has no text
abbrev pub IsKnownTextFault : Known → List ℕ → ScalarFault → Type 0
IsKnownTextFault known text BadText = known_value known text ≡ Err text_faults.BadText
IsKnownTextFault known text OutOfRange = known_value known text ≡ Err text_faults.OutOfRange
IsKnownTextFault known text _ = ⊥

-- what is wrong with a text as a message of a type that is this well-known one: of a wrapper what is wrong with it as
-- its value's
abbrev pub IsMessageTextFault : Types → TypeId → Known → List ℕ → ScalarFault → Type 0
IsMessageTextFault types id Wrapper text fault = IsScalarTextFault types (scalar_of_wrapper types id) text fault
IsMessageTextFault types id known text fault = IsKnownTextFault known text fault

-- what is wrong with a text as a value of the kind
abbrev pub IsLeafTextFault : Types → Kind → List ℕ → ScalarFault → Type 0
IsLeafTextFault types (OneOf scalar) text fault = IsScalarTextFault types scalar text fault
IsLeafTextFault types (MessageOf id) text fault = IsMessageTextFault types id (known_of types id) text fault

-- a reading may lack memory: that of a message, and of a scalar whose reading may
abbrev pub LeafMayLackMemory : Kind → List ℕ → Type 0
LeafMayLackMemory (OneOf scalar) text = MayLackMemory scalar text
LeafMayLackMemory (MessageOf id) text = Unit {0}

-- a reading of a text: the item that it means, or what is wrong with it, or out of memory
abbrev pub IsLeafReading : Types → Kind → List ℕ → Result Item ScalarFault → Type 0
IsLeafReading types kind text (Ok item) = IsLeafText types kind text (out-Item item)
IsLeafReading types kind text (Err NoMemory) = LeafMayLackMemory kind text
IsLeafReading types kind text (Err fault) = IsLeafTextFault types kind text fault

-- a text means an item, or there is something wrong with it
abbrev pub IsReadLeaf : Types → Kind → List ℕ → Type 0
IsReadLeaf types kind text =
    ((i : ItemLayer) × IsLeafText types kind text i)
    ⊎ ((fault : ScalarFault) × IsLeafTextFault types kind text fault)
