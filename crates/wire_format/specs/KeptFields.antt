-- Bytes that undo nothing that they set (the encoding guide, "Last One Wins", "Oneofs"; field presence): the last record of a
-- field with implicit presence does not say its default, and records of one member of a oneof alone count. Encoders write
-- such bytes. Others do not merge as their values do: where the later bytes set a number to 0, their value has no
-- slot that could tell so.
use Rattle.std.specs.Prelude.{◌≡◌, ◌≢◌, ℕ, zero, suc, true, List, Option, Some, None}
use Rattle.std.specs.List.{flat_map, filter_map, list_any}
use Rattle.message_types.specs.Types.{field_in, fields_of}
use Rattle.message_types.specs.declared.fields.Field.{Field}
use Rattle.message_types.specs.declared.fields.Kind.{Kind}
use Rattle.message_types.specs.declared.fields.Kind.TheVariants.{One as OneOf, Message as MessageOf}
use Rattle.message_types.specs.declared.fields.Shape.{Shape}
use Rattle.message_types.specs.declared.fields.Shape.TheVariants.{Many as ManyOf, Map as MapOf}
use Rattle.message_types.specs.declared.messages.Types.{Types}
use Rattle.schema.specs.declared.value.Slot.{Slot}
use Rattle.wire_format.specs.FieldValues.{payloads, sized_of, counts, slot_of, meaning_within}
use Rattle.wire_records.specs.WireRecord.{Payload, records}

-- a field of which a payload counts has a slot
abbrev pub KeepsSlot : Types → Kind → List Payload → Option Slot → Type 0
KeepsSlot types kind ps o = list_any (counts types kind) ps ≡ true → o ≢ None

-- the message that payloads are, joined, undoes nothing, where `inner` says so of bytes
abbrev pub KeepsMessage : (List Field → List ℕ → Type 0) → Types → Kind → List Payload → Type 0
KeepsMessage inner types (OneOf s) ps = Unit {0}
KeepsMessage inner types (MessageOf id) ps = inner (fields_of types id) (flat_map (λ (q : List ℕ). q) (filter_map sized_of ps))

-- a field of this shape with its payloads and its slot; a list and a map lose nothing
abbrev pub KeepsField : (List Field → List ℕ → Type 0) → Types → Shape → Kind → List Payload → Option Slot → Type 0
KeepsField inner types ManyOf kind ps o = Unit {0}
KeepsField inner types (MapOf s) kind ps o = Unit {0}
KeepsField inner types shape kind ps o = KeepsSlot types kind ps o × KeepsMessage inner types kind ps

-- bytes undo nothing that they set as a message with these fields, in so many levels
unfoldable pub KeepsAll : ℕ → Types → List Field → List ℕ → Type 0
KeepsAll zero types fields bytes = Unit {0}
KeepsAll (suc k) types fields bytes =
    (n : ℕ) (f : Field) → field_in fields n ≡ Some f
    → KeepsField (KeepsAll k types) types f.shape f.kind (payloads n (records k 0 bytes)) (slot_of (meaning_within k types) types fields (records k 0 bytes) n)
