-- What a text that is written means when it is read, and what that rests on: the types, and the texts of the well-known
-- types (the ProtoJSON guide).
use Rattle.std.specs.Prelude.{◌≡◌, ℕ, zero, suc, List, [], ◌∷◌, Option, Some, None, Ok}
use Rattle.std.specs.List.{AllByRecursion}
use Rattle.std.specs.Str.{IsUtf8}
use Rattle.base.specs.Bytes.{AreBytes}
use Rattle.json_events.specs.JsonStrings.{IsString}
use Rattle.json_meanings.specs.JsonScalars.{Schema}
use Rattle.json_meanings.specs.SpotTables.{known_of}
use Rattle.json_meanings.specs.TextTypes.{IsTextType}
use Rattle.message_types.specs.declared.enums.EnumType.{EnumType}
use Rattle.message_types.specs.declared.enums.EnumValue.{EnumValue}
use Rattle.message_types.specs.declared.fields.Field.{Field}
use Rattle.message_types.specs.declared.messages.MessageType.{MessageType}
use Rattle.message_types.specs.declared.messages.TypeId.{TypeId}
use Rattle.message_types.specs.declared.messages.Types.{Types}
use Rattle.schema.specs.Layers.{ItemLayer, SlotLayer}
use Rattle.schema.specs.Pairs.{entries_of}
use Rattle.schema.specs.Soundness.{IsSound}
use Rattle.schema.specs.Validity.{IsValid, valid_within}
use Rattle.schema.specs.Value.{slot_at, slots_of}
use Rattle.schema.specs.declared.key.Key.{Key}
use Rattle.schema.specs.declared.value.Item.TheOpen.{Bytes, Message, One, Many, Pairs as Entries}
use Rattle.schema.specs.declared.value.Item.{out-Item, Item}
use Rattle.schema.specs.declared.value.Slot.{out-Slot, Slot}
use Rattle.schema.specs.declared.value.Value.{Value}
use Rattle.protojson_write.specs.KnownParts.{KnownTexts}
use Rattle.protojson_write.specs.ScalarOutput.{quoted}

-- the names that are written are UTF-8: those of fields in JSON, and those of the values of enums
pub record HasUtf8Names (types : Types) : Type 0 where
  pub fields : AllByRecursion (λ (m : MessageType). AllByRecursion (λ (f : Field). IsUtf8 f.json) m.fields)
      types.messages
  pub values : AllByRecursion (λ (e : EnumType). AllByRecursion (λ (v : EnumValue). IsUtf8 v.name) e.values)
      types.enums

-- the texts that are written of valid timestamps, durations and field masks are read as these: each in quotes is a JSON
-- string that stands for it (RFC 8259, section 7)
abbrev pub AreReadBack : KnownTexts → Schema → Type 0
AreReadBack texts c =
    (id : TypeId) (k : ℕ) (v : Value) (t : List ℕ) → IsTextType (known_of c.types id)
    → (valid_within (suc k) c.types).message id v → texts (known_of c.types id) v ≡ Some t
    → IsString t (quoted t) × (c.known (known_of c.types id) t ≡ Ok v)

-- the bytes in an item are bytes, where `Holds` says so of a message
abbrev pub ItemHoldsBytes : (Value → Type 0) → ItemLayer → Type 0
ItemHoldsBytes Holds (Bytes b) = AreBytes b
ItemHoldsBytes Holds (Message v) = Holds v
ItemHoldsBytes Holds _ = Unit {0}

-- those in a slot are
abbrev pub SlotHoldsBytes : (Value → Type 0) → SlotLayer → Type 0
SlotHoldsBytes Holds (One i) = ItemHoldsBytes Holds (out-Item i)
SlotHoldsBytes Holds (Many is) = AllByRecursion (λ i. ItemHoldsBytes Holds (out-Item i)) is
SlotHoldsBytes Holds (Entries p) =
    AllByRecursion (λ (e : Key × Item). ItemHoldsBytes Holds (out-Item e.1)) (entries_of p)

-- those in a message of so many levels are
unfoldable pub holds_bytes_within : ℕ → Value → Type 0
holds_bytes_within zero v = Unit {0}
holds_bytes_within (suc k) v =
    AllByRecursion (λ (e : ℕ × Slot). SlotHoldsBytes (holds_bytes_within k) (out-Slot e.1)) (slots_of v)

-- a valid value, whose bytes are bytes
pub record IsShowable (types : Types) (id : TypeId) (v : Value) : Type 0 where
  pub valid : IsValid types id v
  pub bytes : holds_bytes_within 100 v

-- a message with one field alone, which has a slot or is absent
abbrev pub with_field : ℕ → Option Slot → Value
with_field n None = record { fields = [] }
with_field n (Some s) = record { fields = (n, s) ∷ [] }

-- what is shown of a value: all of it, or one field alone
abbrev pub shown_part : Option ℕ → Value → Value
shown_part None v = v
shown_part (Some n) v = with_field n (slot_at v n)

-- what the law rests on: sound types with names in UTF-8, and texts that are read back
pub record IsReadBack (texts : KnownTexts) (c : Schema) : Type 0 where
  pub sound : IsSound c.types
  pub names : HasUtf8Names c.types
  pub agree : AreReadBack texts c
