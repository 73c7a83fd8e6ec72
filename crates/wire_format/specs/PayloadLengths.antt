-- Lengths that a varint of 64 bits tells (the encoding guide, "Length-Delimited Records"): what stands behind a length in
-- canonical bytes must be shorter than 2 ^ 64 bytes, or no length tells where it ends.
use Rattle.std.specs.Prelude.{◌<◌, ◌^◌, ℕ, Bool, true, false, List, Option, Some, None, length}
use Rattle.std.specs.List.{AllByRecursion}
use Rattle.schema.specs.Layers.{ItemLayer, SlotLayer}
use Rattle.schema.specs.Pairs.{entries_of}
use Rattle.message_types.specs.Types.{field_in, fields_of}
use Rattle.schema.specs.Value.{slots_of}
use Rattle.schema.specs.declared.value.Item.TheOpen.{Text, Bytes, Message, One, Many, Pairs as Entries}
use Rattle.schema.specs.declared.value.Item.{out-Item, Item}
use Rattle.schema.specs.declared.value.Slot.{out-Slot, Slot}
use Rattle.schema.specs.declared.value.Value.{Value}
use Rattle.message_types.specs.declared.fields.Field.{Field}
use Rattle.message_types.specs.declared.fields.Kind.{Kind}
use Rattle.message_types.specs.declared.fields.Kind.TheVariants.{One as OneOf, Message as MessageOf}
use Rattle.message_types.specs.declared.fields.Shape.{Shape}
use Rattle.message_types.specs.declared.fields.Shape.TheVariants.{Map as MapOf}
use Rattle.message_types.specs.declared.messages.TypeId.{TypeId}
use Rattle.message_types.specs.declared.messages.Types.{Types}
use Rattle.wire_format.specs.CanonicalBytes.{items_bytes, entry_bytes, canonical_within}

-- the length of these bytes has 64 bits
abbrev pub HasLength : List ℕ → Type 0
HasLength bytes = length bytes < 2 ^ 64

-- what an item has behind its length has one, where `sub` gives the bytes of a message
abbrev pub HasItemLength : (TypeId → Value → List ℕ) → Kind → ItemLayer → Type 0
HasItemLength sub (OneOf s) (Text t) = HasLength t
HasItemLength sub (OneOf s) (Bytes b) = HasLength b
HasItemLength sub (MessageOf id) (Message v) = HasLength (sub id v)
HasItemLength sub _ _ = Unit {0}

-- the items of a list: those of a packed one stand behind one length
abbrev pub HaveItemLengths : (TypeId → Value → List ℕ) → Bool → Kind → List Item → Type 0
HaveItemLengths sub true kind is = HasLength (items_bytes sub kind is)
HaveItemLengths sub false kind is = AllByRecursion (λ i. HasItemLength sub kind (out-Item i)) is

-- a slot of a field with this shape
abbrev pub HasSlotLengths : (TypeId → Value → List ℕ) → Field → Shape → SlotLayer → Type 0
HasSlotLengths sub f (MapOf s) (Entries p) = AllByRecursion (λ e. HasLength (entry_bytes sub s f.kind e)) (entries_of p)
HasSlotLengths sub f _ (One i) = HasItemLength sub f.kind (out-Item i)
HasSlotLengths sub f _ (Many is) = HaveItemLengths sub f.packed f.kind is
HasSlotLengths sub f _ _ = Unit {0}

-- a slot of the field that its number has
abbrev pub HasFieldLengths : (TypeId → Value → List ℕ) → Option Field → Slot → Type 0
HasFieldLengths sub None s = Unit {0}
HasFieldLengths sub (Some f) s = HasSlotLengths sub f f.shape (out-Slot s)

-- slots, as these fields
abbrev pub HaveFieldLengths : (TypeId → Value → List ℕ) → List Field → List (ℕ × Slot) → Type 0
HaveFieldLengths sub fields es = AllByRecursion (λ (e : ℕ × Slot). HasFieldLengths sub (field_in fields e.0) e.1) es

-- the lengths in the canonical bytes of a value have 64 bits; what is nested is shorter than what it stands in, so
-- this speaks of the outermost level alone
abbrev pub HasLengths : Types → TypeId → Value → Type 0
HasLengths types id v = HaveFieldLengths (canonical_within 99 types) (fields_of types id) (slots_of v)
