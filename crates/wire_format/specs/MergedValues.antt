-- The merge of two values of a type, the second of which is the later (the encoding guide, "Last One Wins", "Oneofs", "Maps"): of
-- scalars the later one counts, messages merge, lists join, of each key of a map the later entry counts, and a
-- member of a oneof goes where the later value has another.
use Rattle.std.specs.Prelude.{◌==◌, ◌++◌, ℕ, zero, suc, Bool, false, List, Option, Some, None, if◌then◌else◌, option_and_then}
use Rattle.schema.specs.Layers.{ItemLayer, SlotLayer}
use Rattle.schema.specs.Pairs.{entries_of}
use Rattle.message_types.specs.Types.{field_in, fields_of}
use Rattle.schema.specs.Value.{slots_of, slot_in}
use Rattle.schema.specs.declared.value.Item.TheOpen.{Message, One, Many, Pairs as Entries}
use Rattle.schema.specs.declared.value.Item.{out-Item, roll-Item}
use Rattle.schema.specs.declared.value.Slot.{out-Slot, roll-Slot, Slot}
use Rattle.schema.specs.declared.value.Value.{Value}
use Rattle.message_types.specs.declared.fields.Field.{Field}
use Rattle.message_types.specs.declared.fields.Kind.{Kind}
use Rattle.message_types.specs.declared.fields.Kind.TheVariants.{Message as MessageOf}
use Rattle.message_types.specs.declared.fields.Shape.{Shape}
use Rattle.message_types.specs.declared.fields.Shape.TheVariants.{Member}
use Rattle.message_types.specs.declared.messages.TypeId.{TypeId}
use Rattle.message_types.specs.declared.messages.Types.{Types}
use Rattle.std.specs.List.{list_any}
use Rattle.wire_format.specs.FieldValues.{in_oneof, last_entries, gather}

-- of two items the later one, where `merge` says how two messages merge
abbrev pub merged_item : (TypeId → Value → Value → Value) → Kind → ItemLayer → ItemLayer → ItemLayer
merged_item merge (MessageOf id) (Message v) (Message w) = Message (merge id v w)
merged_item merge kind i j = j

-- two slots of a field: items merge, lists join, and of each key the last entry counts
abbrev pub merged_layer : (TypeId → Value → Value → Value) → Kind → SlotLayer → SlotLayer → SlotLayer
merged_layer merge kind (One i) (One j) = One (roll-Item (merged_item merge kind (out-Item i) (out-Item j)))
merged_layer merge kind (Many is) (Many js) = Many (is ++ js)
merged_layer merge kind (Entries p) (Entries q) = Entries (record { entries = last_entries (entries_of p ++ entries_of q) })
merged_layer merge kind s t = t

-- a slot that one value alone has is as it is there
abbrev pub merged_slot : (TypeId → Value → Value → Value) → Kind → Option Slot → Option Slot → Option Slot
merged_slot merge kind None t = t
merged_slot merge kind (Some s) None = Some s
merged_slot merge kind (Some s) (Some t) = Some (roll-Slot (merged_layer merge kind (out-Slot s) (out-Slot t)))

-- a field is a member of this oneof
abbrev pub is_member : ℕ → Option Field → Bool
is_member k None = false
is_member k (Some f) = in_oneof k f.shape

-- a list of slots has another member of the oneof than number `n`
abbrev pub has_other : List Field → ℕ → ℕ → List (ℕ × Slot) → Bool
has_other fields k n es = list_any (λ (e : ℕ × Slot). if e.0 == n then false else is_member k (field_in fields e.0)) es

-- what is left of the earlier slot of a number: of a member of a oneof nothing, where the later value has another
abbrev pub left_slot : List Field → ℕ → Shape → List (ℕ × Slot) → Option Slot → Option Slot
left_slot fields n (Member k) es s = if has_other fields k n es then None else s
left_slot fields n _ es s = s

-- the slot of a number, by the slots of the earlier value and those of the later
abbrev pub slot_merged : (TypeId → Value → Value → Value) → List Field → List (ℕ × Slot) → List (ℕ × Slot) → ℕ → Option Slot
slot_merged merge fields ds es n = option_and_then (λ f. merged_slot merge f.kind (left_slot fields n f.shape es (slot_in ds n)) (slot_in es n)) (field_in fields n)

-- two values of a type, of so many levels
unfoldable pub merged_within : ℕ → Types → TypeId → Value → Value → Value
merged_within zero types id v w = w
merged_within (suc k) types id v w = record { fields = gather (slot_merged (merged_within k types) (fields_of types id) (slots_of v) (slots_of w)) (fields_of types id) }

-- two values of a type, of 100 levels at most
abbrev pub merged : Types → TypeId → Value → Value → Value
merged types id v w = merged_within 100 types id v w
