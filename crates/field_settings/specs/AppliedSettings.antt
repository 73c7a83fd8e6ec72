-- What it means to set fields of a message along paths of field numbers (google/api/http.proto: the body's value, then
-- the query's parameters, then the path's variables). A message is a finite map from field numbers to slots; a setting
-- makes the messages on its way, clears the other members of each oneof there, and replaces what stood at its end.
use Rattle.std.specs.Prelude.{◌≡◌, ◌==◌, ◌≤◌, ◌-◌, ℕ, Bool, false, List, [], ◌∷◌, length, Option, Some, None, if◌then◌else◌}
use Rattle.std.specs.List.{AllByRecursion}
use Rattle.field_settings.specs.declared.setting.Setting.{Setting}
use Rattle.linked_api.specs.FieldPaths.{LeadsInto}
use Rattle.linked_api.specs.NumberPaths.{IsNumberStep}
use Rattle.message_types.specs.Types.{field_in, field_of, fields_of}
use Rattle.message_types.specs.declared.fields.Field.{Field}
use Rattle.message_types.specs.declared.fields.Presence.{Presence}
use Rattle.message_types.specs.declared.fields.Presence.TheVariants.{Implicit, Explicit}
use Rattle.message_types.specs.declared.fields.Shape.{Shape}
use Rattle.message_types.specs.declared.fields.Shape.TheVariants.{Single, Member, Many as ManyOf, Map as MapOf}
use Rattle.message_types.specs.declared.messages.TypeId.{TypeId}
use Rattle.message_types.specs.declared.messages.Types.{Types}
use Rattle.schema.specs.Layers.{ItemLayer, SlotLayer}
use Rattle.schema.specs.Pairs.{KeysRise, entries_of}
use Rattle.schema.specs.Validity.{Inner, IsItem, is_default, oneof_of, valid_within}
use Rattle.schema.specs.Value.{RiseFrom, slot_at, slots_of}
use Rattle.schema.specs.declared.value.Item.TheOpen.{Message, One, Many, Pairs}
use Rattle.schema.specs.declared.value.Item.{out-Item, roll-Item}
use Rattle.schema.specs.declared.value.Slot.{Slot, out-Slot, roll-Slot}
use Rattle.schema.specs.declared.value.Value.{Value}

-- a slot says no more than absence: it is the default of a field that does not tell it from absence, an empty list, or
-- an empty map
abbrev pub is_absence : Presence → SlotLayer → Bool
is_absence Implicit (One i) = is_default (out-Item i)
is_absence Explicit (One i) = false
is_absence _ (Many is) = length is == 0
is_absence _ (Pairs ps) = length (entries_of ps) == 0

-- what a field holds when a slot is set in it: the slot, or nothing where that says no more than absence
abbrev pub stored : Field → Slot → Option Slot
stored f s = if is_absence f.presence (out-Slot s) then None else Some s

-- two fields are members of one oneof, told by the oneof of each
abbrev pub is_one_oneof : Option ℕ → Option ℕ → Bool
is_one_oneof None _ = false
is_one_oneof (Some k) None = false
is_one_oneof (Some k) (Some j) = k == j

-- a number is that of a member of the field's oneof
abbrev pub shares_oneof : List Field → Field → ℕ → Bool
shares_oneof fields f q = is_one_oneof (oneof_of (Some f)) (oneof_of (field_in fields q))

-- what a number has once a field holds this: at the field's number that, at any other member of its oneof nothing, and
-- at every other number what it had
abbrev pub slot_after : List Field → Field → Option Slot → Value → ℕ → Option Slot
slot_after fields f held v q =
    if f.number == q then held else (if shares_oneof fields f q then None else slot_at v q)

-- a value is another with a field that holds this
pub record SetsField (fields : List Field) (f : Field) (held : Option Slot) (v w : Value) : Type 0 where
  pub rising : RiseFrom 0 (slots_of w)
  pub slots : (q : ℕ) → slot_at w q ≡ slot_after fields f held v q

-- the message without fields
abbrev pub empty_message : Value
empty_message = record { fields = [] }

-- the message that an item is, or the empty one
abbrev pub message_of_item : ItemLayer → Value
message_of_item (Message v) = v
message_of_item _ = empty_message

-- the message that a slot is, or the empty one
abbrev pub message_of_slot : SlotLayer → Value
message_of_slot (One i) = message_of_item (out-Item i)
message_of_slot _ = empty_message

-- the message that is held, or the empty one where nothing is
abbrev pub message_in : Option Slot → Value
message_in None = empty_message
message_in (Some s) = message_of_slot (out-Slot s)

-- a message as a slot
abbrev pub message_slot : Value → Slot
message_slot v = roll-Slot (One (roll-Item (Message v)))

-- a value of a type is another in which a slot is set at the end of a path: the last number's field holds it, and each
-- number before is a field that holds the message that it held, or the empty one, with the rest of the path set in it
abbrev pub Sets : Types → TypeId → List ℕ → Slot → Value → Value → Type 0
Sets types id [] slot v w = ⊥
Sets types id (n ∷ []) slot v w =
    (f : Field) × (field_of types id n ≡ Some f) × SetsField (fields_of types id) f (stored f slot) v w
Sets types id (n ∷ m ∷ path) slot v w =
    (f : Field) × (field_of types id n ≡ Some f) × (inner : TypeId) × LeadsInto types f.kind inner
    × (u : Value) × Sets types inner (m ∷ path) slot (message_in (slot_at v n)) u
    × SetsField (fields_of types id) f (Some (message_slot u)) v w

-- a value is another in which settings are made one after the other
abbrev pub AreSet : Types → TypeId → List Setting → Value → Value → Type 0
AreSet types id [] v w = v ≡ w
AreSet types id (s ∷ settings) v w =
    (u : Value) × Sets types id s.path s.slot v u × AreSet types id settings u w

-- a slot can be set in a field of this shape: its items are values of the field's kind, of a map under keys that rise.
-- It may be a default, an empty list or an empty map.
abbrev pub IsSettable : Inner → Field → Shape → SlotLayer → Type 0
IsSettable inner f Single (One i) = IsItem inner f.kind (out-Item i)
IsSettable inner f (Member k) (One i) = IsItem inner f.kind (out-Item i)
IsSettable inner f ManyOf (Many is) = AllByRecursion (λ i. IsItem inner f.kind (out-Item i)) is
IsSettable inner f (MapOf s) (Pairs ps) =
    KeysRise (entries_of ps) × AllByRecursion (inner.entry s f.kind) (entries_of ps)
IsSettable inner f _ _ = ⊥

-- a path leads from a type to a field in which a slot can be set: each number but the last is a singular field of a
-- plain message
abbrev pub LeadsToSlot : Inner → Types → TypeId → List ℕ → Slot → Type 0
LeadsToSlot inner types id [] slot = ⊥
LeadsToSlot inner types id (n ∷ []) slot =
    (f : Field) × (field_of types id n ≡ Some f) × IsSettable inner f f.shape (out-Slot slot)
LeadsToSlot inner types id (n ∷ m ∷ path) slot =
    (step : IsNumberStep types id n) × (next : TypeId) × LeadsInto types step.field.kind next
    × LeadsToSlot inner types next (m ∷ path) slot

-- a setting fits a type: its path leads to a field for its slot and has at most 100 numbers. Each number takes a level
-- of the 100 that a message may have, and the messages in the slot have those that are left.
pub record FitsSetting (types : Types) (id : TypeId) (s : Setting) : Type 0 where
  pub levels : length s.path ≤ 100
  pub leads : LeadsToSlot (valid_within (100 - length s.path) types) types id s.path s.slot
