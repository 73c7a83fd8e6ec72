-- What is so of every setting along a path: what is found at its end, and what stays on the way.
use Rattle.std.specs.Prelude.{◌≡◌, ◌≢◌, ℕ, true, false, List, [], ◌∷◌, Some, None}
use Rattle.field_settings.specs.AppliedSettings.{is_one_oneof, message_in, message_slot, stored}
use Rattle.linked_api.specs.FieldPaths.{LeadsInto}
use Rattle.message_types.specs.Types.{field_in, field_of, fields_of}
use Rattle.message_types.specs.declared.fields.Field.{Field}
use Rattle.message_types.specs.declared.messages.TypeId.{TypeId}
use Rattle.message_types.specs.declared.messages.Types.{Types}
use Rattle.schema.specs.Validity.{oneof_of}
use Rattle.schema.specs.Value.{slot_at}
use Rattle.schema.specs.declared.value.Slot.{Slot}
use Rattle.schema.specs.declared.value.Value.{Value}

-- the messages on the way of a path are there in a value, and the field at its end holds what it stores of a slot
abbrev pub HoldsAtEnd : Types → TypeId → List ℕ → Slot → Value → Type 0
HoldsAtEnd types id [] slot w = ⊥
HoldsAtEnd types id (n ∷ []) slot w = (f : Field) × (field_of types id n ≡ Some f) × (slot_at w n ≡ stored f slot)
HoldsAtEnd types id (n ∷ m ∷ path) slot w =
    (f : Field) × (field_of types id n ≡ Some f) × (inner : TypeId) × LeadsInto types f.kind inner
    × (u : Value) × (slot_at w n ≡ Some (message_slot u)) × HoldsAtEnd types inner (m ∷ path) slot u

-- a message has at each number but one, and but those of the members of its oneof, what another has, and nothing at
-- the numbers of those members
pub record KeepsOthers (fields : List Field) (n : ℕ) (v w : Value) : Type 0 where
  pub rest : (q : ℕ) → n ≢ q → is_one_oneof (oneof_of (field_in fields n)) (oneof_of (field_in fields q)) ≡ false
      → slot_at w q ≡ slot_at v q
  pub members : (q : ℕ) → n ≢ q → is_one_oneof (oneof_of (field_in fields n)) (oneof_of (field_in fields q)) ≡ true
      → slot_at w q ≡ None

-- so do all messages on the way of a path, each beside the one that stood in its place or the empty one
abbrev pub KeepsAlong : Types → TypeId → List ℕ → Value → Value → Type 0
KeepsAlong types id [] v w = ⊥
KeepsAlong types id (n ∷ []) v w = KeepsOthers (fields_of types id) n v w
KeepsAlong types id (n ∷ m ∷ path) v w =
    KeepsOthers (fields_of types id) n v w
    × (f : Field) × (field_of types id n ≡ Some f) × (inner : TypeId) × LeadsInto types f.kind inner
    × KeepsAlong types inner (m ∷ path) (message_in (slot_at v n)) (message_in (slot_at w n))
