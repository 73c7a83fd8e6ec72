-- How settings are made, step by step: the value that there is after each.
use Rattle.std.specs.Prelude.{◌==◌, ℕ, Bool, false, List, [], ◌∷◌, Option, Some, None, if◌then◌else◌}
use Rattle.std.specs.Option.{option_map_or}
use Rattle.field_settings.specs.AppliedSettings.{is_one_oneof, message_in, message_slot, stored}
use Rattle.field_settings.specs.declared.setting.Setting.{Setting}
use Rattle.message_types.specs.Types.{field_of, fields_of}
use Rattle.message_types.specs.declared.fields.Field.{Field}
use Rattle.message_types.specs.declared.fields.Kind.{Kind}
use Rattle.message_types.specs.declared.fields.Kind.TheVariants.{One as OneOf, Message as MessageOf}
use Rattle.message_types.specs.declared.messages.TypeId.{TypeId}
use Rattle.message_types.specs.declared.messages.Types.{Types}
use Rattle.schema.specs.Validity.{oneof_of}
use Rattle.schema.specs.Value.{slot_at, slots_of, with_slot, without_slot}
use Rattle.schema.specs.declared.value.Slot.{Slot}
use Rattle.schema.specs.declared.value.Value.{Value}

-- a field is another member of the first one's oneof
abbrev pub is_other_member : Field → Field → Bool
is_other_member f g =
    if g.number == f.number then false else is_one_oneof (oneof_of (Some f)) (oneof_of (Some g))

-- slots without those of the fields of a list that are other members of a field's oneof
abbrev pub without_others : Field → List Field → List (ℕ × Slot) → List (ℕ × Slot)
without_others f [] es = es
without_others f (g ∷ gs) es =
    without_others f gs (if is_other_member f g then without_slot es g.number else es)

-- slots with one at a number, or with none there
abbrev pub with_held : ℕ → Option Slot → List (ℕ × Slot) → List (ℕ × Slot)
with_held n None es = without_slot es n
with_held n (Some s) es = with_slot es n s

-- a value with a field that holds this
abbrev pub field_set : List Field → Field → Option Slot → Value → Value
field_set fields f held v =
    record { fields = with_held f.number held (without_others f fields (slots_of v)) }

-- a value without the slot of a number
abbrev pub value_without : ℕ → Value → Value
value_without n v = record { fields = without_slot (slots_of v) n }

-- the type of the messages of a kind
abbrev pub message_type : Kind → Option TypeId
message_type (OneOf s) = None
message_type (MessageOf id) = Some id

-- a value with a slot set at the end of a path; it stays where the path leads to no field
abbrev pub path_set : Types → TypeId → List ℕ → Slot → Value → Value
path_set types id [] slot v = v
path_set types id (n ∷ []) slot v =
    option_map_or (λ (f : Field). field_set (fields_of types id) f (stored f slot) v) (field_of types id n) v
path_set types id (n ∷ m ∷ path) slot v =
    option_map_or (λ (f : Field).
    option_map_or (λ (inner : TypeId).
    field_set (fields_of types id) f
    (Some (message_slot (path_set types inner (m ∷ path) slot (message_in (slot_at v n)))))
    (value_without n v))
    (message_type f.kind) v)
    (field_of types id n) v

-- a value with each setting made
abbrev pub all_set : Types → TypeId → List Setting → Value → Value
all_set types id [] v = v
all_set types id (s ∷ settings) v = all_set types id settings (path_set types id s.path s.slot v)
