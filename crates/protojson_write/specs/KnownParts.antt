-- The timestamps, durations and field masks in a value, whose texts have a form of their own: the value has a text
-- where each of them has.
use Rattle.std.specs.Prelude.{ℕ, zero, suc, Bool, List, [], ◌∷◌, Option, Some, None}
use Rattle.std.specs.List.{AllByRecursion, flat_map, list_all}
use Rattle.std.specs.Option.{is_some}
use Rattle.message_types.specs.Types.{field_in, fields_of}
use Rattle.message_types.specs.declared.fields.Field.{Field}
use Rattle.message_types.specs.declared.fields.Kind.{Kind}
use Rattle.message_types.specs.declared.fields.Kind.TheVariants.{Message as MessageOf}
use Rattle.message_types.specs.declared.messages.Known.{Known}
use Rattle.message_types.specs.declared.messages.Known.TheVariants.{Plain, Wrapper}
use Rattle.message_types.specs.declared.messages.MessageType.{MessageType}
use Rattle.message_types.specs.declared.messages.TypeId.{TypeId}
use Rattle.message_types.specs.declared.messages.Types.{Types}
use Rattle.schema.specs.Layers.{ItemLayer, SlotLayer}
use Rattle.schema.specs.Pairs.{entries_of}
use Rattle.schema.specs.Value.{slots_of}
use Rattle.schema.specs.declared.key.Key.{Key}
use Rattle.schema.specs.declared.value.Item.TheOpen.{Message, One, Many, Pairs as Entries}
use Rattle.schema.specs.declared.value.Item.{out-Item, Item}
use Rattle.schema.specs.declared.value.Slot.{out-Slot, Slot}
use Rattle.schema.specs.declared.value.Value.{Value}
use Rattle.json_meanings.specs.SpotTables.{known_of}

-- the texts of timestamps, durations and field masks, without quotes, or none
abbrev pub KnownTexts : Type 0
KnownTexts = Known → Value → Option (List ℕ)

-- those in an item, where `sub` gives those in a message
abbrev pub item_parts : (TypeId → Value → List (Known × Value)) → Kind → ItemLayer → List (Known × Value)
item_parts sub (MessageOf id) (Message v) = sub id v
item_parts sub _ _ = []

-- those in a slot
abbrev pub slot_parts : (TypeId → Value → List (Known × Value)) → Kind → SlotLayer → List (Known × Value)
slot_parts sub kind (One i) = item_parts sub kind (out-Item i)
slot_parts sub kind (Many is) = flat_map (λ i. item_parts sub kind (out-Item i)) is
slot_parts sub kind (Entries p) = flat_map (λ (e : Key × Item). item_parts sub kind (out-Item e.1)) (entries_of p)

-- those in a slot of the field that its number has
abbrev pub field_parts : (TypeId → Value → List (Known × Value)) → Option Field → Slot → List (Known × Value)
field_parts sub None s = []
field_parts sub (Some f) s = slot_parts sub f.kind (out-Slot s)

-- those in slots
abbrev pub slots_parts : (TypeId → Value → List (Known × Value)) → List Field → List (ℕ × Slot) → List (Known × Value)
slots_parts sub fields es = flat_map (λ (e : ℕ × Slot). field_parts sub (field_in fields e.0) e.1) es

-- those in a message of a type, where `inner` are those in its slots: itself, where it is one
abbrev pub own_parts : Known → Value → List (Known × Value) → List (Known × Value)
own_parts Plain v inner = inner
own_parts Wrapper v inner = inner
own_parts known v inner = (known, v) ∷ []

-- those in a message of so many levels
unfoldable pub parts_within : ℕ → Types → TypeId → Value → List (Known × Value)
parts_within zero types id v = []
parts_within (suc k) types id v =
    own_parts (known_of types id) v (slots_parts (parts_within k types) (fields_of types id) (slots_of v))

-- each of them has a text
abbrev pub have_texts : KnownTexts → List (Known × Value) → Bool
have_texts texts ps = list_all (λ (p : Known × Value). is_some (texts p.0 p.1)) ps
