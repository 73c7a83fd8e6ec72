-- What a field of a value holds: of a singular field one item, of a repeated message field the messages.
use Rattle.std.specs.Prelude.{◌^◌, ℕ, ℤ, pos, negsuc, Bool, false, List, [], Option, Some, None, if◌then◌else◌, nat_lt, option_map, option_and_then, unwrap_or}
use Rattle.std.specs.List.{filter_map}
use Rattle.schema.specs.Layers.{ItemLayer, SlotLayer}
use Rattle.schema.specs.Value.{slot_at}
use Rattle.schema.specs.declared.value.Item.TheOpen.{Number, Truth, Text, Message, One, Many}
use Rattle.schema.specs.declared.value.Item.{Item, out-Item}
use Rattle.schema.specs.declared.value.Slot.{out-Slot}
use Rattle.schema.specs.declared.value.Value.{Value}

-- the item of a slot of a singular field
abbrev pub item_in : SlotLayer → Option Item
item_in (One i) = Some i
item_in _ = None

-- the items of a slot of a repeated field
abbrev pub items_in : SlotLayer → List Item
items_in (Many is) = is
items_in _ = []

-- a text
abbrev pub text_in : ItemLayer → Option (List ℕ)
text_in (Text t) = Some t
text_in _ = None

-- a number, where it has 32 bits, as each of an int32 field has
abbrev pub as_int32 : ℤ → Option ℤ
as_int32 (pos n) = if nat_lt n (2 ^ 31) then Some (pos n) else None
as_int32 (negsuc n) = if nat_lt n (2 ^ 31) then Some (negsuc n) else None

-- a number of 32 bits
abbrev pub number_in : ItemLayer → Option ℤ
number_in (Number z) = as_int32 z
number_in _ = None

-- a truth value
abbrev pub truth_in : ItemLayer → Option Bool
truth_in (Truth b) = Some b
truth_in _ = None

-- a message
abbrev pub message_in : ItemLayer → Option Value
message_in (Message v) = Some v
message_in _ = None

-- the item of a singular field, where it stands
abbrev pub item_at : Value → ℕ → Option Item
item_at v n = option_and_then (λ s. item_in (out-Slot s)) (slot_at v n)

-- the items of a repeated field, in order
abbrev pub items_at : Value → ℕ → List Item
items_at v n = unwrap_or (option_map (λ s. items_in (out-Slot s)) (slot_at v n)) []

-- the text of a string field, where it stands
abbrev pub text_at : Value → ℕ → Option (List ℕ)
text_at v n = option_and_then (λ i. text_in (out-Item i)) (item_at v n)

-- the text of a string field, the empty one where it is absent
abbrev pub text_or_empty : Value → ℕ → List ℕ
text_or_empty v n = unwrap_or (text_at v n) []

-- the number of an int32 or enum field, where it stands
abbrev pub number_at : Value → ℕ → Option ℤ
number_at v n = option_and_then (λ i. number_in (out-Item i)) (item_at v n)

-- the number of an int32 or enum field, 0 where it is absent
abbrev pub number_or_zero : Value → ℕ → ℤ
number_or_zero v n = unwrap_or (number_at v n) (pos 0)

-- the truth value of a bool field, where it stands
abbrev pub truth_at : Value → ℕ → Option Bool
truth_at v n = option_and_then (λ i. truth_in (out-Item i)) (item_at v n)

-- the truth value of a bool field, false where it is absent
abbrev pub truth_or_false : Value → ℕ → Bool
truth_or_false v n = unwrap_or (truth_at v n) false

-- the message of a singular field, where it stands
abbrev pub message_at : Value → ℕ → Option Value
message_at v n = option_and_then (λ i. message_in (out-Item i)) (item_at v n)

-- the messages among items, in order
abbrev pub messages_in : List Item → List Value
messages_in is = filter_map (λ i. message_in (out-Item i)) is

-- the messages of a repeated field, in order
abbrev pub messages_at : Value → ℕ → List Value
messages_at v n = messages_in (items_at v n)
