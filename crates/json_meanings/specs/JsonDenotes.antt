-- What a JSON tree means as a message of a type, or as one field of it, or else its first fault (the ProtoJSON guide).
use Rattle.std.specs.Prelude.{◌≡◌, ◌++◌, ℕ, false, [], ◌∷◌, Option, Some, None, Result, Ok}
use Rattle.message_types.specs.Types.{field_in, fields_of}
use Rattle.message_types.specs.declared.fields.Field.{Field}
use Rattle.message_types.specs.declared.messages.TypeId.{TypeId}
use Rattle.schema.specs.Layers.{ItemLayer}
use Rattle.schema.specs.Pairs.{with_item}
use Rattle.schema.specs.declared.value.Item.TheOpen.{Truth, Message}
use Rattle.schema.specs.declared.value.Item.{roll-Item}
use Rattle.schema.specs.declared.value.Slot.{Slot}
use Rattle.schema.specs.declared.value.Value.{Value}
use Rattle.json_events.specs.JsonTree.{Json, Items, Pairs, literal, number, string, array, object, no_items, item, no_pairs, pair, name, digits, text}
use Rattle.json_meanings.specs.FaultPlaces.{Fault, at_once, behind, onward, size}
use Rattle.json_meanings.specs.JsonScalars.{Schema}
use Rattle.json_meanings.specs.PartialMessages.{FieldForm, empty_message, form_of, listed, mapped, put_field, stored, value_of}
use Rattle.json_meanings.specs.ReadingSpots.{Filled, OpenArray, OpenObject, Spot, element, entry, many, member, of_map, of_message, pairs, part, single, unset, whole}
use Rattle.json_meanings.specs.SpotTables.{fills, names_spot, opens_array, opens_object}

-- the slot of a field that was filled so
abbrev pub slot_by : FieldForm → Filled → Option Slot
slot_by f unset = None
slot_by f (single i) = stored f.presence i
slot_by f (many is) = listed is
slot_by f (pairs es) = mapped es

-- the one item of what fills a spot; no other is asked for its item
abbrev pub item_by : Filled → ItemLayer
item_by (single i) = i
item_by _ = Truth false

-- an array with one item more
abbrev pub array_with : OpenArray → Filled → OpenArray
array_with a x = record { levels = a.levels; kind = a.kind; items = a.items ++ roll-Item (item_by x) ∷ [] }

-- an object with what fills the spot behind its last key
abbrev pub object_with : Spot → Filled → OpenObject
object_with (member k id p f) x = of_message k id (put_field p f (slot_by f x))
object_with (entry k s kind es key) x = of_map k s kind (with_item es key (roll-Item (item_by x)))
object_with _ x = of_message 0 (record { 0 = 0 }) empty_message

-- what an object comes to at its end
abbrev pub object_value : OpenObject → Filled
object_value (of_message k id p) = single (Message (value_of p))
object_value (of_map k s kind es) = pairs es

abbrev mutual
  -- what a tree comes to at a spot, or its first fault
  pub value : Schema → Spot → Json → Result Filled Fault
  value c spot (literal n) = at_once (fills c spot (name n))
  value c spot (number t) = at_once (fills c spot (digits t))
  value c spot (string t) = at_once (fills c spot (text t))
  value c spot (array js) = onward (at_once (opens_array spot)) (λ a. behind 1 (items c a js))
  value c spot (object ps) = onward (at_once (opens_object c spot)) (λ o. behind 1 (members c o ps))

  -- what an array comes to with these items behind those that came
  pub items : Schema → OpenArray → Items → Result Filled Fault
  items c a no_items = Ok (many a.items)
  items c a (item j js) = onward (value c (element a) j) (λ x. behind (size j) (items c (array_with a x) js))

  -- what an object comes to with these members behind those that came
  pub members : Schema → OpenObject → Pairs → Result Filled Fault
  members c o no_pairs = Ok (object_value o)
  members c o (pair t j ps) =
      onward (at_once (names_spot c o t)) (λ spot.
      behind 1 (onward (value c spot j) (λ x.
      behind (size j) (members c (object_with spot x) ps))))

-- an item that is a message; no other is asked for its message
abbrev pub message_in : ItemLayer → Value
message_in (Message v) = v
message_in _ = value_of empty_message

-- the message of what fills a spot that stands alone
abbrev pub alone : Spot → Filled → Value
alone (part k f) x = value_of (put_field empty_message f (slot_by f x))
alone _ x = message_in (item_by x)

-- the message of a tree at a spot that stands alone, or its first fault
abbrev pub read_at : Schema → Spot → Json → Result Value Fault
read_at c spot j = onward (value c spot j) (λ x. Ok (alone spot x))

-- the spot of one field; where there is no such field the whole message is read
abbrev pub part_spot : Option Field → TypeId → Spot
part_spot None id = whole 100 id
part_spot (Some f) id = part 99 (form_of f)

-- the spot of a message of a type, or of its one field of a number: a message has 100 levels at most, itself counted
abbrev pub spot_of : Schema → TypeId → Option ℕ → Spot
spot_of c id None = whole 100 id
spot_of c id (Some n) = part_spot (field_in (fields_of c.types id) n) id

-- the value of a tree as a message of the type, or as its one field, or else the first fault
abbrev pub reading : Schema → TypeId → Option ℕ → Json → Result Value Fault
reading c id n j = read_at c (spot_of c id n) j

-- a tree means a value as a message of the type, or as its one field
abbrev pub Denotes : Schema → TypeId → Option ℕ → Json → Value → Type 0
Denotes c id n j v = reading c id n j ≡ Ok v
