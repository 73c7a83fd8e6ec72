-- Where a JSON value stands in the reading of a message, and what it comes to there.
use Rattle.std.specs.Prelude.{ℕ, List}
use Rattle.message_types.specs.declared.fields.Kind.{Kind}
use Rattle.message_types.specs.declared.fields.Scalar.{Scalar}
use Rattle.message_types.specs.declared.messages.TypeId.{TypeId}
use Rattle.schema.specs.Layers.{ItemLayer}
use Rattle.schema.specs.declared.key.Key.{Key}
use Rattle.schema.specs.declared.value.Item.{Item}
use Rattle.json_meanings.specs.PartialMessages.{FieldForm, PartialMessage}

-- an array that is open: how many levels are left for its items, their kind, and those that came
pub record OpenArray : Type 0 where
  pub levels : ℕ
  pub kind : Kind
  pub items : List Item

-- an object that is open, with how many levels are left for what is inside: a message of a type, or the entries of a
-- map with keys and values of these kinds
pub data OpenObject : Type 0 where
  of_message : ℕ → TypeId → PartialMessage → OpenObject
  of_map : ℕ → Scalar → Kind → List (Key × Item) → OpenObject

-- where a value stands: alone as a message or as one field, behind a key of a message or of a map, or in an array; with
-- how many levels are left for it
pub data Spot : Type 0 where
  whole : ℕ → TypeId → Spot
  part : ℕ → FieldForm → Spot
  member : ℕ → TypeId → PartialMessage → FieldForm → Spot
  entry : ℕ → Scalar → Kind → List (Key × Item) → Key → Spot
  element : OpenArray → Spot

-- what a value comes to: nothing, one item, the items of an array, or the entries of a map
pub data Filled : Type 0 where
  unset : Filled
  single : ItemLayer → Filled
  many : List Item → Filled
  pairs : List (Key × Item) → Filled
