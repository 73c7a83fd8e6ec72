-- What methods reach is the least: each message that is reached is the input or the output of a method, or a field
-- of a message that stands before it names it.
use Rattle.std.specs.Prelude.{◌≡◌, ◌⊎◌, ◌++◌, ◌∷◌, List, Some}
use Rattle.std.specs.List.{Contains}
use Rattle.descriptors.specs.declared.file_set.FieldInfo.{FieldInfo}
use Rattle.descriptor_pool.specs.DeclaredTypes.{SetTypes, message_named}
use Rattle.descriptor_pool.specs.FieldTypes.{field_message, value_field}
use Rattle.descriptor_pool.specs.ReachableTypes.{Joined, fields_at, reachable}
use Rattle.descriptor_pool.specs.SetMethods.{BoundMethod}

-- one of the methods has the path of an item, and its message as input or as output
pub record IsOfMethod (types : SetTypes) (ms : List BoundMethod) (j : Joined) : Type 0 where
  pub method : BoundMethod
  pub among : Contains ms method
  pub names : (message_named types method.input ≡ Some j.message) ⊎ (message_named types method.output ≡ Some j.message)
  pub path : j.path ≡ method.path

-- a field of the message of one of some items names the message of an item, which has that one's path; a map names
-- the type of its values
pub record IsOfField (types : SetTypes) (before : List Joined) (j : Joined) : Type 0 where
  pub item : Joined
  pub among : Contains before item
  pub field : FieldInfo
  pub inside : Contains (fields_at types item.message) field
  pub names : field_message types (value_field types field) ≡ Some j.message
  pub path : j.path ≡ item.path

-- each item that is reached is of a method, or of a field of a message that is reached before it
abbrev pub HasReasons : SetTypes → List BoundMethod → Type 0
HasReasons types ms =
    (before after : List Joined) (j : Joined) → reachable types ms ≡ before ++ (j ∷ after)
    → IsOfMethod types ms j ⊎ IsOfField types before j
