-- The messages that the methods of a set reach, in the order of a queue: it begins with the input and output
-- of each method, in order; when a message is taken, the messages of its fields join, in order; each message
-- is taken once, where it first stands.
use Rattle.std.specs.Prelude.{◌++◌, ℕ, zero, suc, Bool, List, [], ◌∷◌, length, map, take, fold, nat_eq, Option, Some, None, if◌then◌else◌, slice_get}
use Rattle.std.specs.List.{flat_map, list_any}
use Rattle.std.specs.Option.{option_map_or}
use Rattle.descriptors.specs.declared.file_set.FieldInfo.{FieldInfo}
use Rattle.descriptor_pool.specs.DeclaredNames.{DeclaredMessage}
use Rattle.descriptor_pool.specs.DeclaredTypes.{SetTypes, message_named}
use Rattle.descriptor_pool.specs.FieldTypes.{field_enum, field_message, value_field}
use Rattle.descriptor_pool.specs.SetMethods.{BoundMethod}

-- a message in the queue, by its index among those of the set, and the gRPC path of the method through which
-- it joined
pub record Joined : Type 0 where
  pub message : ℕ
  pub path : List ℕ

-- the messages of items, by their indexes among those of the set
abbrev pub messages_of : List Joined → List ℕ
messages_of js = map (λ (j : Joined). j.message) js

-- a message joins, where there is one
abbrev pub joins : List ℕ → Option ℕ → List Joined
joins path None = []
joins path (Some i) = record { message = i; path = path } ∷ []

-- the input and output of each method
abbrev pub method_roots : SetTypes → BoundMethod → List Joined
method_roots types m = joins m.path (message_named types m.input) ++ joins m.path (message_named types m.output)

-- the message of a field joins; of a map that of its values
abbrev pub field_joins : SetTypes → List ℕ → FieldInfo → List Joined
field_joins types path f = joins path (field_message types (value_field types f))

-- the messages of fields join, in order
abbrev pub fields_join : SetTypes → List ℕ → List FieldInfo → List Joined
fields_join types path fs = flat_map (field_joins types path) fs

-- the fields of the message of an index
abbrev pub fields_at : SetTypes → ℕ → List FieldInfo
fields_at types i = option_map_or (λ (m : DeclaredMessage). m.fields) (slice_get types.messages i) []

-- what joins when a message is taken
abbrev pub next : SetTypes → Joined → List Joined
next types j = fields_join types j.path (fields_at types j.message)

-- the queue that stands when these messages were taken
abbrev pub queue : SetTypes → List BoundMethod → List Joined → List Joined
queue types ms taken = flat_map (method_roots types) ms ++ flat_map (next types) taken

-- an item is that of a message
abbrev pub is_of : ℕ → Joined → Bool
is_of i j = nat_eq i j.message

-- a list with an item whose message it lacks; as it is where it has that message
abbrev pub with_joined : List Joined → Joined → List Joined
with_joined js j = if list_any (is_of j.message) js then js else js ++ j ∷ []

-- of each message the first item
abbrev pub once : List Joined → List Joined
once js = fold with_joined [] js

-- the first messages that are taken, so many at most: each next one is the next of the queue that stands then
abbrev pub taken : SetTypes → List BoundMethod → ℕ → List Joined
taken types ms zero = []
taken types ms (suc n) = take (suc n) (once (queue types ms (taken types ms n)))

-- all that are taken: there are no more messages than those of the set
abbrev pub reachable : SetTypes → List BoundMethod → List Joined
reachable types ms = taken types ms (length types.messages)

-- the enum of a field; of a map that of its values
abbrev pub named_enum : SetTypes → FieldInfo → List ℕ
named_enum types f = option_map_or (λ i. i ∷ []) (field_enum types (value_field types f)) []

-- a list with an index that it lacks
abbrev pub with_index : List ℕ → ℕ → List ℕ
with_index is i = if list_any (nat_eq i) is then is else is ++ i ∷ []

-- the enums that the fields of a message name
abbrev pub message_enums : SetTypes → Joined → List ℕ
message_enums types j = flat_map (named_enum types) (fields_at types j.message)

-- the enums that fields of the messages reached name, each where it is first named; there are no more than
-- those of the set
abbrev pub reached_enums : SetTypes → List Joined → List ℕ
reached_enums types js = take (length types.enums) (fold with_index [] (flat_map (message_enums types) js))
