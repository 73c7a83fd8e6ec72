-- What methods reach is closed: the messages that they name are reached, and the messages and enums that its fields
-- name are reached too.
use Rattle.std.specs.Prelude.{◌≡◌, ◌<◌, ℕ, true, List, length, nat_eq, Some}
use Rattle.std.specs.List.{AllByRecursion, Contains, IsDistinct, list_any}
use Rattle.descriptors.specs.declared.file_set.FieldInfo.{FieldInfo}
use Rattle.descriptor_pool.specs.DeclaredTypes.{SetTypes, message_named}
use Rattle.descriptor_pool.specs.FieldTypes.{field_enum, field_message, value_field}
use Rattle.descriptor_pool.specs.ReachableTypes.{Joined, fields_at, messages_of, reachable, reached_enums}
use Rattle.descriptor_pool.specs.SetMethods.{BoundMethod}

-- an index is among some
abbrev pub IsAmong : List ℕ → ℕ → Type 0
IsAmong is i = list_any (nat_eq i) is ≡ true

-- the input and the output of a method, where they name messages, have a property
abbrev pub HaveRoots : SetTypes → (ℕ → Type 0) → BoundMethod → Type 0
HaveRoots types P m = ((i : ℕ) → message_named types m.input ≡ Some i → P i) × ((i : ℕ) → message_named types m.output ≡ Some i → P i)

-- the messages that fields name have a property
abbrev pub HaveMessages : SetTypes → (ℕ → Type 0) → List FieldInfo → Type 0
HaveMessages types P fs = AllByRecursion (λ f. (i : ℕ) → field_message types (value_field types f) ≡ Some i → P i) fs

-- the enums that fields name have a property
abbrev pub HaveEnums : SetTypes → (ℕ → Type 0) → List FieldInfo → Type 0
HaveEnums types P fs = AllByRecursion (λ f. (i : ℕ) → field_enum types (value_field types f) ≡ Some i → P i) fs

-- a field of one of some messages names an enum
pub record IsNamedBy (types : SetTypes) (js : List Joined) (i : ℕ) : Type 0 where
  pub item : Joined
  pub among : Contains js item
  pub field : FieldInfo
  pub inside : Contains (fields_at types item.message) field
  pub names : field_enum types (value_field types field) ≡ Some i

-- the inputs and outputs of methods are reached, and the fields of what is reached name messages and enums that are
-- reached; those are of the set, each is reached once, and each enum is one that a field names
pub record IsReachClosed (types : SetTypes) (ms : List BoundMethod) : Type 0 where
  pub roots : AllByRecursion (HaveRoots types (IsAmong (messages_of (reachable types ms)))) ms
  pub messages : AllByRecursion (λ (j : Joined). HaveMessages types (IsAmong (messages_of (reachable types ms))) (fields_at types j.message)) (reachable types ms)
  pub enums : AllByRecursion (λ (j : Joined). HaveEnums types (IsAmong (reached_enums types (reachable types ms))) (fields_at types j.message)) (reachable types ms)
  pub messages_below : AllByRecursion (λ i. i < length types.messages) (messages_of (reachable types ms))
  pub enums_below : AllByRecursion (λ i. i < length types.enums) (reached_enums types (reachable types ms))
  pub enums_named : AllByRecursion (IsNamedBy types (reachable types ms)) (reached_enums types (reachable types ms))
  pub messages_once : IsDistinct nat_eq (messages_of (reachable types ms))
  pub enums_once : IsDistinct nat_eq (reached_enums types (reachable types ms))
