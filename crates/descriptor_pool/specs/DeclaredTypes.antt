-- The messages and enums of a set, found by type names (descriptor.proto: a type name has a leading dot and
-- then the full name).
use Rattle.std.specs.Prelude.{◌==◌, ◌+◌, ℕ, List, [], ◌∷◌, map, Option, Some, None, if◌then◌else◌, option_and_then, option_to_list}
use Rattle.std.specs.List.{flat_map}
use Rattle.std.specs.Str.{bytes_eq}
use Rattle.descriptor_pool.specs.DeclaredNames.{Declaration, DeclaredMessage, DeclaredEnum, Message, Enum, Extension}

-- the messages of a set, its enums, and the full names of the messages that are extended
pub record SetTypes : Type 0 where
  pub messages : List DeclaredMessage
  pub enums : List DeclaredEnum
  pub extended : List (List ℕ)

-- the message of a declaration, where it is one
abbrev pub message_in : Declaration → List DeclaredMessage
message_in (Message m) = m ∷ []
message_in _ = []

-- the enum of a declaration, where it is one
abbrev pub enum_in : Declaration → List DeclaredEnum
enum_in (Enum e) = e ∷ []
enum_in _ = []

-- the full name that a type name names: it stands behind a dot
abbrev pub bare : List ℕ → Option (List ℕ)
bare [] = None
bare (b ∷ bs) = if b == 46 then Some bs else None

-- the full name of the message that a declaration extends, where it is an extension
abbrev pub extended_in : Declaration → List (List ℕ)
extended_in (Extension name) = option_to_list (bare name)
extended_in _ = []

-- the types of declarations, in order
abbrev pub types_in : List Declaration → SetTypes
types_in ds = record { messages = flat_map message_in ds; enums = flat_map enum_in ds; extended = flat_map extended_in ds }

-- the index of the first of some names that is this one, where they are counted from `k`
abbrev pub first_from : ℕ → List (List ℕ) → List ℕ → Option ℕ
first_from k [] name = None
first_from k (n ∷ ns) name = if bytes_eq name n then Some k else first_from (k + 1) ns name

-- the index of the name that a type name names
abbrev pub type_named : List (List ℕ) → List ℕ → Option ℕ
type_named names name = option_and_then (first_from 0 names) (bare name)

-- the index of the message that a type name names
abbrev pub message_named : SetTypes → List ℕ → Option ℕ
message_named types name = type_named (map (λ m. m.name) types.messages) name

-- the index of the enum that a type name names
abbrev pub enum_named : SetTypes → List ℕ → Option ℕ
enum_named types name = type_named (map (λ e. e.name) types.enums) name
