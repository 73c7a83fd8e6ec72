-- The full names of messages and enums, of a set and of what is linked of it.
use Rattle.std.specs.Prelude.{◌++◌, ℕ, List, map}
use Rattle.descriptor_pool.specs.DeclaredNames.{DeclaredEnum, DeclaredMessage}
use Rattle.descriptor_pool.specs.DeclaredTypes.{SetTypes}
use Rattle.message_types.specs.declared.enums.EnumType.{EnumType}
use Rattle.message_types.specs.declared.messages.MessageType.{MessageType}
use Rattle.message_types.specs.declared.messages.Types.{Types}

-- the names of message types and enum types
abbrev pub type_names : Types → List (List ℕ)
type_names types = map (λ (m : MessageType). m.name) types.messages ++ map (λ (e : EnumType). e.name) types.enums

-- the full names of the messages and enums of a set
abbrev pub declared_names : SetTypes → List (List ℕ)
declared_names types = map (λ (m : DeclaredMessage). m.name) types.messages
    ++ map (λ (e : DeclaredEnum). e.name) types.enums
