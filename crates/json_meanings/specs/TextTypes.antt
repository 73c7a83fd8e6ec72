-- Which well-known types are written as texts in JSON (the ProtoJSON guide): timestamps, durations and field masks. All
-- others are written by their fields.
use Rattle.std.specs.List.{AllByRecursion}
use Rattle.message_types.specs.declared.messages.Known.{Known}
use Rattle.message_types.specs.declared.messages.Known.TheVariants.{Plain, Wrapper}
use Rattle.message_types.specs.declared.messages.MessageType.{MessageType}
use Rattle.message_types.specs.declared.messages.Types.{Types}

-- a type is written as a text
abbrev pub IsTextType : Known → Type 0
IsTextType Plain = ⊥
IsTextType Wrapper = ⊥
IsTextType _ = Unit {0}

-- a type is written by its fields alone
abbrev pub IsByFields : Known → Type 0
IsByFields Plain = Unit {0}
IsByFields Wrapper = Unit {0}
IsByFields _ = ⊥

-- no type is written as a text
abbrev pub AreByFields : Types → Type 0
AreByFields types = AllByRecursion (λ (m : MessageType). IsByFields m.known) types.messages
