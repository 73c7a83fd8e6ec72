-- Bytes and values: which value bytes have as a message of a type, in at most 100 levels.
use Rattle.std.specs.Prelude.{◌≡◌, ℕ, List, Option, Some, None, Result, Ok, Err}
use Rattle.message_types.specs.Types.{fields_of}
use Rattle.message_types.specs.declared.messages.TypeId.{TypeId}
use Rattle.message_types.specs.declared.messages.Types.{Types}
use Rattle.schema.specs.declared.value.Value.{Value}
use Rattle.wire_format.specs.FieldValues.{meaning_within}
use Rattle.wire_format.specs.WireFaults.{Fault, first_fault}

-- the first fault of bytes as a message of the type
abbrev pub fault_of : Types → TypeId → List ℕ → Option Fault
fault_of types id bytes = first_fault 100 types (fields_of types id) 0 bytes

-- what the records of bytes say as a message of the type
abbrev pub value_of : Types → TypeId → List ℕ → Value
value_of types id bytes = (meaning_within 100 types).message (fields_of types id) bytes

-- the bytes have no fault, and the value is what their records say
abbrev pub DecodesTo : Types → TypeId → List ℕ → Value → Type 0
DecodesTo types id bytes v = (fault_of types id bytes ≡ None) × (v ≡ value_of types id bytes)

-- the value, unless there is a fault
abbrev pub unless : Option Fault → Value → Result Value Fault
unless None v = Ok v
unless (Some f) v = Err f

-- the value of bytes, or their first fault
unfoldable pub decoding : Types → TypeId → List ℕ → Result Value Fault
decoding types id bytes = unless (fault_of types id bytes) (value_of types id bytes)
