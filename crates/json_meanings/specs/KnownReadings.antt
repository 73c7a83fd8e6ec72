-- What JSON of these types is read by, with what the texts of timestamps, durations and field masks mean (the ProtoJSON
-- guide).
use Rattle.std.specs.Prelude.{ℕ, List, Result, Ok, Err}
use Rattle.known_types.specs.KnownTexts.{known_value}
use Rattle.known_types.specs.declared.fault.TextFault.{TextFault}
use Rattle.known_types.specs.declared.fault.TextFault.TheVariants as text_faults
use Rattle.message_types.specs.declared.messages.Known.{Known}
use Rattle.message_types.specs.declared.messages.Types.{Types}
use Rattle.schema.specs.declared.value.Value.{Value}
use Rattle.json_meanings.specs.JsonScalars.{Schema}
use Rattle.json_meanings.specs.declared.fault.FieldKind.{FieldKind}
use Rattle.json_meanings.specs.declared.fault.FieldKind.TheVariants.{BadText, OutOfRange}

-- why a text means no message, as a fault of a field; no text means that memory was not found
abbrev pub text_kind : TextFault → FieldKind
text_kind text_faults.OutOfRange = OutOfRange
text_kind _ = BadText

-- the message of a text, or its fault as one of a field
abbrev pub as_field : Result Value TextFault → Result Value FieldKind
as_field (Ok v) = Ok v
as_field (Err f) = Err (text_kind f)

-- what the text of a well-known type means: its message, or its fault
abbrev pub json_known : Known → List ℕ → Result Value FieldKind
json_known known text = as_field (known_value known text)

-- what JSON of these types is read by
abbrev pub schema_of : Types → Schema
schema_of types = record { types = types; known = json_known }
