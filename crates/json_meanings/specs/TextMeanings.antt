-- What bytes mean as a message of a type, or as one field of it (the ProtoJSON guide; RFC 8259, section 2).
use Rattle.std.specs.Prelude.{ℕ, List, Option}
use Rattle.message_types.specs.declared.messages.TypeId.{TypeId}
use Rattle.schema.specs.declared.value.Value.{Value}
use Rattle.json_events.specs.JsonText.{IsTextOf}
use Rattle.json_events.specs.JsonTree.{Json}
use Rattle.json_meanings.specs.JsonDenotes.{Denotes}
use Rattle.json_meanings.specs.JsonScalars.{Schema}

-- the bytes are a text of JSON whose tree means the value
abbrev pub BytesMean : Schema → TypeId → Option ℕ → List ℕ → Value → Type 0
BytesMean c id n bytes v = (j : Json) × IsTextOf j bytes × Denotes c id n j v
