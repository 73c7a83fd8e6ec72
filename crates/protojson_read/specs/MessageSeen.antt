-- What the code keeps of a message, of a field and of a map, as the definitions have it.
use Rattle.std.specs.Prelude.{List}
use Rattle.json_meanings.specs.PartialMessages.{FieldForm as FormOf, PartialMessage as MessageOf}
use Rattle.protojson_read.specs.declared.partial_message.FieldForm.{FieldForm}
use Rattle.protojson_read.specs.declared.partial_message.PartialMessage.{PartialMessage}
use Rattle.protojson_read.specs.declared.entries.MapEntries.{MapEntries}
use Rattle.schema.specs.Value.{slots_of}
use Rattle.schema.specs.declared.key.Key.{Key}
use Rattle.schema.specs.declared.value.Item.{Item}

-- the form of a field
abbrev pub form_seen : FieldForm → FormOf
form_seen f = record { number = f.number; kind = f.kind; shape = f.shape; presence = f.presence }

-- a message that has begun
abbrev pub message_seen : PartialMessage → MessageOf
message_seen m = record { seen = m.seen; oneofs = m.oneofs; slots = slots_of m.value }

-- the entries of a map that is open
abbrev pub entries_seen : MapEntries → List (Key × Item)
entries_seen e = e.map.entries
