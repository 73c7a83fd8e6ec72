-- What the reading functions found, as the definitions see it.
use Rattle.std.specs.Prelude.{ℕ, length}
use Rattle.wire_records.specs.WireRecord.{Tag, Piece, Payload, Record, number, eight, sized, group, four}
use Rattle.wire_records.specs.declared.payload.Payload as found
use Rattle.wire_records.specs.declared.payload.Payload.TheVariants as found_as
use Rattle.wire_records.specs.declared.groups.RawRecord.{RawRecord}

-- a number, a wire type and a length as a tag
abbrev pub tag_of : ℕ × ℕ × ℕ → Tag
tag_of t = record { number = t.0; wire = t.1; len = t.2 }

-- a payload, with its bytes
abbrev pub payload_of : found.Payload → Payload
payload_of (found_as.Varint n) = number n
payload_of (found_as.I64 n) = eight n
payload_of (found_as.Len bs) = sized bs.now
payload_of found_as.Group = group
payload_of (found_as.I32 n) = four n

-- a payload, and from where to where it lies
abbrev pub piece_of : found.Payload × ℕ × ℕ → Piece
piece_of p = record { payload = payload_of p.0; from = p.1; to = p.2 }

-- a record, with its bytes
abbrev pub raw_of : RawRecord → Record
raw_of f = record { number = f.number; payload = payload_of f.payload; head = f.head; size = f.size }

-- how many bytes of a length-delimited payload follow its length
abbrev pub sized_len : found.Payload → ℕ
sized_len (found_as.Len bs) = length bs.now
sized_len _ = 0
