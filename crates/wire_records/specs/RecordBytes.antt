-- The bytes of tags and of what stands behind its length (the encoding guide, "Message Structure").
use Rattle.std.specs.Prelude.{◌+◌, ◌*◌, ◌++◌, ℕ, List, length}
use Rattle.wire_records.specs.Varint.{varint}

-- bytes behind their length
abbrev pub delimited : List ℕ → List ℕ
delimited bytes = varint (length bytes) ++ bytes

-- the tag of a field number and a wire type
abbrev pub tag : ℕ → ℕ → List ℕ
tag number wire = varint (number * 8 + wire)
