-- Where the fields of a block lie in the bytes that are kept of them.
use Rattle.std.specs.Prelude.{◌+◌, ◌-◌, ◌*◌, ◌≡◌, ◌≤◌, ℕ, List, length, map, take, drop}
use Rattle.std.specs.List.{All}
use Rattle.hpack_codec.specs.StaticTable.{HeaderField}
use Rattle.hpack_codec.specs.DynamicTable.{fields_size}
use Rattle.hpack_codec.specs.declared.fields.FieldSpan.{FieldSpan}

-- the field of a span
abbrev pub field_in : List ℕ → FieldSpan → HeaderField
field_in bytes s = (take (s.middle - s.start) (drop s.start bytes), take (s.end - s.middle) (drop s.middle bytes))

-- the fields of spans
abbrev pub fields_in : List ℕ → List FieldSpan → List HeaderField
fields_in bytes spans = map (field_in bytes) spans

-- a span lies within so many bytes
pub record IsWithin (n : ℕ) (s : FieldSpan) : Type 0 where
  pub middle : s.start ≤ s.middle
  pub end : s.middle ≤ s.end
  pub within : s.end ≤ n

-- the spans lie within the bytes, and the sizes of their fields are those of the bytes and 32 for each
pub record AreSpans (bytes : List ℕ) (spans : List FieldSpan) : Type 0 where
  pub within : All (IsWithin (length bytes)) spans
  pub size : fields_size (fields_in bytes spans) ≡ length bytes + 32 * length spans
