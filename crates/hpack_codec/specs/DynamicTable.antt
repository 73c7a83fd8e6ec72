-- The dynamic table (RFC 7541, sections 2.3.2, 2.3.3 and 4): header fields, the newest first.
use Rattle.std.specs.Prelude.{◌==◌, ◌+◌, ◌-◌, ℕ, List, [], ◌∷◌, ◌++◌, length, if◌then◌else◌, nat_le, slice_get, Option, None}
use Rattle.hpack_codec.specs.StaticTable.{HeaderField, static_table}

-- the size of a field: its name, its value and 32
abbrev pub field_size : HeaderField → ℕ
field_size f = length f.0 + length f.1 + 32

-- the size of a list of fields
abbrev pub fields_size : List HeaderField → ℕ
fields_size [] = 0
fields_size (f ∷ fs) = field_size f + fields_size fs

-- the newest fields that have this size at most together: the oldest are evicted
abbrev pub kept_within : ℕ → List HeaderField → List HeaderField
kept_within room [] = []
kept_within room (f ∷ fs) = if nat_le (field_size f) room then f ∷ kept_within (room - field_size f) fs else []

-- the fields, and the size that they may have together
pub record HeaderTable : Type 0 where
  pub fields : List HeaderField
  pub max_size : ℕ

-- the table of a new connection
abbrev pub first_table : HeaderTable
first_table = record { fields = []; max_size = 4096 }

-- a field is added
abbrev pub added_to : HeaderTable → HeaderField → HeaderTable
added_to t f = record { fields = kept_within t.max_size (f ∷ t.fields); max_size = t.max_size }

-- the size is changed
abbrev pub resized_to : HeaderTable → ℕ → HeaderTable
resized_to t n = record { fields = kept_within n t.fields; max_size = n }

-- the field of an index: the static table from 1 on, and the dynamic table behind it
abbrev pub field_at : HeaderTable → ℕ → Option HeaderField
field_at t i = if i == 0 then None else slice_get (static_table ++ t.fields) (i - 1)
