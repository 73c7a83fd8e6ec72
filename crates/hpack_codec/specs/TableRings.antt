-- The dynamic table as two rings keep it: the lengths of each field, and their bytes, the oldest first.
use Rattle.std.specs.Prelude.{◌≡◌, ◌+◌, ◌-◌, ◌≤◌, ℕ, List, [], ◌∷◌, ◌++◌, length, take, drop, slice_get, Some}
use Rattle.hpack_codec.specs.StaticTable.{HeaderField}
use Rattle.hpack_codec.specs.DynamicTable.{HeaderTable}
use Rattle.hpack_codec.specs.declared.dynamic_table.FieldLengths.{FieldLengths}

-- the field of these lengths at the front of bytes
abbrev pub front_field : FieldLengths → List ℕ → HeaderField
front_field l bytes = (take l.name bytes, take l.value (drop l.name bytes))

-- the fields of these lengths at the front of bytes, the newest first
abbrev pub newest_first : List FieldLengths → List ℕ → List HeaderField
newest_first [] bytes = []
newest_first (l ∷ ls) bytes = newest_first ls (drop (l.name + l.value) bytes) ++ front_field l bytes ∷ []

-- how many bytes they have
abbrev pub bytes_len : List FieldLengths → ℕ
bytes_len [] = 0
bytes_len (l ∷ ls) = (l.name + l.value) + bytes_len ls

-- the lengths of the field that is the i-th newest, counted from 0, and where it begins
pub record IsFieldStart (ls : List FieldLengths) (i start : ℕ) (l : FieldLengths) : Type 0 where
  pub lengths : slice_get ls (length ls - 1 - i) ≡ Some l
  pub before : start ≡ bytes_len (take (length ls - 1 - i) ls)
  pub within : start + (l.name + l.value) ≤ bytes_len ls

-- the table
abbrev pub table_of : List FieldLengths → List ℕ → ℕ → HeaderTable
table_of lengths bytes max_size = record { fields = newest_first lengths bytes; max_size = max_size }

-- the oldest field is taken off
pub record IsEvicted (old new : HeaderTable) : Type 0 where
  pub oldest : HeaderField
  pub fields : old.fields ≡ new.fields ++ oldest ∷ []
  pub max_size : new.max_size ≡ old.max_size
