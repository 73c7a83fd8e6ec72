-- How the dynamic table changes, and what stays so, in the words of RFC 7541, sections 4.2 to 4.4.
use Rattle.std.specs.Prelude.{◌≡◌, ◌-◌, ◌<◌, ◌≤◌, ◌++◌, ℕ, List, [], ◌∷◌}
use Rattle.hpack_codec.specs.StaticTable.{HeaderField}
use Rattle.hpack_codec.specs.DynamicTable.{HeaderTable, field_size, fields_size}

-- of entries that were evicted one by one from the end, the last to go had to: with it those that are left were too
-- large
abbrev pub HadToGo : ℕ → List HeaderField → List HeaderField → Type 0
HadToGo size kept [] = Unit {0}
HadToGo size kept (f ∷ fs) = size < fields_size (kept ++ f ∷ [])

-- entries are evicted from the end until those that are left have this size at most, or none is left
pub record IsEvictedTo (size : ℕ) (old kept : List HeaderField) : Type 0 where
  pub evicted : List HeaderField
  pub from_the_end : old ≡ kept ++ evicted
  pub fits : fields_size kept ≤ size
  pub no_more : HadToGo size kept evicted

-- a field is added: entries are evicted until there is room for it, and it is the newest; a field that is larger
-- than the table empties it
pub record IsAdded (old : HeaderTable) (f : HeaderField) (new : HeaderTable) : Type 0 where
  pub max_size : new.max_size ≡ old.max_size
  pub larger : old.max_size < field_size f → new.fields ≡ []
  pub kept : List HeaderField
  pub evicts : field_size f ≤ old.max_size → IsEvictedTo (old.max_size - field_size f) old.fields kept
  pub newest : field_size f ≤ old.max_size → new.fields ≡ f ∷ kept

-- the size of a table is changed: entries are evicted until they have this size at most
pub record IsResized (old : HeaderTable) (size : ℕ) (new : HeaderTable) : Type 0 where
  pub max_size : new.max_size ≡ size
  pub evicts : IsEvictedTo size old.fields new.fields

-- the fields of a table have the size that is set at most, and that is 4,096, with which a connection begins, at most
pub record IsWithinSize (t : HeaderTable) : Type 0 where
  pub within : fields_size t.fields ≤ t.max_size
  pub largest : t.max_size ≤ 4096
