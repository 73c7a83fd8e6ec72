-- Header blocks as lists of representations (RFC 7541, sections 2.2, 3 and 4): each begins where the one before it
-- ends, in the table that it left.
use Rattle.std.specs.Prelude.{◌≡◌, ◌+◌, ◌<◌, ◌≤◌, ◌||◌, ℕ, Bool, false, List, [], ◌∷◌, length, drop, Option, Some, None}
use Rattle.std.specs.List.{flat_map}
use Rattle.std.specs.Option.{is_some, option_to_list}
use Rattle.hpack_codec.specs.StaticTable.{HeaderField}
use Rattle.hpack_codec.specs.DynamicTable.{HeaderTable, field_size, fields_size}
use Rattle.hpack_codec.specs.FieldRepresentation.{Representation, representation_in}

-- where a representation begins: its offset in the block, the table there, and whether a field stands before it
pub record RepresentationStart : Type 0 where
  pub offset : ℕ
  pub table : HeaderTable
  pub late : Bool

-- where the first of a block begins
abbrev pub block_start : HeaderTable → RepresentationStart
block_start t = record { offset = 0; table = t; late = false }

-- the representation that begins here, if one does
abbrev pub representation_at : List ℕ → RepresentationStart → Option Representation
representation_at block s = representation_in s.table s.late (drop s.offset block)

-- where the next one begins
abbrev pub next_start : RepresentationStart → Representation → RepresentationStart
next_start s r = record { offset = s.offset + r.len; table = r.table; late = s.late || is_some r.field }

-- the representations of a block from here on, one behind the other, and where the last of them ends
abbrev pub AreRepresentations : List ℕ → RepresentationStart → List Representation → RepresentationStart → Type 0
AreRepresentations block s [] end = s ≡ end
AreRepresentations block s (r ∷ rs) end =
    (representation_at block s ≡ Some r) × AreRepresentations block (next_start s r) rs end

-- the fields of representations
abbrev pub fields_of : List Representation → List HeaderField
fields_of rs = flat_map (λ (r : Representation). option_to_list r.field) rs

-- representations at the front of a block, from a table on
pub record BlockFront (t : HeaderTable) (block : List ℕ) : Type 0 where
  pub representations : List Representation
  pub end : RepresentationStart
  pub are : AreRepresentations block (block_start t) representations end

-- the whole block is representations, which spell these fields and leave this table
pub record IsListOfRepresentations (t : HeaderTable) (block : List ℕ)
    (fields : List HeaderField) (after : HeaderTable) : Type 0 where
  pub front : BlockFront t block
  pub whole : front.end.offset ≡ length block
  pub fields_are : fields_of front.representations ≡ fields
  pub table_is : front.end.table ≡ after

-- representations, whose fields are within the limit, lead to an offset within the block where none begins
pub record IsBadAt (limit : ℕ) (t : HeaderTable) (block : List ℕ) (offset : ℕ) : Type 0 where
  pub front : BlockFront t block
  pub fits : fields_size (fields_of front.representations) ≤ limit
  pub ends_at : front.end.offset ≡ offset
  pub within : offset < length block
  pub none : representation_at block front.end ≡ None

-- representations, whose fields are within the limit, lead to one with whose field they pass it
pub record PassesLimit (limit : ℕ) (t : HeaderTable) (block : List ℕ) : Type 0 where
  pub front : BlockFront t block
  pub fits : fields_size (fields_of front.representations) ≤ limit
  pub next : Representation
  pub is_next : representation_at block front.end ≡ Some next
  pub field : HeaderField
  pub has_field : next.field ≡ Some field
  pub passes : limit < fields_size (fields_of front.representations) + field_size field
