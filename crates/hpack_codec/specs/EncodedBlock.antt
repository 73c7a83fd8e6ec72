-- The block that is written for fields. It uses no dynamic table: a field that equals an entry of the static table
-- is its index (RFC 7541, section 6.1), and others are literals without indexing (section 6.2.2), with the lowest
-- static index of the name if there is one. Strings are not Huffman-coded.
use Rattle.std.specs.Prelude.{◌==◌, ◌+◌, ◌<◌, ◌^◌, ◌&&◌, ◌++◌, ℕ, Bool, List, [], ◌∷◌, length, map, if◌then◌else◌}
use Rattle.std.specs.List.{flat_map}
use Rattle.std.specs.Str.{bytes_eq}
use Rattle.hpack_codec.specs.PrefixInteger.{integer_bytes}
use Rattle.hpack_codec.specs.StringLiteral.{string_bytes_of}
use Rattle.hpack_codec.specs.StaticTable.{HeaderField, static_table}
use Rattle.hpack_codec.specs.DynamicTable.{HeaderTable, resized_to}
use Rattle.base.specs.declared.field_pair.FieldPair.{FieldPair}

-- the first index of entries, from `i` on, whose name and value are those of the field, or 0 if there is none
abbrev pub field_index_from : ℕ → List HeaderField → HeaderField → ℕ
field_index_from i [] f = 0
field_index_from i (e ∷ es) f = if bytes_eq e.0 f.0 && bytes_eq e.1 f.1 then i else field_index_from (i + 1) es f

-- the first index of entries, from `i` on, whose name is this, or 0 if there is none
abbrev pub name_index_from : ℕ → List HeaderField → List ℕ → ℕ
name_index_from i [] name = 0
name_index_from i (e ∷ es) name = if bytes_eq e.0 name then i else name_index_from (i + 1) es name

-- the index of the static entry that equals a field, or 0
unfoldable pub static_field_index : HeaderField → ℕ
static_field_index f = field_index_from 1 static_table f

-- the lowest index of a static entry of this name, or 0
unfoldable pub static_name_index : List ℕ → ℕ
static_name_index name = name_index_from 1 static_table name

-- the string of a name that has no index
abbrev pub name_string : ℕ → List ℕ → List ℕ
name_string index name = if index == 0 then string_bytes_of name else []

-- a literal without indexing, whose name has this index or, at 0, is a string
abbrev pub encoded_literal : ℕ → HeaderField → List ℕ
encoded_literal index f = integer_bytes 0 15 index ++ name_string index f.0 ++ string_bytes_of f.1

-- a field whose index in the static table is `index`, if that is not 0
abbrev pub encoded_with : ℕ → HeaderField → List ℕ
encoded_with index f = if index == 0 then encoded_literal (static_name_index f.0) f else integer_bytes 128 127 index

-- a field
abbrev pub encoded_field : HeaderField → List ℕ
encoded_field f = encoded_with (static_field_index f) f

-- the first block of a connection gives the other side's table the size 0 (RFC 7541, section 6.3)
abbrev pub first_bytes : Bool → List ℕ
first_bytes first = if first then 0x20 ∷ [] else []

-- the block of fields
abbrev pub encoded_block : Bool → List HeaderField → List ℕ
encoded_block first fields = first_bytes first ++ flat_map encoded_field fields

-- the table of the other side behind the block
abbrev pub table_behind : Bool → HeaderTable → HeaderTable
table_behind first t = if first then resized_to t 0 else t

-- the name and the value of a field are each shorter than 2 ^ 32 bytes
pub record IsShort (f : HeaderField) : Type 0 where
  pub name : length f.0 < 2 ^ 32
  pub value : length f.1 < 2 ^ 32

-- the name and the value of a field
abbrev pub pair_of : FieldPair → HeaderField
pair_of p = (p.name, p.value)

-- the names and the values of fields
abbrev pub pairs_of : List FieldPair → List HeaderField
pairs_of ps = map pair_of ps
