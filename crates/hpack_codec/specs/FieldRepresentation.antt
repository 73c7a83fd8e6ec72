-- Representations (RFC 7541, section 6): a field that is indexed, a literal, or a change of the table's size.
use Rattle.std.specs.Prelude.{◌+◌, ℕ, zero, suc, Bool, List, [], ◌∷◌, drop, if◌then◌else◌, nat_lt, nat_le, Option, Some, None}
use Rattle.std.specs.Option.{option_and_then, option_map}
use Rattle.hpack_codec.specs.PrefixInteger.{integer_in}
use Rattle.hpack_codec.specs.StringLiteral.{string_in}
use Rattle.hpack_codec.specs.StaticTable.{HeaderField}
use Rattle.hpack_codec.specs.DynamicTable.{HeaderTable, added_to, resized_to, field_at}

-- what a representation spells: a field if it is one, the table after it, and how many bytes it takes
pub record Representation : Type 0 where
  pub field : Option HeaderField
  pub table : HeaderTable
  pub len : ℕ

-- a literal's name, of an index or, at 0, of the string behind it, and how many bytes it takes behind the index
abbrev pub name_in : HeaderTable → ℕ → List ℕ → Option (List ℕ × ℕ)
name_in t zero rest = string_in rest
name_in t (suc i) rest = option_map (λ (f : HeaderField). (f.0, 0)) (field_at t (suc i))

-- a literal's field, behind an index that takes `len` bytes, and how many bytes it all takes
abbrev pub literal_in : HeaderTable → ℕ → ℕ → List ℕ → Option (HeaderField × ℕ)
literal_in t index len rest =
    option_and_then (λ (name : List ℕ × ℕ). option_map (λ (value : List ℕ × ℕ). ((name.0, value.0), len + name.1 + value.1)) (string_in (drop name.1 rest))) (name_in t index rest)

-- the literal at the front, where `ones` is the prefix of its index with every bit set
abbrev pub literal_at : HeaderTable → ℕ → List ℕ → Option (HeaderField × ℕ)
literal_at t ones bytes = option_and_then (λ (i : ℕ × ℕ). literal_in t i.0 i.1 (drop i.1 bytes)) (integer_in ones bytes)

-- an indexed field (RFC 7541, section 6.1)
abbrev pub indexed : HeaderTable → List ℕ → Option Representation
indexed t bytes =
    option_and_then (λ (i : ℕ × ℕ). option_map (λ (f : HeaderField). record { field = Some f; table = t; len = i.1 }) (field_at t i.0)) (integer_in 127 bytes)

-- a literal that is added to the table (RFC 7541, section 6.2.1)
abbrev pub literal_added : HeaderTable → List ℕ → Option Representation
literal_added t bytes = option_map (λ (l : HeaderField × ℕ). record { field = Some l.0; table = added_to t l.0; len = l.1 }) (literal_at t 63 bytes)

-- a literal that is not added, or never (RFC 7541, sections 6.2.2 and 6.2.3)
abbrev pub literal_alone : HeaderTable → List ℕ → Option Representation
literal_alone t bytes = option_map (λ (l : HeaderField × ℕ). record { field = Some l.0; table = t; len = l.1 }) (literal_at t 15 bytes)

-- a size that may be set
abbrev pub allowed_size : ℕ → ℕ → HeaderTable → Option Representation
allowed_size n len t = if nat_le n 4096 then Some (record { field = None; table = resized_to t n; len = len }) else None

-- a change of the table's size (RFC 7541, section 6.3), which no field may stand before
abbrev pub size_update : HeaderTable → Bool → List ℕ → Option Representation
size_update t late bytes = if late then None else option_and_then (λ (n : ℕ × ℕ). allowed_size n.0 n.1 t) (integer_in 31 bytes)

-- the representation whose first byte is `b`, where `late` says that a field of the block stands before it
abbrev pub representation_of : HeaderTable → Bool → ℕ → List ℕ → Option Representation
representation_of t late b bytes =
    if nat_lt b 32 then literal_alone t bytes
    else (if nat_lt b 64 then size_update t late bytes
    else (if nat_lt b 128 then literal_added t bytes
    else indexed t bytes))

-- the representation at the front
unfoldable pub representation_in : HeaderTable → Bool → List ℕ → Option Representation
representation_in t late [] = None
representation_in t late (b ∷ bs) = representation_of t late b (b ∷ bs)
