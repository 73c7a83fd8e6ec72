-- What a representation makes of the table, by its first byte.
use Rattle.std.proofs.Common.{◌≡◌, ◌<◌, ◌≤◌, ℕ, Bool, true, false, List, ◌∷◌, Option, Some, None}
use Rattle.std.proofs.Common.{if◌then◌else◌, refl}
use Rattle.std.proofs.Common.{ap, sym, ◌∙◌, arith}
use Rattle.std.specs.Prelude.{nat_le}
use Rattle.std.specs.Option.{option_map}
use Rattle.std.proofs.lemmas.Bool.Decides.{nat_tests}
use Rattle.hpack_codec.specs.PrefixInteger.{integer_in}
use Rattle.hpack_codec.specs.StaticTable.{HeaderField}
use Rattle.hpack_codec.specs.DynamicTable.{HeaderTable, added_to, field_at, resized_to}
use Rattle.hpack_codec.specs.FieldRepresentation.{Representation, allowed_size}
use Rattle.hpack_codec.specs.FieldRepresentation.{literal_at, representation_in, size_update}
use Rattle.hpack_codec.specs.AddedEntries.{IsAdded, IsResized}
use Rattle.hpack_codec.proofs.RepresentationLemmas.{added_in, alone_in, indexed_in, size_in}
use Rattle.hpack_codec.proofs.RepresentationSizes.{from_map, from_then}
use Rattle.hpack_codec.proofs.EvictionLemmas.{added_is, resized_is}

-- a literal with incremental indexing
pub adds : (t : HeaderTable) (late : Bool) (b : ℕ) (bs : List ℕ) (r : Representation) → 64 ≤ b → b < 128
    → representation_in t late (b ∷ bs) ≡ Some r → (f : HeaderField) × (r.field ≡ Some f) × IsAdded t f r.table
adds t late b bs r l m e =
    let w = from_map (λ (l : HeaderField × ℕ). record { field = Some l.0; table = added_to t l.0; len = l.1 })
    (literal_at t 63 (b ∷ bs)) r (sym (added_in t late (b ∷ bs) b refl l m) ∙ e) in (
      w.0.0,
      sym (ap (λ (x : Representation). x.field) w.2),
      (added_is t w.0.0 r.table).1 (sym (ap (λ (x : Representation). x.table) w.2)),
    )

-- a size that is set
record IsSet (t : HeaderTable) (bytes : List ℕ) (r : Representation) : Type 0 where
  size : ℕ
  number : integer_in 31 bytes ≡ Some (size, r.len)
  small : size ≤ 4096
  none : r.field ≡ None
  table : r.table ≡ resized_to t size

set_by : (t : HeaderTable) (bytes : List ℕ) (n len : ℕ) (r : Representation) (test : Bool) → nat_le n 4096 ≡ test
    → integer_in 31 bytes ≡ Some (n, len)
    → (if test then Some (record { field = None; table = resized_to t n; len = len }) else None) ≡ Some r
    → IsSet t bytes r
set_by t bytes n len r true g h e = record {
  size = n;
  number = h ∙ ap (λ (k : ℕ). Some (n, k)) (ap len_of e);
  small = grind (arith, nat_tests, g);
  none = sym (ap field_of e);
  table = sym (ap table_of e);
}
  where
    field_of : Option Representation → Option HeaderField
    field_of None = None
    field_of (Some x) = x.field

    table_of : Option Representation → HeaderTable
    table_of None = t
    table_of (Some x) = x.table

    len_of : Option Representation → ℕ
    len_of None = 0
    len_of (Some x) = x.len
set_by t bytes n len r false g h e = absurd (cc)

sets : (t : HeaderTable) (late : Bool) (bytes : List ℕ) (r : Representation) → size_update t late bytes ≡ Some r
    → IsSet t bytes r
sets t true bytes r e = absurd (cc)
sets t false bytes r e =
    let n = from_then (λ (n : ℕ × ℕ). allowed_size n.0 n.1 t) (integer_in 31 bytes) r e in
    set_by t bytes n.0.0 n.0.1 r (nat_le n.0.0 4096) refl n.1 n.2

-- a change of the size
pub resizes : (t : HeaderTable) (late : Bool) (b : ℕ) (bs : List ℕ) (r : Representation) → 32 ≤ b → b < 64
    → representation_in t late (b ∷ bs) ≡ Some r
    → (size : ℕ) × (integer_in 31 (b ∷ bs) ≡ Some (size, r.len)) × (size ≤ 4096) × (r.field ≡ None)
    × IsResized t size r.table
resizes t late b bs r l m e =
    let s = sets t late (b ∷ bs) r (sym (size_in t late (b ∷ bs) b refl l m) ∙ e) in
    (s.size, s.number, s.small, s.none, (resized_is t s.size r.table).1 s.table)

-- a literal that is not added
pub alone_keeps : (t : HeaderTable) (late : Bool) (b : ℕ) (bs : List ℕ) (r : Representation) → b < 32
    → representation_in t late (b ∷ bs) ≡ Some r
    → (f : HeaderField) × (r.field ≡ Some f) × (r.table ≡ t)
alone_keeps t late b bs r m e =
    let w = from_map (λ (l : HeaderField × ℕ). record { field = Some l.0; table = t; len = l.1 })
    (literal_at t 15 (b ∷ bs)) r
    (sym (alone_in t late (b ∷ bs) b refl m) ∙ e) in
    (w.0.0, sym (ap (λ (x : Representation). x.field) w.2), sym (ap (λ (x : Representation). x.table) w.2))

-- an indexed field
pub indexed_keeps : (t : HeaderTable) (late : Bool) (b : ℕ) (bs : List ℕ) (r : Representation) → 128 ≤ b
    → representation_in t late (b ∷ bs) ≡ Some r
    → (f : HeaderField) × (r.field ≡ Some f) × (r.table ≡ t)
indexed_keeps t late b bs r l e =
    let i = from_then (λ (n : ℕ × ℕ). option_map (λ (f : HeaderField). record {
      field = Some f;
      table = t;
      len =
          n.1;
    }) (field_at t n.0))
    (integer_in 127 (b ∷ bs)) r (sym (indexed_in t late (b ∷ bs) b refl l) ∙ e) in
    let f = from_map (λ (f : HeaderField). record { field = Some f; table = t; len = i.0.1 }) (field_at t i.0.0) r i.2
    in
    (f.0, sym (ap (λ (x : Representation). x.field) f.2), sym (ap (λ (x : Representation). x.table) f.2))
