-- The search of a table for an index, entry by entry.
use Rattle.std.proofs.Common.{◌≡◌, ◌+◌, ◌≤◌, ◌<◌, ℕ, Bool, true, false, cond, List, [], length, get_or, drop, ap, ◌∙◌}
use Rattle.std.specs.Prelude.{◌&&◌}
use Rattle.std.specs.Str.{bytes_eq}
use Rattle.std.proofs.lemmas.List.{drop_more, drop_all}
use Rattle.hpack_codec.specs.StaticTable.{HeaderField}
use Rattle.hpack_codec.specs.EncodedBlock.{field_index_from, name_index_from}

-- a field without a name and a value
abbrev pub nothing : HeaderField
nothing = ([], [])

module _ (table : List HeaderField) (i : ℕ) (f : HeaderField) where
  field_at_index : (test : Bool) → i < length table → (bytes_eq (get_or table i nothing).0 f.0 && bytes_eq (get_or table i nothing).1 f.1) ≡ test
      → field_index_from (i + 1) (drop i table) f ≡ cond test (i + 1) (field_index_from (i + 1 + 1) (drop (i + 1) table) f)
  field_at_index test h e =
      ap (λ (es : List HeaderField). field_index_from (i + 1) es f) (drop_more table i nothing h)
      ∙ ap (λ (b : Bool). cond b (i + 1) (field_index_from (i + 1 + 1) (drop (i + 1) table) f)) e

  pub field_here : i < length table → (bytes_eq (get_or table i nothing).0 f.0 && bytes_eq (get_or table i nothing).1 f.1) ≡ true → field_index_from (i + 1) (drop i table) f ≡ i + 1
  field_here h e = field_at_index true h e

  pub field_later : i < length table → (bytes_eq (get_or table i nothing).0 f.0 && bytes_eq (get_or table i nothing).1 f.1) ≡ false
      → field_index_from (i + 1) (drop i table) f ≡ field_index_from (i + 1 + 1) (drop (i + 1) table) f
  field_later h e = field_at_index false h e

  pub field_never : length table ≤ i → field_index_from (i + 1) (drop i table) f ≡ 0
  field_never h = ap (λ (es : List HeaderField). field_index_from (i + 1) es f) (drop_all i table h)

module _ (table : List HeaderField) (i : ℕ) (name : List ℕ) where
  name_at : (test : Bool) → i < length table → bytes_eq (get_or table i nothing).0 name ≡ test
      → name_index_from (i + 1) (drop i table) name ≡ cond test (i + 1) (name_index_from (i + 1 + 1) (drop (i + 1) table) name)
  name_at test h e =
      ap (λ (es : List HeaderField). name_index_from (i + 1) es name) (drop_more table i nothing h)
      ∙ ap (λ (b : Bool). cond b (i + 1) (name_index_from (i + 1 + 1) (drop (i + 1) table) name)) e

  pub name_here : i < length table → bytes_eq (get_or table i nothing).0 name ≡ true → name_index_from (i + 1) (drop i table) name ≡ i + 1
  name_here h e = name_at true h e

  pub name_later : i < length table → bytes_eq (get_or table i nothing).0 name ≡ false → name_index_from (i + 1) (drop i table) name ≡ name_index_from (i + 1 + 1) (drop (i + 1) table) name
  name_later h e = name_at false h e

  pub name_never : length table ≤ i → name_index_from (i + 1) (drop i table) name ≡ 0
  name_never h = ap (λ (es : List HeaderField). name_index_from (i + 1) es name) (drop_all i table h)
