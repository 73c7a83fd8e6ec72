-- Fields that are written are read back, whatever stands behind them and whatever the table is.
use Rattle.std.proofs.Common.{◌≡◌, ◌⊎◌, inl, inr, ◌==◌, ◌+◌, ◌<◌, ◌^◌, ◌++◌, ℕ, suc, Bool, true, false, List, [], ◌∷◌, length, get_or, drop, Option, Some, if◌then◌else◌, refl, ap, sym, subst, ◌∙◌, arith, append_assoc, append-nil, length-append}
use Rattle.std.specs.Prelude.{slice_get, ◌&&◌}
use Rattle.std.specs.Option.{option_and_then, option_map}
use Rattle.std.specs.Str.{bytes_eq}
use Rattle.std.proofs.lemmas.Bool.Decides.{nat_tests}
use Rattle.std.proofs.lemmas.Slice.Eq.{bytes_eq-Decides}
use Rattle.std.proofs.Math.Seq.{drop-append_seam}
use Rattle.hpack_codec.specs.PrefixInteger.{integer_bytes}
use Rattle.hpack_codec.specs.StringLiteral.{string_bytes_of, string_in}
use Rattle.hpack_codec.specs.StaticTable.{HeaderField, static_table}
use Rattle.hpack_codec.specs.DynamicTable.{HeaderTable, field_at}
use Rattle.hpack_codec.specs.FieldRepresentation.{literal_at, literal_in, name_in, representation_in}
use Rattle.hpack_codec.specs.EncodedBlock.{encoded_field, encoded_literal, field_index_from, name_index_from, name_string, static_field_index, static_name_index}
use Rattle.hpack_codec.proofs.IndexLemmas.{nothing}
use Rattle.hpack_codec.proofs.IndexRows.{in_first}
use Rattle.hpack_codec.proofs.RepresentationLemmas.{alone_in, indexed_in}
use Rattle.hpack_codec.proofs.WrittenIntegers.{BeginsBy, integer_begins, integer_read, prefix_four, prefix_indexed, string_read}

-- an index is 0, or that of an entry
pub record IsAt (P : HeaderField → Type 0) (first index : ℕ) (table : List HeaderField) : Type 0 where
  pub row : ℕ
  pub is : index ≡ first + row
  pub within : row < length table
  pub holds : P (get_or table row nothing)

later : (P : HeaderField → Type 0) (first index : ℕ) (e : HeaderField) (es : List HeaderField) → (index ≡ 0) ⊎ IsAt P (first + 1) index es → (index ≡ 0) ⊎ IsAt P first index (e ∷ es)
later P first index e es (inl z) = inl z
later P first index e es (inr a) = inr (record { row = suc a.row; is = omega (arith, a.is); within = omega (arith, a.within); holds = a.holds })

both_same : (e f : HeaderField) (a b : Bool) → bytes_eq e.0 f.0 ≡ a → bytes_eq e.1 f.1 ≡ b → (a && b) ≡ true → e ≡ f
both_same e f true true p q h = ap (λ (x : List ℕ). (x, e.1)) ((bytes_eq-Decides e.0 f.0).0 p) ∙ ap (λ (y : List ℕ). (f.0, y)) ((bytes_eq-Decides e.1 f.1).0 q)
both_same e f true false p q h = absurd (cc)
both_same e f false b p q h = absurd (cc)

field_by : (first : ℕ) (f e : HeaderField) (es : List HeaderField) (test : Bool) → (bytes_eq e.0 f.0 && bytes_eq e.1 f.1) ≡ test
    → (field_index_from (first + 1) es f ≡ 0) ⊎ IsAt (λ g. g ≡ f) (first + 1) (field_index_from (first + 1) es f) es
    → ((if test then first else field_index_from (first + 1) es f) ≡ 0) ⊎ IsAt (λ g. g ≡ f) first (if test then first else field_index_from (first + 1) es f) (e ∷ es)
field_by first f e es true h ih = inr (record { row = 0; is = omega arith; within = omega arith; holds = both_same e f (bytes_eq e.0 f.0) (bytes_eq e.1 f.1) refl refl h })
field_by first f e es false h ih = later (λ g. g ≡ f) first (field_index_from (first + 1) es f) e es ih

field_index : (first : ℕ) (f : HeaderField) (table : List HeaderField) → (field_index_from first table f ≡ 0) ⊎ IsAt (λ g. g ≡ f) first (field_index_from first table f) table
field_index first f [] = inl refl
field_index first f (e ∷ es) = field_by first f e es (bytes_eq e.0 f.0 && bytes_eq e.1 f.1) refl (field_index (first + 1) f es)

name_by : (first : ℕ) (name : List ℕ) (e : HeaderField) (es : List HeaderField) (test : Bool) → bytes_eq e.0 name ≡ test
    → (name_index_from (first + 1) es name ≡ 0) ⊎ IsAt (λ g. g.0 ≡ name) (first + 1) (name_index_from (first + 1) es name) es
    → ((if test then first else name_index_from (first + 1) es name) ≡ 0) ⊎ IsAt (λ g. g.0 ≡ name) first (if test then first else name_index_from (first + 1) es name) (e ∷ es)
name_by first name e es true h ih = inr (record { row = 0; is = omega arith; within = omega arith; holds = (bytes_eq-Decides e.0 name).0 h })
name_by first name e es false h ih = later (λ g. g.0 ≡ name) first (name_index_from (first + 1) es name) e es ih

name_index : (first : ℕ) (name : List ℕ) (table : List HeaderField) → (name_index_from first table name ≡ 0) ⊎ IsAt (λ g. g.0 ≡ name) first (name_index_from first table name) table
name_index first name [] = inl refl
name_index first name (e ∷ es) = name_by first name e es (bytes_eq e.0 name) refl (name_index (first + 1) name es)

static_field : (f : HeaderField) → (static_field_index f ≡ 0) ⊎ IsAt (λ g. g ≡ f) 1 (static_field_index f) static_table
unfolding static_field_index
static_field f = field_index 1 f static_table

static_name : (name : List ℕ) → (static_name_index name ≡ 0) ⊎ IsAt (λ g. g.0 ≡ name) 1 (static_name_index name) static_table
unfolding static_name_index
static_name name = name_index 1 name static_table

-- the first byte
first_byte : (least most : ℕ) (bytes more : List ℕ) (b : BeginsBy least most bytes) → slice_get (bytes ++ more) 0 ≡ Some b.first
first_byte least most bytes more b = ap (λ (xs : List ℕ). slice_get (xs ++ more) 0) b.is

module _ (t : HeaderTable) (late : Bool) (f : HeaderField) (more : List ℕ) where
  -- the bytes are a representation of the field that leaves the table
  abbrev pub Spells : List ℕ → Type 0
  Spells bytes = representation_in t late (bytes ++ more) ≡ Some (record { field = Some f; table = t; len = length bytes })

  -- an indexed field
  indexed_spells : (i : ℕ) → IsAt (λ g. g ≡ f) 1 i static_table → Spells (integer_bytes 128 127 i)
  indexed_spells i a =
      let bytes = integer_bytes 128 127 i in
      let head = integer_begins 128 127 i in
      let small : i < 2 ^ 32 = omega (arith, a.is, a.within) in
      let there : field_at t i ≡ Some f = in_first static_table t.fields i a.row (omega (arith, a.is)) (omega (arith, a.is)) a.within ∙ ap (λ (g : HeaderField). Some g) a.holds in
      indexed_in t late (bytes ++ more) head.first (first_byte 128 (128 + 127) bytes more head) head.least_is
      ∙ (ap (option_and_then (λ (n : ℕ × ℕ). option_map (λ (g : HeaderField). record { field = Some g; table = t; len = n.1 }) (field_at t n.0))) (integer_read 128 127 prefix_indexed i more small)
      ∙ ap (λ (o : Option HeaderField). option_map (λ (g : HeaderField). record { field = Some g; table = t; len = length bytes }) o) there)

  -- a literal of which the name is known
  abbrev value_after : ℕ → List ℕ → Option (List ℕ × ℕ) → Option (HeaderField × ℕ)
  value_after len rest name = option_and_then (λ (n : List ℕ × ℕ). option_map (λ (value : List ℕ × ℕ). ((n.0, value.0), len + n.1 + value.1)) (string_in (drop n.1 rest))) name

  value_spells : (len taken : ℕ) (rest : List ℕ) → drop taken rest ≡ string_bytes_of f.1 ++ more → length f.1 < 2 ^ 32
      → value_after len rest (Some (f.0, taken)) ≡ Some (f, len + taken + length (string_bytes_of f.1))
  value_spells len taken rest e l =
      ap (λ (xs : List ℕ). option_map (λ (value : List ℕ × ℕ). ((f.0, value.0), len + taken + value.1)) (string_in xs)) e
      ∙ ap (option_map (λ (value : List ℕ × ℕ). ((f.0, value.0), len + taken + value.1))) (string_read f.1 more l)

  literal_by : (i : ℕ) (bytes rest : List ℕ) (taken : ℕ) → i < 2 ^ 32 → bytes ++ more ≡ integer_bytes 0 15 i ++ rest → name_in t i rest ≡ Some (f.0, taken) → drop taken rest ≡ string_bytes_of f.1 ++ more
      → length f.1 < 2 ^ 32 → length (integer_bytes 0 15 i) + taken + length (string_bytes_of f.1) ≡ length bytes → Spells bytes
  literal_by i bytes rest taken small whole name behind l len =
      let head = integer_begins 0 15 i in
      let index = integer_bytes 0 15 i in
      let at : literal_at t 15 (index ++ rest) ≡ Some (f, length bytes) =
      ap (option_and_then (λ (n : ℕ × ℕ). literal_in t n.0 n.1 (drop n.1 (index ++ rest)))) (integer_read 0 15 prefix_four i rest small)
      ∙ (ap (literal_in t i (length index)) (drop-append_seam index rest)
      ∙ (ap (value_after (length index) rest) name
      ∙ (value_spells (length index) taken rest behind l
      ∙ ap (λ (n : ℕ). Some (f, n)) len))) in
      ap (representation_in t late) whole
      ∙ (alone_in t late (index ++ rest) head.first (first_byte 0 (0 + 15) index rest head) (omega (arith, head.most_is))
      ∙ ap (option_map (λ (x : HeaderField × ℕ). record { field = Some x.0; table = t; len = x.1 })) at)

  -- a literal whose name is a string
  string_name : length f.0 < 2 ^ 32 → length f.1 < 2 ^ 32 → Spells (encoded_literal 0 f)
  string_name l m =
      let index = integer_bytes 0 15 0 in
      let name = string_bytes_of f.0 in
      let value = string_bytes_of f.1 in
      let rest = name ++ (value ++ more) in
      let whole : ((index ++ name) ++ value) ++ more ≡ index ++ rest = append_assoc (index ++ name) value more ∙ append_assoc index name (value ++ more) in
      let len : length index + length name + length value ≡ length ((index ++ name) ++ value) = sym (length-append (index ++ name) value ∙ ap (λ (n : ℕ). n + length value) (length-append index name)) in
      literal_by 0 (encoded_literal 0 f) rest (length name) (omega arith) whole (string_read f.0 (value ++ more) l) (drop-append_seam name (value ++ more)) m len

  no_string : (i : ℕ) (test : Bool) → (i == 0) ≡ test → 0 < i → (if test then string_bytes_of f.0 else []) ≡ []
  no_string i true e h = absurd (grind (arith, nat_tests))
  no_string i false e h = refl

  -- a literal whose name is that of an index
  index_name : (i : ℕ) (a : IsAt (λ g. g.0 ≡ f.0) 1 i static_table) → length f.1 < 2 ^ 32 → i ≡ suc a.row → Spells (encoded_literal (suc a.row) f)
  index_name i a m e =
      let j = suc a.row in
      let index = integer_bytes 0 15 j in
      let value = string_bytes_of f.1 in
      let rest = value ++ more in
      let none : name_string j f.0 ≡ [] = no_string j (j == 0) refl (omega arith) in
      let field : field_at t j ≡ Some (get_or static_table a.row ([], [])) = in_first static_table t.fields j a.row (omega arith) (omega arith) a.within in
      let name : name_in t j rest ≡ Some (f.0, 0) = ap (option_map (λ (g : HeaderField). (g.0, 0))) field ∙ ap (λ (x : List ℕ). Some (x, 0)) a.holds in
      let bytes : encoded_literal j f ≡ index ++ value = ap (λ (xs : List ℕ). (index ++ xs) ++ value) none ∙ ap (λ (xs : List ℕ). xs ++ value) (append-nil index) in
      let whole : encoded_literal j f ++ more ≡ index ++ rest = ap (λ (xs : List ℕ). xs ++ more) bytes ∙ append_assoc index value more in
      let sum : length (encoded_literal j f) ≡ length index + length value = ap length bytes ∙ length-append index value in
      let len : length index + 0 + length value ≡ length (encoded_literal j f) = omega arith in
      literal_by j (encoded_literal j f) rest 0 (omega (arith, a.within)) whole name refl m len

  literal_spells : (i : ℕ) → (i ≡ 0) ⊎ IsAt (λ g. g.0 ≡ f.0) 1 i static_table → length f.0 < 2 ^ 32 → length f.1 < 2 ^ 32 → Spells (encoded_literal i f)
  literal_spells i (inl z) l m = subst (λ (k : ℕ). Spells (encoded_literal k f)) (sym z) (string_name l m)
  literal_spells i (inr a) l m =
      let e : i ≡ suc a.row = omega (arith, a.is) in
      subst (λ (k : ℕ). Spells (encoded_literal k f)) (sym e) (index_name i a m e)

  with_index : (i : ℕ) (test : Bool) → (i == 0) ≡ test → (i ≡ 0) ⊎ IsAt (λ g. g ≡ f) 1 i static_table → length f.0 < 2 ^ 32 → length f.1 < 2 ^ 32
      → Spells (if test then encoded_literal (static_name_index f.0) f else integer_bytes 128 127 i)
  with_index i true e a l m = literal_spells (static_name_index f.0) (static_name f.0) l m
  with_index i false e (inl z) l m = absurd (grind (arith, nat_tests))
  with_index i false e (inr a) l m = indexed_spells i a

  pub field_spells : length f.0 < 2 ^ 32 → length f.1 < 2 ^ 32 → Spells (encoded_field f)
  field_spells l m = with_index (static_field_index f) (static_field_index f == 0) refl (static_field f) l m
