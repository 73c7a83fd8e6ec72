-- Which representation begins with which byte, and the field of an index.
use Rattle.std.proofs.Common.{◌≡◌, ◌≤◌, ◌<◌, ◌++◌, ◌+◌, ◌-◌, ℕ, Bool, true, false, List, [], ◌∷◌, length, take, drop, Option, Some, None, if◌then◌else◌, refl, ap, sym, ◌∙◌, arith}
use Rattle.std.specs.Prelude.{nat_lt, slice_get}
use Rattle.std.specs.Option.{option_and_then, option_map}
use Rattle.std.proofs.lemmas.Bool.Decides.{nat_tests}
use Rattle.std.proofs.lemmas.List.{take_rest}
use Rattle.std.proofs.Math.Seq.{drop-append_seam, take-append_seam}
use Rattle.hpack_codec.specs.PrefixInteger.{integer_in}
use Rattle.hpack_codec.specs.StaticTable.{HeaderField}
use Rattle.hpack_codec.specs.DynamicTable.{HeaderTable, field_at, field_size, fields_size}
use Rattle.hpack_codec.specs.FieldRepresentation.{Representation, representation_in, representation_of, indexed, literal_added, literal_alone, size_update}
use Rattle.hpack_codec.specs.LiteralReads.{field_split}
use Rattle.hpack_codec.specs.TablePuts.{IsFieldPut}
use Rattle.hpack_codec.proofs.FieldLemmas.{size_append}

module _ (t : HeaderTable) (late : Bool) where
  pub none_in : (bytes : List ℕ) → slice_get bytes 0 ≡ None → representation_in t late bytes ≡ None
  unfolding representation_in
  none_in [] e = refl
  none_in (b ∷ bs) e = absurd (cc)

  begins_with : (bytes : List ℕ) (b : ℕ) → slice_get bytes 0 ≡ Some b → representation_in t late bytes ≡ representation_of t late b bytes
  unfolding representation_in
  begins_with [] b e = absurd (cc)
  begins_with (x ∷ xs) b e = let same : x ≡ b = cc in ap (λ (k : ℕ). representation_of t late k (x ∷ xs)) same

  by_byte : (b : ℕ) (bytes : List ℕ) (low middle high : Bool) → nat_lt b 32 ≡ low → nat_lt b 64 ≡ middle → nat_lt b 128 ≡ high
      → representation_of t late b bytes ≡ (if low then literal_alone t bytes else (if middle then size_update t late bytes else (if high then literal_added t bytes else indexed t bytes)))
  by_byte b bytes low middle high p q r =
      ap (λ (x : Bool). if x then literal_alone t bytes else (if nat_lt b 64 then size_update t late bytes else (if nat_lt b 128 then literal_added t bytes else indexed t bytes))) p
      ∙ (ap (λ (x : Bool). if low then literal_alone t bytes else (if x then size_update t late bytes else (if nat_lt b 128 then literal_added t bytes else indexed t bytes))) q
      ∙ ap (λ (x : Bool). if low then literal_alone t bytes else (if middle then size_update t late bytes else (if x then literal_added t bytes else indexed t bytes))) r)

  pub alone_in : (bytes : List ℕ) (b : ℕ) → slice_get bytes 0 ≡ Some b → b < 32 → representation_in t late bytes ≡ literal_alone t bytes
  alone_in bytes b e h = begins_with bytes b e ∙ by_byte b bytes true (nat_lt b 64) (nat_lt b 128) (grind (arith, nat_tests)) refl refl

  pub size_in : (bytes : List ℕ) (b : ℕ) → slice_get bytes 0 ≡ Some b → 32 ≤ b → b < 64 → representation_in t late bytes ≡ size_update t late bytes
  size_in bytes b e l h = begins_with bytes b e ∙ by_byte b bytes false true (nat_lt b 128) (grind (arith, nat_tests)) (grind (arith, nat_tests)) refl

  pub added_in : (bytes : List ℕ) (b : ℕ) → slice_get bytes 0 ≡ Some b → 64 ≤ b → b < 128 → representation_in t late bytes ≡ literal_added t bytes
  added_in bytes b e l h = begins_with bytes b e ∙ by_byte b bytes false false true (grind (arith, nat_tests)) (grind (arith, nat_tests)) (grind (arith, nat_tests))

  pub indexed_in : (bytes : List ℕ) (b : ℕ) → slice_get bytes 0 ≡ Some b → 128 ≤ b → representation_in t late bytes ≡ indexed t bytes
  indexed_in bytes b e l = begins_with bytes b e ∙ by_byte b bytes false false false (grind (arith, nat_tests)) (grind (arith, nat_tests)) (grind (arith, nat_tests))

-- a field whose name and value were appended to nothing
split_put : (f : HeaderField) (out : List ℕ) (m : ℕ) → out ≡ [] ++ (f.0 ++ f.1) → m ≡ length f.0 → field_split m out ≡ f
split_put f out m e h =
    ap (field_split m) e
    ∙ (ap (λ (k : ℕ). field_split k (f.0 ++ f.1)) h
    ∙ (ap (λ (x : List ℕ). (x, drop (length f.0) (f.0 ++ f.1))) (take-append_seam f.0 f.1)
    ∙ ap (λ (y : List ℕ). (f.0, y)) (drop-append_seam f.0 f.1)))

-- an indexed field, of the field that an index has
abbrev pub indexed_field : HeaderTable → ℕ → Option HeaderField → Option Representation
indexed_field t len field = option_map (λ (f : HeaderField). record { field = Some f; table = t; len = len }) field

field_put : (t : HeaderTable) (field : Option HeaderField) (len m : ℕ) (out : List ℕ) → IsFieldPut field [] out (Some m) → indexed_field t len field ≡ Some (record { field = Some (field_split m out); table = t; len = len })
field_put t None len m out p = absurd p
field_put t (Some f) len m out p = ap (λ (g : HeaderField). Some (record { field = Some g; table = t; len = len })) (sym (split_put f out m p.0 p.1))

-- the field of an index that was appended is what the representation spells
pub indexed_put : (t : HeaderTable) (bytes : List ℕ) (i len m : ℕ) (out : List ℕ) → integer_in 127 bytes ≡ Some (i, len) → IsFieldPut (field_at t i) [] out (Some m)
    → indexed t bytes ≡ Some (record { field = Some (field_split m out); table = t; len = len })
indexed_put t bytes i len m out e p =
    ap (option_and_then (λ (n : ℕ × ℕ). indexed_field t n.1 (field_at t n.0))) e ∙ field_put t (field_at t i) len m out p

-- a field that became the last is no longer than the list may be
pub split_fits : (bytes : List ℕ) (m : ℕ) (old new : List HeaderField) → m ≤ length bytes → new ≡ old ++ field_split m bytes ∷ [] → fields_size new ≤ 65536
    → length (take m bytes) + length (take (length bytes - m) (drop m bytes)) ≤ 65536
split_fits bytes m old new h e l =
    let size : fields_size new ≡ fields_size old + (field_size (field_split m bytes) + 0) = ap fields_size e ∙ size_append old (field_split m bytes ∷ []) in
    let rest : length (take (length bytes - m) (drop m bytes)) ≡ length (drop m bytes) = ap length (take_rest bytes m) in
    omega (arith, rest)
