-- Fields in the bytes that are kept of them.
use Rattle.std.proofs.Common.{◌≡◌, ◌+◌, ◌-◌, ◌≤◌, ◌++◌, ℕ, suc, List, [], ◌∷◌, length, take, drop, refl, ap, ◌∙◌, arith, append_assoc, length-append, length-drop}
use Rattle.std.specs.List.{All}
use Rattle.std.proofs.lemmas.List.{drop-append-le, take-append-le, take_rest, length-take}
use Rattle.std.proofs.lemmas.List.Elements.{All-push, All-weaker}
use Rattle.std.proofs.Math.Seq.{take-length, drop-append_seam, take-append_seam}
use Rattle.hpack_codec.specs.StaticTable.{HeaderField}
use Rattle.hpack_codec.specs.DynamicTable.{fields_size, field_size}
use Rattle.hpack_codec.specs.LiteralReads.{field_split}
use Rattle.hpack_codec.specs.FieldSpans.{field_in, fields_in, IsWithin, AreSpans}
use Rattle.hpack_codec.specs.declared.fields.FieldSpan.{FieldSpan}

-- fields behind others add their sizes
pub size_append : (fs gs : List HeaderField) → fields_size (fs ++ gs) ≡ fields_size fs + fields_size gs
size_append [] gs = omega arith
size_append (f ∷ fs) gs = rw (size_append fs gs) (omega arith)

range_kept : (bytes more : List ℕ) (a b : ℕ) → a ≤ b → b ≤ length bytes → take (b - a) (drop a (bytes ++ more)) ≡ take (b - a) (drop a bytes)
range_kept bytes more a b h l =
    let short : b - a ≤ length (drop a bytes) = rw length-drop (omega arith) in
    ap (take (b - a)) (drop-append-le a bytes more (omega arith)) ∙ take-append-le (b - a) (drop a bytes) more short

field_kept : (bytes more : List ℕ) (s : FieldSpan) → IsWithin (length bytes) s → field_in (bytes ++ more) s ≡ field_in bytes s
field_kept bytes more s w =
    let l : s.middle ≤ length bytes = omega (arith, w.end, w.within) in
    ap (λ (x : List ℕ). (x, take (s.end - s.middle) (drop s.middle (bytes ++ more)))) (range_kept bytes more s.start s.middle w.middle l)
    ∙ ap (λ (y : List ℕ). (take (s.middle - s.start) (drop s.start bytes), y)) (range_kept bytes more s.middle s.end w.end w.within)

-- more bytes leave the fields as they are
fields_kept : (bytes more : List ℕ) (spans : List FieldSpan) → All (IsWithin (length bytes)) spans → fields_in (bytes ++ more) spans ≡ fields_in bytes spans
fields_kept bytes more [] w = refl
fields_kept bytes more (s ∷ ss) w =
    ap (λ (f : HeaderField). f ∷ fields_in (bytes ++ more) ss) (field_kept bytes more s (w 0 s (omega arith)))
    ∙ ap (λ (fs : List HeaderField). field_in bytes s ∷ fs) (fields_kept bytes more ss (λ k d l. w (suc k) d (omega arith)))

-- the field that was appended
new_field : (bytes name value : List ℕ) (s : FieldSpan) → s.start ≡ length bytes → s.middle ≡ s.start + length name → s.end ≡ s.middle + length value
    → field_in ((bytes ++ name) ++ value) s ≡ (name, value)
new_field bytes name value s a b c =
    let e1 : drop s.start ((bytes ++ name) ++ value) ≡ name ++ value = rw (a, append_assoc bytes name value) (drop-append_seam bytes (name ++ value)) in
    let n1 : s.middle - s.start ≡ length name = omega arith in
    let p1 : take (s.middle - s.start) (drop s.start ((bytes ++ name) ++ value)) ≡ name = rw (n1, e1) (take-append_seam name value) in
    let m : s.middle ≡ length (bytes ++ name) = rw length-append (omega arith) in
    let e2 : drop s.middle ((bytes ++ name) ++ value) ≡ value = rw m (drop-append_seam (bytes ++ name) value) in
    let n2 : s.end - s.middle ≡ length value = omega arith in
    let p2 : take (s.end - s.middle) (drop s.middle ((bytes ++ name) ++ value)) ≡ value = rw (n2, e2) (take-length value) in
    ap (λ (x : List ℕ). (x, take (s.end - s.middle) (drop s.middle ((bytes ++ name) ++ value)))) p1 ∙ ap (λ (y : List ℕ). (name, y)) p2

map_push : (bytes : List ℕ) (spans : List FieldSpan) (s : FieldSpan) → fields_in bytes (spans ++ s ∷ []) ≡ fields_in bytes spans ++ field_in bytes s ∷ []
map_push bytes [] s = refl
map_push bytes (t ∷ ts) s = ap (λ (fs : List HeaderField). field_in bytes t ∷ fs) (map_push bytes ts s)

-- bytes and a span that are appended are one field more
pub pushed : (bytes name value new : List ℕ) (spans : List FieldSpan) (s : FieldSpan) → AreSpans bytes spans → new ≡ (bytes ++ name) ++ value
    → s.start ≡ length bytes → s.middle ≡ s.start + length name → s.end ≡ s.middle + length value
    → fields_in new (spans ++ s ∷ []) ≡ fields_in bytes spans ++ (name, value) ∷ []
pushed bytes name value new spans s are e a b c =
    let both = (bytes ++ name) ++ value in
    let assoc : both ≡ bytes ++ (name ++ value) = append_assoc bytes name value in
    let old : fields_in both spans ≡ fields_in bytes spans = ap (λ (xs : List ℕ). fields_in xs spans) assoc ∙ fields_kept bytes (name ++ value) spans are.within in
    let step = map_push both spans s in
    ap (λ (xs : List ℕ). fields_in xs (spans ++ s ∷ [])) e
    ∙ (step ∙ (ap (λ (fs : List HeaderField). fs ++ field_in both s ∷ []) old ∙ ap (λ (f : HeaderField). fields_in bytes spans ++ f ∷ []) (new_field bytes name value s a b c)))

within_more : (n m : ℕ) (s : FieldSpan) → n ≤ m → IsWithin n s → IsWithin m s
within_more n m s h w = record { middle = w.middle; end = w.end; within = omega (arith, w.within) }

-- bytes and a span that are appended keep the spans within the bytes
pub spans_pushed : (bytes name value new : List ℕ) (spans : List FieldSpan) (s : FieldSpan) → AreSpans bytes spans → new ≡ (bytes ++ name) ++ value
    → s.start ≡ length bytes → s.middle ≡ s.start + length name → s.end ≡ s.middle + length value → AreSpans new (spans ++ s ∷ [])
spans_pushed bytes name value new spans s are e a b c =
    let len : length new ≡ (length bytes + length name) + length value = ap length e ∙ rw (length-append, length-append) refl in
    let last : IsWithin (length new) s = record { middle = omega arith; end = omega arith; within = omega arith } in
    record {
      within = All-push (IsWithin (length new)) spans s (All-weaker (IsWithin (length bytes)) (IsWithin (length new)) (λ t. within_more (length bytes) (length new) t (omega arith)) spans are.within) last;
      size = rw (pushed bytes name value new spans s are e a b c, size_append, length-append) (omega (arith, are.size, len));
    }

-- a field whose name and value lie in one run of bytes has their size
pub split_size : (bytes : List ℕ) (m : ℕ) → m ≤ length bytes → field_size (field_split m bytes) ≡ length bytes + 32
split_size bytes m h = rw (length-take, length-drop) (omega arith)

-- a field that fits the room is appended, and all are within the limit
pub split_pushed : (bytes : List ℕ) (m room : ℕ) (old new : List HeaderField) → m ≤ length bytes → length bytes + 32 ≤ room → room + fields_size old ≡ 65536
    → new ≡ old ++ (take m bytes, take (length bytes - m) (drop m bytes)) ∷ [] → (new ≡ old ++ field_split m bytes ∷ []) × (fields_size new ≤ 65536)
split_pushed bytes m room old new h l r e =
    let whole : new ≡ old ++ field_split m bytes ∷ [] = e ∙ ap (λ (v : List ℕ). old ++ (take m bytes, v) ∷ []) (take_rest bytes m) in
    let size : fields_size new ≡ fields_size old + (field_size (field_split m bytes) + 0) = ap fields_size whole ∙ size_append old (field_split m bytes ∷ []) in
    (whole, omega (arith, split_size bytes m h))
