-- A head that takes one more field: `Head::field`.
use Rattle.std.proofs.Common.{◌≡◌, ◌≤◌, ℕ, ◌+◌, ◌-◌, Bool, All, List, [], ◌∷◌, ◌++◌, length, take, drop, refl, sym, ap, ◌∙◌, arith, append_assoc, append-nil, length-append, length-drop}
use Rattle.std.proofs.Math.Seq.{take-append_seam, drop-append_seam}
use Rattle.std.proofs.lemmas.List.{take-append-le, drop-append-le, map-append}
use Rattle.std.proofs.lemmas.List.Elements.{All-head, All-tail}
use Rattle.gate_world.specs.MessageHead.{MessageHead}
use Rattle.gate_world.specs.KeptHead.{bytes_between, field_at, fields_at, LiesWithin, with_fields}
use Rattle.gate_world.specs.declared.body_length.BodyLength.{BodyLength}
use Rattle.gate_world.specs.declared.head.FieldSpan.{FieldSpan}

-- what lies within bytes stays as more come behind them
between_stays : (bytes more : List ℕ) (s e : ℕ) → s ≤ e → e ≤ length bytes
    → bytes_between (bytes ++ more) s e ≡ bytes_between bytes s e
between_stays bytes more s e a b =
    ap (take (e - s)) (drop-append-le s bytes more (omega (arith, a, b)))
    ∙ take-append-le (e - s) (drop s bytes) more (omega (arith, a, b, length-drop s bytes))

-- a part of bytes
between_at : (before part behind : List ℕ)
    → bytes_between (before ++ (part ++ behind)) (length before) (length before + length part) ≡ part
between_at before part behind =
    let size : (length before + length part) - length before ≡ length part = omega arith in
    ap (take ((length before + length part) - length before)) (drop-append_seam before (part ++ behind))
    ∙ ap (λ (n : ℕ). take n (part ++ behind)) size ∙ take-append_seam part behind

-- fields stay as more bytes come
fields_stay : (spans : List FieldSpan) (bytes more : List ℕ) → All (LiesWithin (length bytes)) spans
    → fields_at (bytes ++ more) spans ≡ fields_at bytes spans
fields_stay [] bytes more all = refl
fields_stay (s ∷ spans) bytes more all =
    let h = All-head (LiesWithin (length bytes)) s spans all in
    rw (
      between_stays bytes more s.start s.middle h.0 (omega (arith, h.1, h.2)),
      between_stays bytes more s.middle s.end h.1 h.2,
      fields_stay spans bytes more (All-tail (LiesWithin (length bytes)) s spans all),
    ) refl

-- what a head says, by its parts
abbrev pub head_by : List ℕ → ℕ → ℕ → List FieldSpan → BodyLength → Bool → Bool → MessageHead
head_by bytes method_end target_end spans body close expect = record {
  method = take method_end bytes;
  target = bytes_between bytes method_end target_end;
  fields = fields_at bytes spans;
  body = body;
  close = close;
  expect = expect;
}

-- one more field
pub field_added : (bytes name value new : List ℕ) (m t : ℕ) (spans : List FieldSpan) (span : FieldSpan)
    (body : BodyLength) (close expect : Bool) → new ≡ (bytes ++ name) ++ value → m ≤ t → t ≤ length bytes
    → All (LiesWithin (length bytes)) spans → span.start ≡ length bytes → span.middle ≡ length bytes + length name
    → span.end ≡ length bytes + length name + length value
    → head_by new m t (spans ++ span ∷ []) body close expect
    ≡ with_fields (head_by bytes m t spans body close expect) (fields_at bytes spans ++ (name, value) ∷ [])
field_added bytes name value new m t spans span body close expect e a b all first second third =
    let more = name ++ value in
    let is : new ≡ bytes ++ more = e ∙ append_assoc bytes name value in
    let method : take m new ≡ take m bytes =
    ap (take m) is ∙ take-append-le m bytes more (omega (arith, a, b)) in
    let target : bytes_between new m t ≡ bytes_between bytes m t =
    ap (λ (w : List ℕ). bytes_between w m t) is ∙ between_stays bytes more m t a b in
    let last_name : bytes_between new span.start span.middle ≡ name =
    ap (λ (w : List ℕ). bytes_between w span.start span.middle) is
    ∙ ap (λ (n : ℕ). bytes_between (bytes ++ more) n span.middle) first
    ∙ ap (λ (n : ℕ). bytes_between (bytes ++ more) (length bytes) n) second ∙ between_at bytes name value in
    let last_value : bytes_between new span.middle span.end ≡ value =
    ap (λ (w : List ℕ). bytes_between w span.middle span.end)
    (e ∙ ap (λ (w : List ℕ). (bytes ++ name) ++ w) (sym (append-nil value)))
    ∙ ap (λ (n : ℕ). bytes_between ((bytes ++ name) ++ (value ++ [])) n span.end)
    (second ∙ sym (length-append bytes name))
    ∙ ap (λ (n : ℕ). bytes_between ((bytes ++ name) ++ (value ++ [])) (length (bytes ++ name)) n)
    (third ∙ ap (λ (n : ℕ). n + length value) (sym (length-append bytes name)))
    ∙ between_at (bytes ++ name) value [] in
    let fields : fields_at new (spans ++ span ∷ []) ≡ fields_at bytes spans ++ (name, value) ∷ [] =
    map-append (field_at new) spans (span ∷ [])
    ∙ ap (λ (fs : List (List ℕ × List ℕ)). fs ++ field_at new span ∷ [])
    (ap (λ (w : List ℕ). fields_at w spans) is ∙ fields_stay spans bytes more all)
    ∙ ap (λ (n : List ℕ). fields_at bytes spans ++ (n, bytes_between new span.middle span.end) ∷ []) last_name
    ∙ ap (λ (v : List ℕ). fields_at bytes spans ++ (name, v) ∷ []) last_value in
    rw (method, target, fields) refl
