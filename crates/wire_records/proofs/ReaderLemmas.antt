-- Where a record lies in the bytes of a reader, and what is told of it.
use Rattle.std.proofs.Common.{◌≡◌, ◌+◌, ◌-◌, ◌≤◌, ◌==◌, ℕ, zero, suc, Bool, true, false, cond, List, [], ◌∷◌, length, take, drop, Option, Some, None, Result, Ok, Err, nat_lt, arith, refl, ap, sym, ◌∙◌, subst, length-drop}
use Rattle.std.specs.Int.{w32, w64, from_le_bytes}
use Rattle.std.proofs.lemmas.List.{drop-drop}
use Rattle.wire_records.specs.Outcome.{◌>>=◌}
use Rattle.wire_records.specs.JoinedRecords.{bind_ok, guard_ok, front_ok, rec_is, whole_ok, whole_stable, tag_stable}
use Rattle.wire_records.specs.RecordFaults.{records_fault}
use Rattle.wire_records.specs.RecordReader.{Reading, IsNext, TellsFirst, TellsRecord, StandsAs, bytes_left, placed}
use Rattle.wire_records.specs.RecordSteps.{records_begin, records_stop, fault_next, fault_stop}
use Rattle.wire_records.specs.Varint.{number_in}
use Rattle.wire_records.specs.WireRecord.{Tag, tag_in, Payload, number, eight, sized, group, four, Piece, sized_in, payload_in, Record, Stop, at_front, onward, group_rest, group_in, record_with, record_in, records}
use Rattle.wire_records.specs.declared.fault.WireFault.{WireFault}
use Rattle.wire_records.specs.declared.fault.WireKind.{WireKind}
use Rattle.wire_records.specs.declared.fault.WireKind.TheVariants.{Short, BadGroup}
use Rattle.wire_records.specs.declared.records.Record as found

-- ---- payloads

-- what stands behind some bytes stands so many bytes further on in the whole
stands_further : (k n len from to : ℕ) (p : Payload) (bytes rest : List ℕ) → rest ≡ drop len bytes
    → StandsAs k n p from to rest → StandsAs k n p (len + from) (len + to) bytes
stands_further k n len from to p bytes rest is h = by p h
  where
    at : drop from rest ≡ drop (len + from) bytes
    at = ap (drop from) is ∙ drop-drop from len bytes

    size : len + to - (len + from) ≡ to - from
    size = omega arith

    by : (p : Payload) → StandsAs k n p from to rest → StandsAs k n p (len + from) (len + to) bytes
    by (number x) h = rw (← at, size) h
    by (eight x) h = (omega (arith, h.0), rw (← at) h.1)
    by (sized bs) h = rw (← at, size) h
    by group h = rw (← at, size) h
    by (four x) h = (omega (arith, h.0), rw (← at) h.1)

-- a payload stands where it is read, and begins before it ends
abbrev StandsPiece : ℕ → ℕ → List ℕ → Piece → Type 0
StandsPiece k n rest p = (p.from ≤ p.to) × StandsAs k n p.payload p.from p.to rest

piece_is : (x y : Piece) → ◌≡◌ {A = Result Piece WireKind} (Ok x) (Ok y) → x ≡ y
piece_is x y e = cc

varint_stands : (k n : ℕ) (rest : List ℕ) (p : Piece)
    → (number_in rest >>= λ m. Ok (record { payload = number m.0; from = 0; to = m.1 })) ≡ Ok p → StandsPiece k n rest p
varint_stands k n rest p h =
    let f : ℕ × ℕ → Result Piece WireKind = λ m. Ok (record { payload = number m.0; from = 0; to = m.1 }) in
    let a = bind_ok (number_in rest) f p h in
    let size : a.0.1 - 0 ≡ a.0.1 = omega arith in
    subst (StandsPiece k n rest) (piece_is (record { payload = number a.0.0; from = 0; to = a.0.1 }) p a.2)
    (omega arith, a.1 ∙ ap (λ (x : ℕ). Ok (a.0.0, x)) (sym size))

sized_stands : (k n : ℕ) (rest : List ℕ) (p : Piece)
    → (number_in rest >>= λ m. sized_in m.0 m.1 (drop m.1 rest)) ≡ Ok p → StandsPiece k n rest p
sized_stands k n rest p h =
    let f : ℕ × ℕ → Result Piece WireKind = λ m. sized_in m.0 m.1 (drop m.1 rest) in
    let a = bind_ok (number_in rest) f p h in
    let behind = drop a.0.1 rest in
    let g = guard_ok (nat_lt (length behind) a.0.0) Short
    (record { payload = sized (take a.0.0 behind); from = a.0.1; to = a.0.1 + a.0.0 }) p a.2 in
    let size : a.0.1 + a.0.0 - a.0.1 ≡ a.0.0 = omega arith in
    subst (StandsPiece k n rest) g.1 (omega arith, ap (λ (x : ℕ). take x behind) (sym size))

eight_stands : (k n : ℕ) (rest : List ℕ) (p : Piece)
    → cond (nat_lt (length rest) 8) (Err Short)
    (Ok (record { payload = eight (from_le_bytes w64 (take 8 rest)); from = 0; to = 8 })) ≡ Ok p
    → StandsPiece k n rest p
eight_stands k n rest p h =
    let g = guard_ok (nat_lt (length rest) 8) Short
    (record { payload = eight (from_le_bytes w64 (take 8 rest)); from = 0; to = 8 }) p h in
    subst (StandsPiece k n rest) g.1 (omega arith, (refl, refl))

four_stands : (k n : ℕ) (rest : List ℕ) (p : Piece)
    → cond (nat_lt (length rest) 4) (Err Short)
    (Ok (record { payload = four (from_le_bytes w32 (take 4 rest)); from = 0; to = 4 })) ≡ Ok p → StandsPiece k n rest p
four_stands k n rest p h =
    let g = guard_ok (nat_lt (length rest) 4) Short
    (record { payload = four (from_le_bytes w32 (take 4 rest)); from = 0; to = 4 }) p h in
    subst (StandsPiece k n rest) g.1 (omega arith, (refl, refl))

by_wire : {A B C D : Result Piece WireKind} (P : Piece → Type 0) (x y z : Bool) (p : Piece) → (A ≡ Ok p → P p)
    → (B ≡ Ok p → P p) → (C ≡ Ok p → P p) → (D ≡ Ok p → P p)
    → cond x A (cond y B (cond z C D)) ≡ Ok p → P p
by_wire P true y z p a b c d h = a h
by_wire P false true z p a b c d h = b h
by_wire P false false true p a b c d h = c h
by_wire P false false false p a b c d h = d h

piece_stands : (k n wire : ℕ) (rest : List ℕ) (p : Piece) → payload_in wire rest ≡ Ok p → StandsPiece k n rest p
unfolding payload_in
piece_stands k n wire rest p h =
    by_wire (StandsPiece k n rest) (wire == 0) (wire == 1) (wire == 2) p
    (varint_stands k n rest p)
    (eight_stands k n rest p)
    (sized_stands k n rest p)
    (four_stands k n rest p)
    h

-- ---- records

onward_ok : (a : ℕ) (x : Result ℕ Stop) (len : ℕ) → onward a x ≡ Ok len → (m : ℕ) × (x ≡ Ok m) × (a + m ≡ len)
onward_ok a (Ok m) len h = (m, refl, cc)
onward_ok a (Err None) len h = absurd cc
onward_ok a (Err (Some e)) len h = absurd cc

-- a group behind its tag is a group
group_alone : (k len n : ℕ) (rest : List ℕ) (size : ℕ) → group_in k len n rest ≡ Ok size
    → (len ≤ size) × (group_in k 0 n rest ≡ Ok (size - len))
unfolding group_in
group_alone zero len n rest size h = absurd cc
group_alone (suc k) len n rest size h =
    let o = onward_ok len (group_rest (group_in k) n 0 rest) size h in
    let e : 0 + o.0 ≡ size - len = omega (arith, o.2) in
    (omega (arith, o.2), ap (onward 0) o.1 ∙ ap (λ (x : ℕ). Ok x) e)

-- where the record at the front of bytes lies in them
record Lies (k len : ℕ) (bytes : List ℕ) (r : Record) : Type 0 where
  begins : len ≤ r.head
  ordered : r.head ≤ r.size
  payload : StandsAs k r.number r.payload r.head r.size bytes

abbrev group_rec : Tag → ℕ → Result Record Stop
group_rec t size = Ok (record { number = t.number; payload = group; head = t.len; size = size })

abbrev plain_rec : Tag → Piece → Result Record Stop
plain_rec t p = Ok (record { number = t.number; payload = p.payload; head = t.len + p.from; size = t.len + p.to })

abbrev behind_tag : ℕ → Tag → List ℕ → Bool → Bool → Result Record Stop
behind_tag k t rest x y = cond x (group_in k t.len t.number rest >>= group_rec t)
    (cond y (Err (Some (0, BadGroup))) (at_front (payload_in t.wire rest) >>= plain_rec t))

behind_lies : (k : ℕ) (bytes : List ℕ) (t : Tag) (r : Record) (x y : Bool)
    → behind_tag k t (drop t.len bytes) x y ≡ Ok r → Lies k t.len bytes r
behind_lies k bytes t r true y h =
    let rest = drop t.len bytes in
    let a = bind_ok (group_in k t.len t.number rest) (group_rec t) r h in
    let g = group_alone k t.len t.number rest a.0 a.1 in
    let e = rec_is (record { number = t.number; payload = group; head = t.len; size = a.0 }) r a.2 in
    subst (Lies k t.len bytes) e (record { begins = omega arith; ordered = g.0; payload = g.1 })
behind_lies k bytes t r false true h = absurd cc
behind_lies k bytes t r false false h =
    let rest = drop t.len bytes in
    let a = bind_ok (at_front (payload_in t.wire rest)) (plain_rec t) r h in
    let s = piece_stands k t.number t.wire rest a.0 (front_ok (payload_in t.wire rest) a.0 a.1) in
    let e = rec_is
    (record { number = t.number; payload = a.0.payload; head = t.len + a.0.from; size = t.len + a.0.to }) r a.2 in
    subst (Lies k t.len bytes) e (record {
      begins = omega arith;
      ordered = omega (arith, s.0);
      payload = stands_further k t.number t.len a.0.from a.0.to a.0.payload bytes rest refl s.1;
    })

record_lies : (k : ℕ) (bytes : List ℕ) (r : Record) → record_with (group_in k) bytes ≡ Ok r
    → (len : ℕ) × (1 ≤ len) × Lies k len bytes r
unfolding record_with
record_lies k bytes r h =
    let f : Tag → Result Record Stop = λ t. behind_tag k t (drop t.len bytes) (t.wire == 3) (t.wire == 4) in
    let a = bind_ok (at_front (tag_in bytes)) f r h in
    let t = a.0 in
    let s = tag_stable bytes [] t (front_ok (tag_in bytes) t a.1) in
    (t.len, s.some, behind_lies k bytes t r (t.wire == 3) (t.wire == 4) a.2)

whole_lies : (k : ℕ) (bytes : List ℕ) (r : Record) → record_in k bytes ≡ Ok r
    → (len : ℕ) × (1 ≤ len) × Lies k len bytes r
unfolding record_in
whole_lies k bytes r h = record_lies k bytes r (whole_ok (record_with (group_in k) bytes) r h)

-- ---- the reader

-- a record that is read where a reader stands is told, and the reader stands behind it
tells_record : (s : Reading) (r : Record) → 1 ≤ r.size → record_in 99 (bytes_left s) ≡ Ok r
    → TellsRecord s (placed s.1 r) (s.0, s.1 + r.size)
tells_record s r size h =
    let l = whole_lies 99 (bytes_left s) r h in
    let lies : Lies 99 l.0 (bytes_left s) r = l.2 in
    let fits : r.size ≤ length (bytes_left s) = (whole_stable 99 (bytes_left s) [] r h).2 in
    let left : length (bytes_left s) ≡ length s.0 - s.1 = length-drop s.1 s.0 in
    let behind : drop r.size (bytes_left s) ≡ drop (s.1 + r.size) s.0 = drop-drop r.size s.1 s.0 in
    record {
      found = r;
      told = refl;
      behind = refl;
      begins = omega (arith, l.1, lies.begins);
      ordered = omega (arith, lies.ordered);
      within = omega (arith, fits, left);
      payload = stands_further 99 r.number s.1 r.head r.size r.payload s.0 (bytes_left s) refl lies.payload;
      records = records_begin 99 (bytes_left s) r size h ∙ ap (λ (bs : List ℕ). r ∷ records 99 0 bs) behind;
      fault = fault_next (λ f. f) (λ at r. None) 99 s.1 (bytes_left s) r size h
          ∙ ap (λ (bs : List ℕ). records_fault (λ f. f) (λ at r. None) 99 (s.1 + r.size) 0 bs) behind;
    }

-- what is read where a reader stands is the first of the records that are left, or tells their end
pub tells_first : (s t : Reading) (o : Option (Result found.Record WireFault)) → IsNext s o t → TellsFirst s o t
tells_first s t None h = (ap (records 99 0) h.0, ap (records_fault (λ f. f) (λ at r. None) 99 s.1 0) h.0, h.1)
tells_first s t (Some (Ok r)) h =
    subst (λ (u : Reading). TellsRecord s r u) (sym h.4)
    (subst (λ (q : found.Record). TellsRecord s q (s.0, s.1 + h.0.size)) (sym h.3) (tells_record s h.0 h.2 h.1))
tells_first s t (Some (Err e)) h = (
  records_stop 99 (bytes_left s) (h.0, e.kind) h.2,
  fault_stop (λ f. f) (λ at r. None) 99 s.1 (bytes_left s) (h.0, e.kind) h.1 h.2
      ∙ ap (λ (p : ℕ). Some (record { place = p; kind = e.kind })) (sym h.3),
  h.4,
)
