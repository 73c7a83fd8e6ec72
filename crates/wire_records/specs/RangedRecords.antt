-- What is read is in range, where bytes are.
use Rattle.std.proofs.Common.{◌≡◌, ◌+◌, ◌-◌, ◌^◌, ◌<◌, ◌==◌, ℕ, zero, suc, Bool, true, false, cond, List, [], ◌∷◌, length, take, drop, Some, Result, Ok, Err, nat_lt, arith, refl, subst}
use Rattle.std.specs.Int.{w32, w64, from_le_bytes}
use Rattle.std.specs.List.{AllByRecursion}
use Rattle.wire_records.specs.Outcome.{◌>>=◌}
use Rattle.base.proofs.ByteLemmas.{AllBytes, bytes_drop, bytes_take, each_byte}
use Rattle.base.specs.Base128.{groups_in}
use Rattle.wire_records.specs.Varint.{number_in}
use Rattle.wire_records.specs.declared.fault.WireKind.{WireKind}
use Rattle.wire_records.specs.declared.fault.WireKind.TheVariants.{Short, BadGroup}
use Rattle.wire_records.specs.WireRecord.{Tag, tag_in, Payload, number, eight, sized, group, four, Piece, sized_in, payload_in, Record, Stop, at_front, record_with, group_in, record_in, and_records, records}
use Rattle.wire_records.specs.JoinedRecords.{bind_ok, guard_ok, low_ok, front_ok, whole_ok, rec_is}

piece_is : (x y : Piece) → ◌≡◌ {A = Result Piece WireKind} (Ok x) (Ok y) → x ≡ y
piece_is x y e = cc

by_wire : {A B C D : Result Piece WireKind} (P : Piece → Type 0) (x y z : Bool) (p : Piece) → (A ≡ Ok p → P p) → (B ≡ Ok p → P p) → (C ≡ Ok p → P p) → (D ≡ Ok p → P p) → cond x A (cond y B (cond z C D)) ≡ Ok p → P p
by_wire P true y z p a b c d h = a h
by_wire P false true z p a b c d h = b h
by_wire P false false true p a b c d h = c h
by_wire P false false false p a b c d h = d h

four_bytes : (bs : List ℕ) → AllBytes bs → from_le_bytes w32 bs < 2 ^ 32
four_bytes bs h = let e = each_byte bs h in omega (arith, e 0, e 1, e 2, e 3)

eight_bytes : (bs : List ℕ) → AllBytes bs → from_le_bytes w64 bs < 2 ^ 64
eight_bytes bs h = let e = each_byte bs h in omega (arith, e 0, e 1, e 2, e 3, e 4, e 5, e 6, e 7)

-- a payload's number has the bits of its wire type
abbrev pub IsRanged : Payload → Type 0
IsRanged (number n) = n < 2 ^ 64
IsRanged (eight n) = n < 2 ^ 64
IsRanged (four n) = n < 2 ^ 32
IsRanged (sized bs) = AllBytes bs
IsRanged group = Unit {0}

number_small : (bytes : List ℕ) (r : ℕ × ℕ) → number_in bytes ≡ Ok r → r.0 < 2 ^ 64
unfolding number_in
number_small bytes r h =
    let a = low_ok (groups_in 10 bytes) r h in
    subst (λ (q : ℕ × ℕ). q.0 < 2 ^ 64) a.2 (omega arith)

number_ranged : (rest : List ℕ) (p : Piece) → (number_in rest >>= λ n. Ok (record { payload = number n.0; from = 0; to = n.1 })) ≡ Ok p → IsRanged p.payload
number_ranged rest p h =
    let f : ℕ × ℕ → Result Piece WireKind = λ n. Ok (record { payload = number n.0; from = 0; to = n.1 }) in
    let a = bind_ok (number_in rest) f p h in
    subst (λ (q : Piece). IsRanged q.payload) (piece_is (record { payload = number a.0.0; from = 0; to = a.0.1 }) p a.2) (number_small rest a.0 a.1)

sized_ranged : (rest : List ℕ) (p : Piece) → AllBytes rest → (number_in rest >>= λ n. sized_in n.0 n.1 (drop n.1 rest)) ≡ Ok p → IsRanged p.payload
sized_ranged rest p b h =
    let f : ℕ × ℕ → Result Piece WireKind = λ n. sized_in n.0 n.1 (drop n.1 rest) in
    let a = bind_ok (number_in rest) f p h in
    let behind = drop a.0.1 rest in
    let g = guard_ok (nat_lt (length behind) a.0.0) Short (record { payload = sized (take a.0.0 behind); from = a.0.1; to = a.0.1 + a.0.0 }) p a.2 in
    subst (λ (q : Piece). IsRanged q.payload) g.1 (bytes_take a.0.0 behind (bytes_drop a.0.1 rest b))

fixed_ranged : (n : ℕ) (make : List ℕ → Piece) (rest : List ℕ) (p : Piece) → IsRanged (make (take n rest)).payload → cond (nat_lt (length rest) n) (Err Short) (Ok (make (take n rest))) ≡ Ok p → IsRanged p.payload
fixed_ranged n make rest p r h = subst (λ (q : Piece). IsRanged q.payload) (guard_ok (nat_lt (length rest) n) Short (make (take n rest)) p h).1 r

-- the number of a payload that is read has the bits of its wire type
pub payload_ranged : (wire : ℕ) (rest : List ℕ) (p : Piece) → AllBytes rest → payload_in wire rest ≡ Ok p → IsRanged p.payload
unfolding payload_in
payload_ranged wire rest p b h =
    by_wire (λ q. IsRanged q.payload) (wire == 0) (wire == 1) (wire == 2) p
    (λ e. number_ranged rest p e)
    (λ e. fixed_ranged 8 (λ bs. record { payload = eight (from_le_bytes w64 bs); from = 0; to = 8 }) rest p (eight_bytes (take 8 rest) (bytes_take 8 rest b)) e)
    (λ e. sized_ranged rest p b e)
    (λ e. fixed_ranged 4 (λ bs. record { payload = four (from_le_bytes w32 bs); from = 0; to = 4 }) rest p (four_bytes (take 4 rest) (bytes_take 4 rest b)) e)
    h

module _ (inner : ℕ → ℕ → List ℕ → Result ℕ Stop) where
  abbrev behind : Tag → List ℕ → Bool → Bool → Result Record Stop
  behind t rest x y = cond x (inner t.len t.number rest >>= λ size. Ok (record { number = t.number; payload = group; head = t.len; size = size })) (cond y (Err (Some (0, BadGroup))) (at_front (payload_in t.wire rest) >>= λ p. Ok (record { number = t.number; payload = p.payload; head = t.len + p.from; size = t.len + p.to })))

  behind_ranged : (t : Tag) (rest : List ℕ) (r : Record) (x y : Bool) → AllBytes rest → behind t rest x y ≡ Ok r → IsRanged r.payload
  behind_ranged t rest r true y b h =
      let f : ℕ → Result Record Stop = λ size. Ok (record { number = t.number; payload = group; head = t.len; size = size }) in
      let a = bind_ok (inner t.len t.number rest) f r h in
      subst (λ (q : Record). IsRanged q.payload) (rec_is (record { number = t.number; payload = group; head = t.len; size = a.0 }) r a.2) tt
  behind_ranged t rest r false true b h = absurd cc
  behind_ranged t rest r false false b h =
      let f : Piece → Result Record Stop = λ p. Ok (record { number = t.number; payload = p.payload; head = t.len + p.from; size = t.len + p.to }) in
      let a = bind_ok (at_front (payload_in t.wire rest)) f r h in
      subst (λ (q : Record). IsRanged q.payload) (rec_is (record { number = t.number; payload = a.0.payload; head = t.len + a.0.from; size = t.len + a.0.to }) r a.2) (payload_ranged t.wire rest a.0 b (front_ok (payload_in t.wire rest) a.0 a.1))

  record_ranged : (bytes : List ℕ) (r : Record) → AllBytes bytes → record_with inner bytes ≡ Ok r → IsRanged r.payload
  unfolding record_with
  record_ranged bytes r b h =
      let f : Tag → Result Record Stop = λ t. behind t (drop t.len bytes) (t.wire == 3) (t.wire == 4) in
      let a = bind_ok (at_front (tag_in bytes)) f r h in
      behind_ranged a.0 (drop a.0.len bytes) r (a.0.wire == 3) (a.0.wire == 4) (bytes_drop a.0.len bytes b) a.2

-- the number of a record that is read has the bits of its wire type
pub whole_ranged : (k : ℕ) (bytes : List ℕ) (r : Record) → AllBytes bytes → record_in k bytes ≡ Ok r → IsRanged r.payload
unfolding record_in
whole_ranged k bytes r b h = record_ranged (group_in k) bytes r b (whole_ok (record_with (group_in k) bytes) r h)

-- the numbers of records have the bits of their wire types
abbrev pub AreRanged : List Record → Type 0
AreRanged rs = AllByRecursion (λ (r : Record). IsRanged r.payload) rs

one_more : (k b : ℕ) (bs : List ℕ) (x : Result Record (ℕ × WireKind)) → AllBytes (b ∷ bs) → record_in k (b ∷ bs) ≡ x → ((skip : ℕ) → AreRanged (records k skip bs)) → AreRanged (and_records x (λ skip. records k skip bs))
one_more k b bs (Err e) h q ih = tt
one_more k b bs (Ok r) h q ih = (whole_ranged k (b ∷ bs) r h q, ih (r.size - 1))

-- the numbers of the records of bytes have the bits of their wire types
pub records_ranged : (k skip : ℕ) (bytes : List ℕ) → AllBytes bytes → AreRanged (records k skip bytes)
records_ranged k skip [] h = tt
records_ranged k (suc skip) (b ∷ bs) h = records_ranged k skip bs h.1
records_ranged k zero (b ∷ bs) h = one_more k b bs (record_in k (b ∷ bs)) h refl (λ skip. records_ranged k skip bs h.1)
