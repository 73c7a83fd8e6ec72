-- What was written is read again: varints, tags, payloads and records.
use Rattle.std.proofs.Common.{◌≡◌, ◌+◌, ◌*◌, ◌/◌, ◌%◌, ◌^◌, ◌≤◌, ◌<◌, ℕ, true, false, nat_lt, List, [], ◌++◌, length, take, drop, Ok, arith, refl, ap, ap₂, sym, length-append, drop_at}
use Rattle.std.specs.Int.{w32, w64, to_le_bytes}
use Rattle.std.proofs.Math.Seq.{take-length}
use Rattle.std.proofs.lemmas.Bool.{lt-ltb, le-ltb}
use Rattle.std.proofs.lemmas.Nat.{from_le_bytes-to_le_bytes_4, from_le_bytes-to_le_bytes_8}
use Rattle.base.proofs.GroupSizeLemmas.{groups_back}
use Rattle.base.specs.Base128.{groups_of}
use Rattle.wire_records.specs.Varint.{varint, number_in}
use Rattle.wire_records.specs.WireRecord.{IsPlainWire, Tag, tag_in, is_tag, Payload, Piece, number, eight, sized, four, payload_in, Record, record_with, record_in}
use Rattle.wire_records.specs.RecordBytes.{tag, delimited}
use Rattle.wire_records.specs.JoinedRecords.{number_stable, tag_stable}

-- ---- varints

-- a number of 64 bits is read again
pub number_read : (n : ℕ) → n < 2 ^ 64 → number_in (varint n) ≡ Ok (n, length (varint n))
unfolding number_in varint
number_read n l =
    let m : n % 2 ^ 64 ≡ n = omega arith in
    rw (groups_back 10 n (omega arith) (omega arith)) (ap (λ (x : ℕ). Ok (x, length (groups_of 10 n))) m)

-- ---- tags

-- a tag is read again
pub tag_read : (n w : ℕ) → 0 < n → n < 2 ^ 29 → w < 6 → tag_in (tag n w) ≡ Ok (record { number = n; wire = w; len = length (tag n w) })
unfolding tag_in
tag_read n w p l s =
    let m = n * 8 + w in
    let small : m < 2 ^ 32 = omega arith in
    let a : nat_lt m (2 ^ 32) ≡ true = lt-ltb m (2 ^ 32) small in
    let b : nat_lt 7 m ≡ true = lt-ltb 7 m (omega arith) in
    let c : nat_lt (m % 8) 6 ≡ true = lt-ltb (m % 8) 6 (omega arith) in
    let d : m / 8 ≡ n = omega arith in
    let e : m % 8 ≡ w = omega arith in
    let v = number_read m (omega arith) in
    let t : is_tag m ≡ true = rw (a, b, c) refl in
    rw (v, t) (ap₂ (λ (x y : ℕ). Ok (record { number = x; wire = y; len = length (varint m) })) d e)

-- ---- payloads

-- how many bytes stand before a payload behind its tag: its length
abbrev pub lead : Payload → ℕ
lead (sized bs) = length (varint (length bs))
lead _ = 0

-- a payload that takes all of these bytes
abbrev pub piece_of : Payload → List ℕ → Piece
piece_of p body = record { payload = p; from = lead p; to = length body }

-- a varint is read as a payload
pub varint_piece : (n : ℕ) → n < 2 ^ 64 → payload_in 0 (varint n) ≡ Ok (piece_of (number n) (varint n))
unfolding payload_in
varint_piece n l = rw (number_read n l) refl

-- bytes behind their length are read as a payload
pub sized_piece : (bs : List ℕ) → length bs < 2 ^ 64 → payload_in 2 (delimited bs) ≡ Ok (piece_of (sized bs) (delimited bs))
unfolding payload_in
sized_piece bs l =
    let head = varint (length bs) in
    let v = (number_stable head bs (length bs, length head) (number_read (length bs) l)).0 in
    let fits : nat_lt (length bs) (length bs) ≡ false = le-ltb (length bs) (length bs) (omega arith) in
    let back : drop (length head) (head ++ bs) ≡ bs = drop_at head bs (length head) refl in
    let taken : take (length bs) bs ≡ bs = take-length bs in
    rw (v, back, fits, taken) (ap (λ (x : ℕ). Ok (record { payload = sized bs; from = length head; to = x })) (sym (length-append head bs)))

-- four bytes are read as a payload
pub four_piece : (n : ℕ) → n < 2 ^ 32 → payload_in 5 (to_le_bytes w32 n) ≡ Ok (piece_of (four n) (to_le_bytes w32 n))
unfolding payload_in
four_piece n l = ap (λ (x : ℕ). Ok (record { payload = four x; from = 0; to = 4 })) (from_le_bytes-to_le_bytes_4 n l)

-- eight bytes are read as a payload
pub eight_piece : (n : ℕ) → n < 2 ^ 64 → payload_in 1 (to_le_bytes w64 n) ≡ Ok (piece_of (eight n) (to_le_bytes w64 n))
unfolding payload_in
eight_piece n l = ap (λ (x : ℕ). Ok (record { payload = eight x; from = 0; to = 8 })) (from_le_bytes-to_le_bytes_8 n l)

-- ---- records

-- the record of a number and a wire type with this payload
abbrev pub record_of : ℕ → ℕ → Payload → List ℕ → Record
record_of n w p body = record { number = n; payload = p; head = length (tag n w) + lead p; size = length (tag n w) + length body }

-- behind its tag a payload is a record
pub record_read : (k n w : ℕ) (body : List ℕ) (p : Payload) → 0 < n → n < 2 ^ 29 → IsPlainWire w → payload_in w body ≡ Ok (piece_of p body) → record_in k (tag n w ++ body) ≡ Ok (record_of n w p body)
unfolding record_in record_with
record_read k n w body p some small plain h =
    let t : Tag = record { number = n; wire = w; len = length (tag n w) } in
    let s = tag_stable (tag n w) body t (tag_read n w some small plain.low) in
    let behind : drop (length (tag n w)) (tag n w ++ body) ≡ body = drop_at (tag n w) body (length (tag n w)) refl in
    rw (s.same, plain.start, plain.end, behind, h) refl

-- a tag has a byte
pub tag_some : (n w : ℕ) → 0 < n → n < 2 ^ 29 → w < 6 → 1 ≤ length (tag n w)
tag_some n w some small low = (tag_stable (tag n w) [] (record { number = n; wire = w; len = length (tag n w) }) (tag_read n w some small low)).some
