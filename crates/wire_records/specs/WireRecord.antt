-- Records (the encoding guide, "Message Structure"): a tag, and a payload as its wire type says. A message
-- is a concatenation of records; a group is records between a start and an end of one number.
use Rattle.std.specs.Prelude.{◌≡◌, ◌<◌, ◌==◌, ◌+◌, ◌-◌, ◌/◌, ◌%◌, ◌^◌, ◌&&◌, ℕ, zero, suc, Bool, false, List, [], ◌∷◌, length, take, drop, if◌then◌else◌, nat_lt, Option, Some, None, Result, Ok, Err}
use Rattle.std.specs.Int.{w32, w64, from_le_bytes}
use Rattle.wire_records.specs.Outcome.{◌>>=◌}
use Rattle.wire_records.specs.Varint.{number_in}
use Rattle.wire_records.specs.declared.fault.WireKind.{WireKind}
use Rattle.wire_records.specs.declared.fault.WireKind.TheVariants.{Short, BadTag, BadGroup, TooDeep}

-- a tag: a field number, a wire type, and how many bytes it takes
pub record Tag : Type 0 where
  pub number : ℕ
  pub wire : ℕ
  pub len : ℕ

-- a number can be a tag: it is below 2 ^ 32, its field number is not 0, and there is such a wire type
abbrev pub is_tag : ℕ → Bool
is_tag n = nat_lt n (2 ^ 32) && nat_lt 7 n && nat_lt (n % 8) 6

-- the tag at the front
unfoldable pub tag_in : List ℕ → Result Tag WireKind
tag_in bytes = number_in bytes >>= λ t. if is_tag t.0 then Ok (record { number = t.0 / 8; wire = t.0 % 8; len = t.1 }) else Err BadTag

-- a payload: VARINT, I64, LEN, a group, I32
pub data Payload : Type 0 where
  number : ℕ → Payload
  eight : ℕ → Payload
  sized : List ℕ → Payload
  group : Payload
  four : ℕ → Payload

-- a payload, and from where to where it lies
pub record Piece : Type 0 where
  pub payload : Payload
  pub from : ℕ
  pub to : ℕ

-- the bytes of this many at the front, behind a length that ends at `from`
abbrev pub sized_in : ℕ → ℕ → List ℕ → Result Piece WireKind
sized_in size from rest = if nat_lt (length rest) size then Err Short else Ok (record { payload = sized (take size rest); from = from; to = from + size })

-- a wire type that there is, and is none of a group's: VARINT, I64, LEN or I32
pub record IsPlainWire (w : ℕ) : Type 0 where
  pub low : w < 6
  pub start : (w == 3) ≡ false
  pub end : (w == 4) ≡ false

-- the payload at the front, of a wire type that is no group's
unfoldable pub payload_in : ℕ → List ℕ → Result Piece WireKind
payload_in wire rest =
    if wire == 0 then (number_in rest >>= λ n. Ok (record { payload = number n.0; from = 0; to = n.1 }))
    else (if wire == 1 then (if nat_lt (length rest) 8 then Err Short else Ok (record { payload = eight (from_le_bytes w64 (take 8 rest)); from = 0; to = 8 }))
    else (if wire == 2 then (number_in rest >>= λ n. sized_in n.0 n.1 (drop n.1 rest))
    else (if nat_lt (length rest) 4 then Err Short else Ok (record { payload = four (from_le_bytes w32 (take 4 rest)); from = 0; to = 4 }))))

-- a record: its field number, its payload, where that begins, and how many bytes the whole takes
pub record Record : Type 0 where
  pub number : ℕ
  pub payload : Payload
  pub head : ℕ
  pub size : ℕ

-- why no record stands at the front: something at a place, or a group has no end
abbrev pub Stop : Type 0
Stop = Option (ℕ × WireKind)

-- what is wrong is wrong at the front
abbrev pub at_front : {A : Type 0} → Result A WireKind → Result A Stop
at_front (Ok x) = Ok x
at_front (Err kind) = Err (Some (0, kind))

-- the same, found `n` bytes further on
abbrev pub onward : ℕ → Result ℕ Stop → Result ℕ Stop
onward n (Ok len) = Ok (n + len)
onward n (Err None) = Err None
onward n (Err (Some e)) = Err (Some (n + e.0, e.1))

-- the record at the front, where `inner` gives the length of a group behind a tag of this length and number
unfoldable pub record_with : (ℕ → ℕ → List ℕ → Result ℕ Stop) → List ℕ → Result Record Stop
record_with inner bytes = at_front (tag_in bytes) >>= λ t.
    if t.wire == 3 then (inner t.len t.number (drop t.len bytes) >>= λ size. Ok (record { number = t.number; payload = group; head = t.len; size = size }))
    else (if t.wire == 4 then Err (Some (0, BadGroup))
    else (at_front (payload_in t.wire (drop t.len bytes)) >>= λ p. Ok (record { number = t.number; payload = p.payload; head = t.len + p.from; size = t.len + p.to })))

-- how long the end of the group of this number is, where it stands
abbrev pub end_of : ℕ → Result Tag WireKind → Option ℕ
end_of n (Ok t) = if t.wire == 4 && t.number == n then Some t.len else None
end_of n (Err e) = None

-- a group ends, or goes on behind a record
abbrev pub group_step : Option ℕ → Result Record Stop → (ℕ → Result ℕ Stop) → Result ℕ Stop
group_step (Some len) r go = Ok len
group_step None (Ok r) go = onward 1 (go (r.size - 1))
group_step None (Err e) go = Err e

-- what is left of a group of number `n` behind `skip` bytes: how long it is with its end
abbrev pub group_rest : (ℕ → ℕ → List ℕ → Result ℕ Stop) → ℕ → ℕ → List ℕ → Result ℕ Stop
group_rest inner n skip [] = Err None
group_rest inner n (suc skip) (b ∷ bs) = onward 1 (group_rest inner n skip bs)
group_rest inner n zero (b ∷ bs) = group_step (end_of n (tag_in (b ∷ bs))) (record_with inner (b ∷ bs)) (λ skip. group_rest inner n skip bs)

-- the length of a group and its end behind a tag of this length, where groups nest in so many levels
unfoldable pub group_in : ℕ → ℕ → ℕ → List ℕ → Result ℕ Stop
group_in zero len n rest = Err (Some (0, TooDeep))
group_in (suc k) len n rest = onward len (group_rest (group_in k) n 0 rest)

-- a group that no end follows is bad at its start
abbrev pub whole : Result Record Stop → Result Record (ℕ × WireKind)
whole (Ok r) = Ok r
whole (Err None) = Err (0, BadGroup)
whole (Err (Some e)) = Err e

-- the record at the front, with groups in so many levels, or what is wrong and where
unfoldable pub record_in : ℕ → List ℕ → Result Record (ℕ × WireKind)
record_in k bytes = whole (record_with (group_in k) bytes)

-- a record and what goes on behind it
abbrev pub and_records : Result Record (ℕ × WireKind) → (ℕ → List Record) → List Record
and_records (Ok r) go = r ∷ go (r.size - 1)
and_records (Err e) go = []

-- the records behind `skip` bytes, up to the first fault
abbrev pub records : ℕ → ℕ → List ℕ → List Record
records k skip [] = []
records k (suc skip) (b ∷ bs) = records k skip bs
records k zero (b ∷ bs) = and_records (record_in k (b ∷ bs)) (λ skip. records k skip bs)
