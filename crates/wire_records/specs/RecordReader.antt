-- Reading the records of one level, one after another.
use Rattle.std.specs.Prelude.{◌≡◌, ◌≢◌, ◌+◌, ◌-◌, ◌<◌, ◌≤◌, ℕ, List, [], ◌∷◌, length, take, drop, Option, Some, None, Result, Ok, Err}
use Rattle.std.specs.Int.{w32, w64, from_le_bytes}
use Rattle.wire_records.specs.RecordFaults.{records_fault}
use Rattle.wire_records.specs.Varint.{number_in}
use Rattle.wire_records.specs.WireRecord as wire
use Rattle.wire_records.specs.WireRecord.{Payload, number, eight, sized, group, four, group_in, record_in, records}
use Rattle.wire_records.specs.declared.fault.WireFault.{WireFault}
use Rattle.wire_records.specs.declared.records.Record.{Record}

-- the wire type of a payload
abbrev pub wire_type : Payload → ℕ
wire_type (number n) = 0
wire_type (eight n) = 1
wire_type (sized bs) = 2
wire_type group = 3
wire_type (four n) = 5

-- a record that begins at a place, told by numbers
abbrev pub placed : ℕ → wire.Record → Record
placed at r = record { number = r.number; wire = wire_type r.payload; place = at; from = at + r.head; to = at + r.size }

-- a reader's bytes, and where it stands in them
abbrev pub Reading : Type 0
Reading = List ℕ × ℕ

-- the bytes that are left
abbrev pub bytes_left : Reading → List ℕ
bytes_left s = drop s.1 s.0

-- the records that are left, up to the first fault; groups nest in 99 levels below the level that is read
abbrev pub records_left : Reading → List wire.Record
records_left s = records 99 0 (bytes_left s)

-- the first fault of the records that are left, whatever their payloads are
abbrev pub fault_left : Reading → Option WireFault
fault_left s = records_fault (λ f. f) (λ at r. None) 99 s.1 0 (bytes_left s)

-- what is read where a reader stands, and where it stands then
abbrev pub IsNext : Reading → Option (Result Record WireFault) → Reading → Type 0
IsNext s None t = (bytes_left s ≡ []) × (t ≡ s)
IsNext s (Some (Ok r)) t = (found : wire.Record) × (record_in 99 (bytes_left s) ≡ Ok found) × (1 ≤ found.size) × (r ≡ placed s.1 found) × (t ≡ (s.0, s.1 + found.size))
IsNext s (Some (Err e)) t = (near : ℕ) × (bytes_left s ≢ []) × (record_in 99 (bytes_left s) ≡ Err (near, e.kind)) × (e.place ≡ s.1 + near) × (t ≡ s)

-- what stands in bytes from one offset to another as the payload of a record of number `n`: a varint, eight or four bytes
-- little-endian, the bytes themselves, or the records of a group with the end of its number behind them, in `k` levels
abbrev pub StandsAs : ℕ → ℕ → Payload → ℕ → ℕ → List ℕ → Type 0
StandsAs k n (number x) from to bytes = number_in (drop from bytes) ≡ Ok (x, to - from)
StandsAs k n (eight x) from to bytes = (to ≡ from + 8) × (x ≡ from_le_bytes w64 (take 8 (drop from bytes)))
StandsAs k n (sized bs) from to bytes = bs ≡ take (to - from) (drop from bytes)
StandsAs k n group from to bytes = group_in k 0 n (drop from bytes) ≡ Ok (to - from)
StandsAs k n (four x) from to bytes = (to ≡ from + 4) × (x ≡ from_le_bytes w32 (take 4 (drop from bytes)))

-- of the records that are left the first is told: where it lies in the bytes, and what its payload is; the reader then
-- stands behind it
pub record TellsRecord (s : Reading) (r : Record) (t : Reading) : Type 0 where
  pub found : wire.Record
  pub told : r ≡ placed s.1 found
  pub behind : t ≡ (s.0, r.to)
  pub begins : r.place < r.from
  pub ordered : r.from ≤ r.to
  pub within : r.to ≤ length s.0
  pub payload : StandsAs 99 r.number found.payload r.from r.to s.0
  pub records : records_left s ≡ found ∷ records_left t
  pub fault : fault_left s ≡ fault_left t

-- of the records that are left the first is told; at their end the fault is, or that there is none
abbrev pub TellsFirst : Reading → Option (Result Record WireFault) → Reading → Type 0
TellsFirst s None t = (records_left s ≡ []) × (fault_left s ≡ None) × (t ≡ s)
TellsFirst s (Some (Ok r)) t = TellsRecord s r t
TellsFirst s (Some (Err e)) t = (records_left s ≡ []) × (fault_left s ≡ Some e) × (t ≡ s)
