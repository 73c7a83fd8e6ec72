-- The first fault of records: what is wrong with one of them, or with the payload of one before it. The least place counts,
-- which is the first from the left.
use Rattle.std.specs.Prelude.{◌+◌, ◌-◌, ℕ, zero, suc, List, [], ◌∷◌, Option, Some, None, Result, Ok, Err}
use Rattle.std.specs.Option.{option_or}
use Rattle.wire_records.specs.WireRecord.{Record, record_in}
use Rattle.wire_records.specs.declared.fault.WireFault.{WireFault}
use Rattle.wire_records.specs.declared.fault.WireKind.{WireKind}

-- a record's fault, as `told` tells it, its payload's by `check`, or what goes on behind it
abbrev pub and_fault : {F : Type 0} → (WireFault → F) → ℕ → (Record → Option F) → Result Record (ℕ × WireKind) → (ℕ → Option F) → Option F
and_fault told place check (Err e) go = Some (told (record { place = place + e.0; kind = e.1 }))
and_fault told place check (Ok r) go = option_or (check r) (go (r.size - 1))

-- the first fault of records and their payloads behind `skip` bytes
abbrev pub records_fault : {F : Type 0} → (WireFault → F) → (ℕ → Record → Option F) → ℕ → ℕ → ℕ → List ℕ → Option F
records_fault told check k place skip [] = None
records_fault told check k place (suc skip) (b ∷ bs) = records_fault told check k (place + 1) skip bs
records_fault told check k place zero (b ∷ bs) = and_fault told place (check place) (record_in k (b ∷ bs)) (λ skip. records_fault told check k (place + 1) skip bs)
