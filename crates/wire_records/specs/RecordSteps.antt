-- The records of one level and their first fault, record by record.
use Rattle.std.proofs.Common.{◌≡◌, ◌≢◌, ◌+◌, ◌-◌, ◌≤◌, ℕ, zero, suc, List, [], ◌∷◌, drop, Option, Some, Ok, Err, arith, refl, ap, ◌∙◌}
use Rattle.std.specs.Option.{option_or}
use Rattle.wire_records.specs.Varint.{number_in}
use Rattle.wire_records.specs.RecordFaults.{records_fault}
use Rattle.wire_records.specs.WireRecord.{Record, tag_in, record_with, record_in, records}
use Rattle.wire_records.specs.declared.fault.WireFault.{WireFault}
use Rattle.wire_records.specs.declared.fault.WireKind.{WireKind}
use Rattle.base.proofs.SliceLemmas.{drop_one}

-- skipping bytes is dropping them
pub records_skip : (k skip : ℕ) (bs : List ℕ) → records k skip bs ≡ records k 0 (drop skip bs)
records_skip k zero [] = refl
records_skip k (suc skip) [] = refl
records_skip k zero (b ∷ bs) = refl
records_skip k (suc skip) (b ∷ bs) = records_skip k skip bs

-- no record stands in no bytes
pub no_record : (k : ℕ) (r : Record) → record_in k [] ≡ Ok r → ⊥
unfolding record_in record_with tag_in number_in
no_record k r h = absurd (cc)

-- records begin with the one at the front
pub records_begin : (k : ℕ) (bytes : List ℕ) (r : Record) → 1 ≤ r.size → record_in k bytes ≡ Ok r → records k 0 bytes ≡ r ∷ records k 0 (drop r.size bytes)
records_begin k [] r s h = absurd (no_record k r h)
records_begin k (b ∷ bs) r s h = rw (h, drop_one r.size b bs s) (ap (λ (rs : List Record). r ∷ rs) (records_skip k (r.size - 1) bs))

-- no record stands where one is wrong
pub records_stop : (k : ℕ) (bytes : List ℕ) (e : ℕ × WireKind) → record_in k bytes ≡ Err e → records k 0 bytes ≡ []
records_stop k [] e h = refl
records_stop k (b ∷ bs) e h = rw h refl

module _ {F : Type 0} (told : WireFault → F) (check : ℕ → Record → Option F) (k : ℕ) where
  fault_skip : (place skip : ℕ) (bs : List ℕ) → records_fault told check k place skip bs ≡ records_fault told check k (place + skip) 0 (drop skip bs)
  fault_skip place zero [] = refl
  fault_skip place (suc skip) [] = refl
  fault_skip place zero (b ∷ bs) = let e : place ≡ place + 0 = omega arith in ap (λ (p : ℕ). records_fault told check k p 0 (b ∷ bs)) e
  fault_skip place (suc skip) (b ∷ bs) =
      let e : place + 1 + skip ≡ place + suc skip = omega arith in
      fault_skip (place + 1) skip bs ∙ ap (λ (p : ℕ). records_fault told check k p 0 (drop skip bs)) e

  -- the first record's fault, or that of what goes on behind it
  pub fault_next : (place : ℕ) (bytes : List ℕ) (r : Record) → 1 ≤ r.size → record_in k bytes ≡ Ok r
      → records_fault told check k place 0 bytes ≡ option_or (check place r) (records_fault told check k (place + r.size) 0 (drop r.size bytes))
  fault_next place [] r s h = absurd (no_record k r h)
  fault_next place (b ∷ bs) r s h =
      let e : place + 1 + (r.size - 1) ≡ place + r.size = omega arith in
      rw (h, drop_one r.size b bs s) (ap (option_or (check place r)) (fault_skip (place + 1) (r.size - 1) bs ∙ ap (λ (p : ℕ). records_fault told check k p 0 (drop (r.size - 1) bs)) e))

  -- the fault of the record at the front is the first
  pub fault_stop : (place : ℕ) (bytes : List ℕ) (e : ℕ × WireKind) → bytes ≢ [] → record_in k bytes ≡ Err e → records_fault told check k place 0 bytes ≡ Some (told (record { place = place + e.0; kind = e.1 }))
  fault_stop place [] e n h = absurd (n refl)
  fault_stop place (b ∷ bs) e n h = rw h refl
