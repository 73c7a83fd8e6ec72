-- The first fault, record by record and element by element.
use Rattle.std.proofs.Common.{◌≡◌, ◌≢◌, ◌+◌, ◌-◌, ◌≤◌, ◌<◌, ℕ, zero, suc, List, [], ◌∷◌, length, drop, Option, Some, None, Ok, Err, arith, refl, ap, sym, ◌∙◌, length-drop}
use Rattle.std.proofs.lemmas.List.{drop-drop, drop_all}
use Rattle.message_types.specs.Types.{field_in}
use Rattle.message_types.specs.declared.fields.Field.{Field}
use Rattle.message_types.specs.declared.fields.Scalar.{Scalar}
use Rattle.message_types.specs.declared.messages.Types.{Types}
use Rattle.wire_format.specs.Checks.{Finds}
use Rattle.wire_format.specs.Scalars.{scalar_wire}
use Rattle.wire_format.specs.WireFaults.{as_wire, Fault, Wire, element_fault, field_fault, first_fault}
use Rattle.std.specs.Option.{option_or}
use Rattle.wire_records.specs.RecordFaults.{records_fault}
use Rattle.wire_records.specs.WireRecord.{Record, Piece, payload_in, record_in}
use Rattle.wire_format.specs.declared.fault.DecodeFault.{DecodeFault}
use Rattle.wire_format.specs.declared.fault.DecodeFault.TheVariants as found
use Rattle.wire_records.specs.declared.fault.WireKind.{WireKind}
use Rattle.wire_records.specs.RecordSteps.{fault_next, fault_stop}
use Rattle.base.proofs.SliceLemmas.{drop_one}

-- ---- elements

element_skip : (s : Scalar) (place skip : ℕ) (bs : List ℕ) → element_fault s place skip bs ≡ element_fault s (place + skip) 0 (drop skip bs)
element_skip s place zero [] = refl
element_skip s place (suc skip) [] = refl
element_skip s place zero (b ∷ bs) = let e : place ≡ place + 0 = omega arith in ap (λ (p : ℕ). element_fault s p 0 (b ∷ bs)) e
element_skip s place (suc skip) (b ∷ bs) =
    let e : place + 1 + skip ≡ place + suc skip = omega arith in
    element_skip s (place + 1) skip bs ∙ ap (λ (p : ℕ). element_fault s p 0 (drop skip bs)) e

element_next : (s : Scalar) (place : ℕ) (bytes : List ℕ) (p : Piece) → 0 < length bytes → 1 ≤ p.to → payload_in (scalar_wire s) bytes ≡ Ok p → element_fault s place 0 bytes ≡ element_fault s (place + p.to) 0 (drop p.to bytes)
element_next s place [] p l t h = absurd (omega arith)
element_next s place (b ∷ bs) p l t h =
    let e : place + 1 + (p.to - 1) ≡ place + p.to = omega arith in
    rw (h, drop_one p.to b bs t) (element_skip s (place + 1) (p.to - 1) bs ∙ ap (λ (q : ℕ). element_fault s q 0 (drop (p.to - 1) bs)) e)

element_stop : (s : Scalar) (place : ℕ) (bytes : List ℕ) (kind : WireKind) → 0 < length bytes → payload_in (scalar_wire s) bytes ≡ Err kind → element_fault s place 0 bytes ≡ Some (Wire place kind)
element_stop s place [] kind l h = absurd (omega arith)
element_stop s place (b ∷ bs) kind l h = rw h refl

module _ (bytes : List ℕ) (at : ℕ) (lt : at < length bytes) (left : List ℕ) (is : left ≡ drop at bytes) where
  some_left : 0 < length left
  some_left = rw is (omega (arith, length-drop at bytes))

  not_nil : left ≢ []
  not_nil e = absurd (let l : 0 < length left = some_left in let z : length left ≡ 0 = ap length e in omega arith)

  module _ (s : Scalar) (place : ℕ) (total : Option Fault) (told : element_fault s (place + at) 0 (drop at bytes) ≡ total) where
    -- the first fault goes on behind an element
    pub elements_go_on : (w : ℕ) (p : Piece) → w ≡ scalar_wire s → 1 ≤ p.to → payload_in w left ≡ Ok p → element_fault s (place + (at + p.to)) 0 (drop (at + p.to) bytes) ≡ total
    elements_go_on w p q t h =
        let e : place + at + p.to ≡ place + (at + p.to) = omega arith in
        sym (sym told ∙ ap (element_fault s (place + at) 0) (sym is) ∙ element_next s (place + at) left p some_left t (ap (λ (x : ℕ). payload_in x left) (sym q) ∙ h)
        ∙ ap (λ (q : ℕ). element_fault s q 0 (drop p.to left)) e
        ∙ ap (element_fault s (place + (at + p.to)) 0) (ap (drop p.to) is ∙ drop-drop p.to at bytes))

    -- an element that is wrong is the first fault
    pub elements_stop : (w : ℕ) (kind : WireKind) → w ≡ scalar_wire s → payload_in w left ≡ Err kind → total ≡ Some (Wire (place + at) kind)
    elements_stop w kind q h = sym told ∙ ap (element_fault s (place + at) 0) (sym is) ∙ element_stop s (place + at) left kind some_left (ap (λ (x : ℕ). payload_in x left) (sym q) ∙ h)

  -- ---- records

  module _ (check : ℕ → Record → Option Fault) (k place : ℕ) (total : Option Fault) (told : records_fault as_wire check k (place + at) 0 (drop at bytes) ≡ total) where
    -- the first fault goes on behind a record without one
    pub records_go_on : (r : Record) → 1 ≤ r.size → record_in k left ≡ Ok r → check (place + at) r ≡ None → records_fault as_wire check k (place + (at + r.size)) 0 (drop (at + r.size) bytes) ≡ total
    records_go_on r s h g =
        let e : place + at + r.size ≡ place + (at + r.size) = omega arith in
        sym (sym told ∙ ap (records_fault as_wire check k (place + at) 0) (sym is) ∙ fault_next as_wire check k (place + at) left r s h
        ∙ ap (λ (o : Option Fault). option_or o (records_fault as_wire check k (place + at + r.size) 0 (drop r.size left))) g
        ∙ ap (λ (q : ℕ). records_fault as_wire check k q 0 (drop r.size left)) e
        ∙ ap (records_fault as_wire check k (place + (at + r.size)) 0) (ap (drop r.size) is ∙ drop-drop r.size at bytes))

    -- the fault of a record is the first
    pub records_fail : (r : Record) (f : Fault) → 1 ≤ r.size → record_in k left ≡ Ok r → check (place + at) r ≡ Some f → total ≡ Some f
    records_fail r f s h g =
        sym told ∙ ap (records_fault as_wire check k (place + at) 0) (sym is) ∙ fault_next as_wire check k (place + at) left r s h
        ∙ ap (λ (o : Option Fault). option_or o (records_fault as_wire check k (place + at + r.size) 0 (drop r.size left))) g

    -- a record that is wrong is the first fault
    pub records_stop_at : (near : ℕ) (kind : WireKind) → record_in k left ≡ Err (near, kind) → total ≡ Some (Wire (place + at + near) kind)
    records_stop_at near kind h = sym told ∙ ap (records_fault as_wire check k (place + at) 0) (sym is) ∙ fault_stop as_wire check k (place + at) left (near, kind) not_nil h

    -- an answer that is the fault of a record is the first
    pub records_found : (r : Record) (e : DecodeFault) → 1 ≤ r.size → record_in k left ≡ Ok r → Finds (Err e) (check (place + at) r) → Finds (Err e) total
    records_found r (found.Wire w) s h g = records_fail r (Wire w.place w.kind) s h g
    records_found r (found.NotUtf8 p) s h g = records_fail r _ s h g
    records_found r found.NoMemory s h g = g

-- at the end of the elements there is no fault
pub elements_done : (s : Scalar) (place at : ℕ) (bytes : List ℕ) (total : Option Fault) → length bytes ≤ at → element_fault s (place + at) 0 (drop at bytes) ≡ total → total ≡ None
elements_done s place at bytes total le told = sym told ∙ ap (element_fault s (place + at) 0) (drop_all at bytes le)

-- at the end of the records there is no fault
pub records_done : (check : ℕ → Record → Option Fault) (k place at : ℕ) (bytes : List ℕ) (total : Option Fault) → length bytes ≤ at → records_fault as_wire check k (place + at) 0 (drop at bytes) ≡ total → total ≡ None
records_done check k place at bytes total le told = sym told ∙ ap (records_fault as_wire check k (place + at) 0) (drop_all at bytes le)

-- ---- levels

-- with no level left no fault is looked for
pub fault_none : (k : ℕ) (types : Types) (fields : List Field) (place : ℕ) (bytes : List ℕ) → k ≡ 0 → first_fault k types fields place bytes ≡ None
unfolding first_fault
fault_none zero types fields place bytes h = refl
fault_none (suc k) types fields place bytes h = absurd (omega arith)

-- the first fault in so many levels is that of the records with one level less
pub fault_open : (k : ℕ) (types : Types) (fields : List Field) (place : ℕ) (bytes : List ℕ) → (k ≡ 0 → ⊥)
    → first_fault k types fields place bytes ≡ records_fault as_wire (λ at r. field_fault (first_fault (k - 1) types) types (k - 1) (field_in fields r.number) at r) (k - 1) place 0 bytes
unfolding first_fault
fault_open zero types fields place bytes h = absurd (h refl)
fault_open (suc k) types fields place bytes h = let e : suc k - 1 ≡ k = omega arith in rw e refl
