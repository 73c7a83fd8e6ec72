-- Bytes that are whole records.
use Rattle.std.specs.Prelude.{◌≡◌, ◌-◌, ℕ, zero, suc, List, [], ◌∷◌, Result, Ok, Err}
use Rattle.wire_records.specs.WireRecord.{Record, record_in}
use Rattle.wire_records.specs.declared.fault.WireKind.{WireKind}

-- a whole record, and what holds behind it
abbrev pub AndWhole : Result Record (ℕ × WireKind) → (ℕ → Type 0) → Type 0
AndWhole (Ok r) Go = Go (r.size - 1)
AndWhole (Err e) Go = ⊥

-- the bytes behind `skip` of them are whole records
abbrev pub AreWhole : ℕ → ℕ → List ℕ → Type 0
AreWhole k skip [] = skip ≡ 0
AreWhole k (suc skip) (b ∷ bs) = AreWhole k skip bs
AreWhole k zero (b ∷ bs) = AndWhole (record_in k (b ∷ bs)) (λ skip. AreWhole k skip bs)
