-- Records, collected one after another.
use Rattle.std.proofs.Common.{◌≡◌, ◌+◌, ◌≤◌, ℕ, List, [], ◌∷◌, ◌++◌, length, drop, Ok, Err, ap, sym, ◌∙◌, append_assoc, append-nil}
use Rattle.std.proofs.lemmas.List.{drop-drop, drop_all}
use Rattle.wire_records.specs.RecordSteps.{records_begin, records_stop}
use Rattle.wire_records.specs.WireRecord.{Record, record_in, records}
use Rattle.wire_records.specs.declared.fault.WireKind.{WireKind}

module _ (k : ℕ) (bytes : List ℕ) (at : ℕ) (left : List ℕ) (is : left ≡ drop at bytes) (rs : List Record) (total : List Record) (told : rs ++ records k 0 (drop at bytes) ≡ total) where
  -- one record more is collected
  pub collect_more : (r : Record) (after : List Record) → 1 ≤ r.size → record_in k left ≡ Ok r → after ≡ rs ++ r ∷ [] → after ++ records k 0 (drop (at + r.size) bytes) ≡ total
  collect_more r after s h e =
      let begun : records k 0 (drop at bytes) ≡ r ∷ records k 0 (drop (at + r.size) bytes) =
      ap (records k 0) (sym is) ∙ records_begin k left r s h ∙ ap (λ (bs : List ℕ). r ∷ records k 0 bs) (ap (drop r.size) is ∙ drop-drop r.size at bytes) in
      ap (λ (x : List Record). x ++ records k 0 (drop (at + r.size) bytes)) e ∙ append_assoc rs (r ∷ []) (records k 0 (drop (at + r.size) bytes)) ∙ ap (λ (x : List Record). rs ++ x) (sym begun) ∙ told

  -- no record is left where one is wrong
  pub collect_stop : (e : ℕ × WireKind) → record_in k left ≡ Err e → rs ≡ total
  collect_stop e h = sym (append-nil rs) ∙ ap (λ (x : List Record). rs ++ x) (sym (ap (records k 0) (sym is) ∙ records_stop k left e h)) ∙ told

-- at the end of the bytes all records are collected
pub collect_done : (k : ℕ) (bytes : List ℕ) (at : ℕ) (rs : List Record) (total : List Record) → length bytes ≤ at → rs ++ records k 0 (drop at bytes) ≡ total → rs ≡ total
collect_done k bytes at rs total le told = sym (append-nil rs) ∙ ap (λ (x : List Record). rs ++ x) (sym (ap (records k 0) (drop_all at bytes le))) ∙ told
