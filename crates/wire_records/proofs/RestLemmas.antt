-- A group, record by record.
use Rattle.std.proofs.Common.{◌≡◌, ◌+◌, ◌-◌, ◌≤◌, ◌<◌, ℕ, zero, suc, List, length, drop, Some, None, Result, Ok, Err, arith, refl, ap, sym, ◌∙◌, length-drop}
use Rattle.std.proofs.lemmas.List.{drop-drop, drop_all}
use Rattle.wire_records.specs.declared.fault.WireKind.TheVariants.{TooDeep}
use Rattle.wire_records.specs.WireRecord.{Record, Stop, onward, group_rest, end_of, tag_in, record_with, group_in}
use Rattle.wire_records.proofs.SkipLemmas.{rest_next, rest_stop, rest_end, onward_twice}

-- no group is read where no level is left
pub group_none : (k len n : ℕ) (rest : List ℕ) → k ≡ 0 → group_in k len n rest ≡ Err (Some (0, TooDeep))
unfolding group_in
group_none zero len n rest h = refl
group_none (suc k) len n rest h = absurd (omega arith)

-- a group in so many levels is read record by record, with one level less
pub group_open : (k len n : ℕ) (rest : List ℕ) → (k ≡ 0 → ⊥) → group_in k len n rest ≡ onward len (group_rest (group_in (k - 1)) n 0 rest)
unfolding group_in
group_open zero len n rest h = absurd (h refl)
group_open (suc k) len n rest h = let e : suc k - 1 ≡ k = omega arith in rw e refl

module _ (inner : ℕ → ℕ → List ℕ → Result ℕ Stop) (n : ℕ) (rest : List ℕ) (total : Result ℕ Stop) (at : ℕ) (lt : at < length rest) (told : onward at (group_rest inner n 0 (drop at rest)) ≡ total)
    (left : List ℕ) (is : left ≡ drop at rest) where
  some_left : 0 < length left
  some_left = rw is (omega (arith, length-drop at rest))

  told_left : onward at (group_rest inner n 0 left) ≡ total
  told_left = rw is told

  -- a group ends where its end stands
  pub group_ends : (len : ℕ) → Some len ≡ end_of n (tag_in left) → total ≡ Ok (at + len)
  group_ends len h = sym told_left ∙ ap (onward at) (rest_end inner n left len some_left (sym h))

  -- a group stops where a record in it is wrong
  pub group_stops : (stop : Stop) → None ≡ end_of n (tag_in left) → record_with inner left ≡ Err stop → total ≡ onward at (Err stop)
  group_stops stop h g = sym told_left ∙ ap (onward at) (rest_stop inner n left stop some_left (sym h) g)

  -- a group goes on behind a record
  pub group_goes_on : (r : Record) → 1 ≤ r.size → None ≡ end_of n (tag_in left) → record_with inner left ≡ Ok r
      → onward (at + r.size) (group_rest inner n 0 (drop (at + r.size) rest)) ≡ total
  group_goes_on r s h g =
      sym (sym told_left ∙ ap (onward at) (rest_next inner n left r some_left s (sym h) g)
      ∙ onward_twice at r.size (at + r.size) (group_rest inner n 0 (drop r.size left)) refl
      ∙ ap (λ (bs : List ℕ). onward (at + r.size) (group_rest inner n 0 bs)) (ap (drop r.size) is ∙ drop-drop r.size at rest))

-- a group with no end has none
pub group_done : (inner : ℕ → ℕ → List ℕ → Result ℕ Stop) (n : ℕ) (rest : List ℕ) (total : Result ℕ Stop) (at : ℕ) → length rest ≤ at → onward at (group_rest inner n 0 (drop at rest)) ≡ total → total ≡ Err None
group_done inner n rest total at le told = sym told ∙ ap (λ (bs : List ℕ). onward at (group_rest inner n 0 bs)) (drop_all at rest le)

-- sums of three are alike however they are taken
pub add_twice : (a b c : ℕ) → a + b + c ≡ a + (b + c)
add_twice a b c = omega arith
