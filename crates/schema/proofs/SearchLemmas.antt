-- Places among the entries of a value.
use Rattle.std.proofs.Common.{◌≡◌, ◌<◌, ◌≤◌, ◌+◌, ℕ, Bool, true, false, List, [], ◌∷◌, cond, length, Option, Some, None, Result, Ok, Err, arith, refl, ap, add-one, subst, sym}
use Rattle.std.specs.Prelude.{slice_set, insert, remove, slice_get, option_map}
use Rattle.schema.specs.declared.value.Slot.{Slot}
use Rattle.schema.specs.Value.{with_slot, without_slot, slot_in}
use Rattle.schema.specs.SlotSearch.{search_in, shifted, first_in}

-- an index, with what a write there gives
abbrev pub IsIndexOf : List (ℕ × Slot) → ℕ × Slot → List (ℕ × Slot) → Result ℕ ℕ → Type 0
IsIndexOf es e after (Ok i) = (i < length es) × (slice_set es i e ≡ after)
IsIndexOf es e after (Err i) = (i ≤ length es) × (insert es i e ≡ after)

search_step : (e : ℕ × Slot) (es : List (ℕ × Slot)) (n : ℕ) (s : Slot) (after : List (ℕ × Slot)) (b c : Bool) (r : Result ℕ ℕ) → IsIndexOf es (n, s) after r → IsIndexOf (e ∷ es) (n, s) (cond b (e ∷ after) (cond c ((n, s) ∷ es) ((n, s) ∷ e ∷ es))) (cond b (shifted r) (cond c (Ok 0) (Err 0)))
search_step e es n s after true c (Ok i) h = (omega arith, rw add-one (ap (λ xs. e ∷ xs) h.1))
search_step e es n s after true c (Err i) h = (omega arith, rw add-one (ap (λ xs. e ∷ xs) h.1))
search_step e es n s after false true r h = (omega arith, refl)
search_step e es n s after false false r h = (omega arith, refl)

-- the index of a number, or that at which it belongs, is where the list with its slot differs
pub search_is : (es : List (ℕ × Slot)) (n : ℕ) (s : Slot) → IsIndexOf es (n, s) (with_slot es n s) (search_in es n)
search_is [] n s = (omega arith, refl)
search_is (e ∷ es) n s = search_step e es n s (with_slot es n s) _ _ (search_in es n) (search_is es n s)

-- an index at which the first slot of a number stands, or none where it has none
abbrev pub IsPosition : List (ℕ × Slot) → Option Slot → List (ℕ × Slot) → Option ℕ → Type 0
IsPosition es s after (Some i) = (i < length es) × (option_map (λ (e : ℕ × Slot). e.1) (slice_get es i) ≡ s) × (remove es i ≡ after)
IsPosition es s after None = (s ≡ None) × (after ≡ es)

position_step : (e : ℕ × Slot) (es : List (ℕ × Slot)) (s : Option Slot) (after : List (ℕ × Slot)) (b : Bool) (r : Option ℕ) → IsPosition es s after r → IsPosition (e ∷ es) (cond b (Some e.1) s) (cond b es (e ∷ after)) (cond b (Some 0) (option_map (λ i. i + 1) r))
position_step e es s after true r h = (omega arith, refl, refl)
position_step e es s after false (Some i) h = (omega arith, rw add-one h.1, rw add-one (ap (λ xs. e ∷ xs) h.2))
position_step e es s after false None h = (h.0, ap (λ xs. e ∷ xs) h.1)

-- the index of the first slot of a number is where it stands
pub position_is : (es : List (ℕ × Slot)) (n : ℕ) → IsPosition es (slot_in es n) (without_slot es n) (first_in es n)
position_is [] n = (refl, refl)
position_is (e ∷ es) n = position_step e es (slot_in es n) (without_slot es n) _ (first_in es n) (position_is es n)

at_index : (es : List (ℕ × Slot)) (n : ℕ) (s : Slot) (r : Result ℕ ℕ) → r ≡ search_in es n → IsIndexOf es (n, s) (with_slot es n s) r
at_index es n s r h = subst (IsIndexOf es (n, s) (with_slot es n s)) (sym h) (search_is es n s)

-- the index of a number that is found is within the list
pub found_below : (es : List (ℕ × Slot)) (n i : ℕ) (s : Slot) → Ok i ≡ search_in es n → i < length es
found_below es n i s h = (at_index es n s (Ok i) h).0

-- to replace the entry at the index of a number is to put it under that number
pub found_set : (es : List (ℕ × Slot)) (n i : ℕ) (s : Slot) → Ok i ≡ search_in es n → slice_set es i (n, s) ≡ with_slot es n s
found_set es n i s h = (at_index es n s (Ok i) h).1

-- the index at which a number belongs is within the list or its end
pub gap_within : (es : List (ℕ × Slot)) (n i : ℕ) (s : Slot) → Err i ≡ search_in es n → i ≤ length es
gap_within es n i s h = (at_index es n s (Err i) h).0

-- to insert an entry where its number belongs is to put it under that number
pub gap_insert : (es : List (ℕ × Slot)) (n i : ℕ) (s : Slot) → Err i ≡ search_in es n → insert es i (n, s) ≡ with_slot es n s
gap_insert es n i s h = (at_index es n s (Err i) h).1

at_position : (es : List (ℕ × Slot)) (n : ℕ) (r : Option ℕ) → r ≡ first_in es n → IsPosition es (slot_in es n) (without_slot es n) r
at_position es n r h = subst (IsPosition es (slot_in es n) (without_slot es n)) (sym h) (position_is es n)

-- to remove the entry at the index of a number is to remove its slot
pub first_remove : (es : List (ℕ × Slot)) (n i : ℕ) → Some i ≡ first_in es n → remove es i ≡ without_slot es n
first_remove es n i h = (at_position es n (Some i) h).2
