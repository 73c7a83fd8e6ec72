-- Places among the entries of a map.
use Rattle.std.proofs.Common.{◌≡◌, ◌<◌, ◌≤◌, ℕ, Bool, true, false, List, [], ◌∷◌, cond, length, Result, Ok, Err, arith, refl, ap, add-one, subst, sym}
use Rattle.std.specs.Prelude.{slice_set, insert}
use Rattle.schema.specs.declared.key.Key.{Key}
use Rattle.schema.specs.declared.value.Item.{Item}
use Rattle.schema.specs.Pairs.{with_item}
use Rattle.schema.specs.SlotSearch.{key_search_in, shifted}

-- an index, with what a write there gives
abbrev pub IsIndexOf : List (Key × Item) → Key × Item → List (Key × Item) → Result ℕ ℕ → Type 0
IsIndexOf es e after (Ok i) = (i < length es) × (slice_set es i e ≡ after)
IsIndexOf es e after (Err i) = (i ≤ length es) × (insert es i e ≡ after)

search_step : (e f : Key × Item) (es after : List (Key × Item)) (b c : Bool) (r : Result ℕ ℕ) → IsIndexOf es f after r → IsIndexOf (e ∷ es) f (cond b (e ∷ after) (cond c (f ∷ es) (f ∷ e ∷ es))) (cond b (shifted r) (cond c (Ok 0) (Err 0)))
search_step e f es after true c (Ok i) h = (omega arith, rw add-one (ap (λ xs. e ∷ xs) h.1))
search_step e f es after true c (Err i) h = (omega arith, rw add-one (ap (λ xs. e ∷ xs) h.1))
search_step e f es after false true r h = (omega arith, refl)
search_step e f es after false false r h = (omega arith, refl)

-- the index of a key is where the list with its item differs
pub search_is : (es : List (Key × Item)) (k : Key) (i : Item) → IsIndexOf es (k, i) (with_item es k i) (key_search_in es k)
search_is [] k i = (omega arith, refl)
search_is (e ∷ es) k i = search_step e (k, i) es (with_item es k i) _ _ (key_search_in es k) (search_is es k i)

at_index : (es : List (Key × Item)) (k : Key) (i : Item) (r : Result ℕ ℕ) → r ≡ key_search_in es k → IsIndexOf es (k, i) (with_item es k i) r
at_index es k i r h = subst (IsIndexOf es (k, i) (with_item es k i)) (sym h) (search_is es k i)

-- the index of a key that is found is within the list
pub found_below : (es : List (Key × Item)) (k : Key) (n : ℕ) (i : Item) → Ok n ≡ key_search_in es k → n < length es
found_below es k n i h = (at_index es k i (Ok n) h).0

-- to replace the entry at the index of a key is to put it under that key
pub found_set : (es : List (Key × Item)) (k : Key) (n : ℕ) (i : Item) → Ok n ≡ key_search_in es k → slice_set es n (k, i) ≡ with_item es k i
found_set es k n i h = (at_index es k i (Ok n) h).1

-- the index at which a key belongs is within the list or its end
pub gap_within : (es : List (Key × Item)) (k : Key) (n : ℕ) (i : Item) → Err n ≡ key_search_in es k → n ≤ length es
gap_within es k n i h = (at_index es k i (Err n) h).0

-- to insert an entry where its key belongs is to put it under that key
pub gap_insert : (es : List (Key × Item)) (k : Key) (n : ℕ) (i : Item) → Err n ≡ key_search_in es k → insert es n (k, i) ≡ with_item es k i
gap_insert es k n i h = (at_index es k i (Err n) h).1
