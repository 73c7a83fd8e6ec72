-- A value as a finite map from field numbers to slots: a list of both, by rising number.
use Rattle.std.specs.Prelude.{◌<◌, ◌==◌, ℕ, List, [], ◌∷◌, Option, Some, None, if◌then◌else◌, nat_lt}
use Rattle.schema.specs.declared.value.Slot.{Slot}
use Rattle.schema.specs.declared.value.Value.{Value}

-- the field numbers of a value with their slots, in order
abbrev pub slots_of : Value → List (ℕ × Slot)
slots_of v = v.fields

-- the slot that a list of numbers and slots has at a number: the first with it
abbrev pub slot_in : List (ℕ × Slot) → ℕ → Option Slot
slot_in [] n = None
slot_in (e ∷ es) n = if e.0 == n then Some e.1 else slot_in es n

-- the slot that a value has at a number
abbrev pub slot_at : Value → ℕ → Option Slot
slot_at v n = slot_in (slots_of v) n

-- the numbers rise, and the first is above `low`
abbrev pub RiseFrom : ℕ → List (ℕ × Slot) → Type 0
RiseFrom low [] = Unit {0}
RiseFrom low (e ∷ es) = (low < e.0) × RiseFrom e.0 es

-- the list with one slot replaced, or put where its number belongs
abbrev pub with_slot : List (ℕ × Slot) → ℕ → Slot → List (ℕ × Slot)
with_slot [] n s = (n, s) ∷ []
with_slot (e ∷ es) n s = if nat_lt e.0 n then e ∷ with_slot es n s else (if e.0 == n then (n, s) ∷ es else (n, s) ∷ e ∷ es)

-- the list without the first slot of a number
abbrev pub without_slot : List (ℕ × Slot) → ℕ → List (ℕ × Slot)
without_slot [] n = []
without_slot (e ∷ es) n = if e.0 == n then es else e ∷ without_slot es n
