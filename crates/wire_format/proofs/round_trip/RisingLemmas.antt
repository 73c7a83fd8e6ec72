-- Slots by rising number are what they have at each number.
use Rattle.std.proofs.Common.{◌≡◌, ◌<◌, ◌==◌, ℕ, Bool, true, false, List, [], ◌∷◌, cond, Option, Some, None, refl, ap, ap₂, sym, ◌∙◌, is_some, nat_lt}
use Rattle.std.specs.List.{AllByRecursion}
use Rattle.std.proofs.lemmas.Bool.{eqb-true}
use Rattle.message_types.specs.Types.{field_in}
use Rattle.schema.specs.Value.{slot_in, RiseFrom, with_slot}
use Rattle.message_types.specs.declared.fields.Field.{Field}
use Rattle.schema.specs.declared.value.Slot.{Slot}
use Rattle.schema.proofs.Theorems.{slot_in-with_slot, RiseFrom-with_slot}
use Rattle.wire_format.specs.FieldValues.{with_some, gather}

-- ---- the slots of fields

some_rise : (es : List (ℕ × Slot)) (n : ℕ) (o : Option Slot) → 0 < n → RiseFrom 0 es → RiseFrom 0 (with_some es n o)
some_rise es n None l h = h
some_rise es n (Some s) l h = RiseFrom-with_slot es 0 n s l h

-- what is gathered rises from 1
pub gather_rises : (slot : ℕ → Option Slot) (fs : List Field) → AllByRecursion (λ (f : Field). 0 < f.number) fs → RiseFrom 0 (gather slot fs)
gather_rises slot [] h = tt
gather_rises slot (f ∷ fs) h = some_rise (gather slot fs) f.number (slot f.number) h.0 (gather_rises slot fs h.1)

gather_step : (slot : ℕ → Option Slot) (f : Field) (es : List (ℕ × Slot)) (q : ℕ) (o : Option Slot) (g : Option Field) (b : Bool) → (b ≡ true → f.number ≡ q) → (f.number == q) ≡ b → slot f.number ≡ o → slot_in es q ≡ cond (is_some g) (slot q) None
    → slot_in (with_some es f.number o) q ≡ cond (is_some (cond b (Some f) g)) (slot q) None
gather_step slot f es q None None true p t e k = k ∙ sym (ap slot (sym (p refl)) ∙ e)
gather_step slot f es q None (Some g) true p t e k = k
gather_step slot f es q None g false p t e k = k
gather_step slot f es q (Some s) g true p t e k = slot_in-with_slot es f.number s q ∙ rw t (sym e ∙ ap slot (p refl))
gather_step slot f es q (Some s) g false p t e k = slot_in-with_slot es f.number s q ∙ rw t k

-- at the number of a field it has the field's slot
pub slot_in_gather : (slot : ℕ → Option Slot) (fs : List Field) (q : ℕ) → slot_in (gather slot fs) q ≡ cond (is_some (field_in fs q)) (slot q) None
slot_in_gather slot [] q = refl
slot_in_gather slot (f ∷ fs) q = gather_step slot f (gather slot fs) q (slot f.number) (field_in fs q) (f.number == q) (eqb-true f.number q) refl refl (slot_in_gather slot fs q)

with_all : (P : ℕ × Slot → Type 0) (es : List (ℕ × Slot)) (n : ℕ) (s : Slot) → AllByRecursion P es → P (n, s) → AllByRecursion P (with_slot es n s)
with_all P [] n s h g = (g, tt)
with_all P (e ∷ es) n s h g = by (nat_lt e.0 n) (e.0 == n) (with_all P es n s h.1 g)
  where
    by : (b c : Bool) → AllByRecursion P (with_slot es n s) → AllByRecursion P (cond b (e ∷ with_slot es n s) (cond c ((n, s) ∷ es) ((n, s) ∷ e ∷ es)))
    by true c i = (h.0, i)
    by false true i = (g, h.1)
    by false false i = (g, (h.0, h.1))

-- what holds of each slot holds of all that are gathered
pub gather_all : (P : ℕ × Slot → Type 0) (slot : ℕ → Option Slot) (fs : List Field) → ((n : ℕ) (s : Slot) → slot n ≡ Some s → P (n, s)) → AllByRecursion P (gather slot fs)
gather_all P slot [] h = tt
gather_all P slot (f ∷ fs) h = by (slot f.number) refl (gather_all P slot fs h)
  where
    by : (o : Option Slot) → slot f.number ≡ o → AllByRecursion P (gather slot fs) → AllByRecursion P (with_some (gather slot fs) f.number o)
    by None e i = i
    by (Some s) e i = with_all P (gather slot fs) f.number s i (h f.number s e)

-- slots that are the same at each number
pub gather_same : (s t : ℕ → Option Slot) (fs : List Field) → ((q : ℕ) → s q ≡ t q) → gather s fs ≡ gather t fs
gather_same s t [] h = refl
gather_same s t (f ∷ fs) h = ap₂ (λ (es : List (ℕ × Slot)) (o : Option Slot). with_some es f.number o) (gather_same s t fs h) (h f.number)
