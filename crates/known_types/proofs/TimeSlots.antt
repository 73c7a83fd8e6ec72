-- The fields of a time, and the slots that a valid message of one has.
use Rattle.std.proofs.Common.{◌≡◌, ◌∙◌, ◌⊎◌, ◌<◌, ◌++◌, inl, inr, sym, ap, ap₂, subst, refl, arith, cond, ℕ, zero, suc, Bool, true, false, List, [], ◌∷◌, length, Option, Some, None}
use Rattle.std.specs.Prelude.{◌==◌, ℤ, pos}
use Rattle.std.specs.List.{AllByRecursion}
use Rattle.std.specs.Ordering.{int_eq}
use Rattle.std.proofs.lemmas.Bool.{eqb-true}
use Rattle.known_types.specs.KnownTexts.{number_as_slot, number_of_item, number_in_slot, number_of_slot, number_slot}
use Rattle.message_types.specs.Types.{field_in}
use Rattle.message_types.specs.declared.fields.Field.{Field}
use Rattle.message_types.specs.declared.fields.Scalar.{Scalar}
use Rattle.message_types.specs.declared.fields.Scalar.TheVariants.{Int32, Int64}
use Rattle.message_types.specs.declared.fields.Shape.TheVariants.{Single}
use Rattle.schema.specs.Layers.{ItemLayer, SlotLayer}
use Rattle.schema.specs.Soundness.{HasSecondsAndNanos, IsKnownField}
use Rattle.schema.specs.Validity.{Inner, IsFieldSlot, IsInt32, IsInt64, IsItem, IsScalarItem, IsSlot, IsStored, is_default}
use Rattle.schema.specs.Value.{RiseFrom, slot_in}
use Rattle.schema.specs.declared.value.Item.TheOpen.{Number, Truth, Text, Bytes, Message, One, Many, Pairs as Entries}
use Rattle.schema.specs.declared.value.Item.{Item, out-Item, roll-Item, out-roll-Item, roll-out-Item}
use Rattle.schema.specs.declared.value.Slot.{Slot, out-Slot, roll-Slot, out-roll-Slot, roll-out-Slot}

-- a slot holds a number that is not 0
pub record HoldsNumber (s : Slot) : Type 0 where
  pub number : ℤ
  pub is : s ≡ number_as_slot number
  pub nonzero : int_eq number (pos 0) ≡ false

-- an item of a scalar kind with numbers alone is one
abbrev pub IsNumeric : Scalar → Type 0
IsNumeric s = (i : ItemLayer) → IsScalarItem s i → (z : ℤ) × (i ≡ Number z)

-- each item of an int64 field is one
pub numeric_64 : IsNumeric Int64
numeric_64 (Number z) h = (z, refl)
numeric_64 (Truth b) h = absurd h
numeric_64 (Text t) h = absurd h
numeric_64 (Bytes b) h = absurd h
numeric_64 (Message v) h = absurd h

-- and each of an int32 field
pub numeric_32 : IsNumeric Int32
numeric_32 (Number z) h = (z, refl)
numeric_32 (Truth b) h = absurd h
numeric_32 (Text t) h = absurd h
numeric_32 (Bytes b) h = absurd h
numeric_32 (Message v) h = absurd h

-- the slot of a number field holds one
number_held : (inner : Inner) (o : Option Field) (name : List ℕ) (k : Scalar) (s : Slot) → IsNumeric k
    → IsKnownField o name k Single → IsFieldSlot inner o s → HoldsNumber s
number_held inner None name k s numeric known fits = absurd known
number_held inner (Some f) name k s numeric known fits =
    by (out-Slot s) refl (subst (λ x. IsSlot inner f x (out-Slot s)) known.1.1 fits)
  where
    by : (l : SlotLayer) → out-Slot s ≡ l → IsSlot inner f Single l → HoldsNumber s
    by (One i) e w =
        let n = numeric (out-Item i) (subst (λ x. IsItem inner x (out-Item i)) known.1.0 w.0) in
        let stored : is_default (out-Item i) ≡ false = subst (λ p. IsStored p (out-Item i)) known.1.2 w.1 in
        let item : i ≡ roll-Item (Number n.0) = sym (roll-out-Item i) ∙ ap roll-Item n.1 in
        record {
          number = n.0;
          is = sym (roll-out-Slot s) ∙ ap roll-Slot (e ∙ ap (λ (j : Item). One j) item);
          nonzero = ap is_default (sym n.1) ∙ stored;
        }
    by (Many is) e w = absurd w
    by (Entries p) e w = absurd w

-- one of two fields has the number
in_two : (x y f : Field) (n : ℕ) → field_in (x ∷ y ∷ []) n ≡ Some f → (x.number ≡ n) ⊎ (y.number ≡ n)
in_two x y f n e = pick (x.number == n) (y.number == n) refl refl e
  where
    pick : (a b : Bool) → (x.number == n) ≡ a → (y.number == n) ≡ b → cond a (Some x) (cond b (Some y) None) ≡ Some f
        → (x.number ≡ n) ⊎ (y.number ≡ n)
    pick true b p q e = inl (eqb-true x.number n p)
    pick false true p q e = inr (eqb-true y.number n q)
    pick false false p q e = absurd cc

-- where two fields have the numbers 1 and 2, no field has another
one_or_two : (x y n : ℕ) → (x ≡ 1) ⊎ (y ≡ 1) → (x ≡ 2) ⊎ (y ≡ 2) → (x ≡ n) ⊎ (y ≡ n) → (n ≡ 1) ⊎ (n ≡ 2)
one_or_two x y n (inl a) (inl b) c = absurd (omega (arith, a, b))
one_or_two x y n (inr a) (inr b) c = absurd (omega (arith, a, b))
one_or_two x y n (inl a) (inr b) (inl c) = inl (omega (arith, a, c))
one_or_two x y n (inl a) (inr b) (inr c) = inr (omega (arith, b, c))
one_or_two x y n (inr a) (inl b) (inl c) = inr (omega (arith, b, c))
one_or_two x y n (inr a) (inl b) (inr c) = inl (omega (arith, a, c))

number_of_time : (fs : List Field) (f g h : Field) (n : ℕ) → length fs ≡ 2 → field_in fs 1 ≡ Some f
    → field_in fs 2 ≡ Some g → field_in fs n ≡ Some h → (n ≡ 1) ⊎ (n ≡ 2)
number_of_time [] f g h n len a b c = absurd cc
number_of_time (x ∷ []) f g h n len a b c = absurd (omega (arith, len))
number_of_time (x ∷ y ∷ []) f g h n len a b c =
    one_or_two x.number y.number n (in_two x y f 1 a) (in_two x y g 2 b) (in_two x y h n c)
number_of_time (x ∷ y ∷ z ∷ fs) f g h n len a b c = absurd (omega (arith, len))

-- a slot of a time is of field 1 or 2, and holds a number
abbrev pub IsTimeSlot : ℕ × Slot → Type 0
IsTimeSlot e = ((e.0 ≡ 1) ⊎ (e.0 ≡ 2)) × HoldsNumber e.1

module _ (inner : Inner) (fs : List Field) (known : HasSecondsAndNanos fs) where
  found : (o : Option Field) (name : List ℕ) (k : Scalar) → IsKnownField o name k Single
      → (f : Field) × (o ≡ Some f)
  found None name k h = absurd h
  found (Some f) name k h = (f, refl)

  pub time_slot : (e : ℕ × Slot) → IsFieldSlot inner (field_in fs e.0) e.1 → IsTimeSlot e
  time_slot e fits = by_field (field_in fs e.0) refl fits
    where
      at : (e.0 ≡ 1) ⊎ (e.0 ≡ 2) → HoldsNumber e.1
      at (inl p) =
          number_held inner (field_in fs 1) _ Int64 e.1 numeric_64 known.1
          (subst (λ n. IsFieldSlot inner (field_in fs n) e.1) p fits)
      at (inr p) =
          number_held inner (field_in fs 2) _ Int32 e.1 numeric_32 known.2
          (subst (λ n. IsFieldSlot inner (field_in fs n) e.1) p fits)

      by_field : (o : Option Field) → field_in fs e.0 ≡ o → IsFieldSlot inner o e.1 → IsTimeSlot e
      by_field None q w = absurd w
      by_field (Some h) q w =
          let f = found (field_in fs 1) _ Int64 known.1 in
          let g = found (field_in fs 2) _ Int32 known.2 in
          let n = number_of_time fs f.0 g.0 h e.0 known.0 f.1 g.1 q in
          (n, at n)

-- the number that a slot was made of
pub number_back : (z : ℤ) → number_of_slot (Some (number_as_slot z)) ≡ z
number_back z =
    ap number_in_slot (out-roll-Slot (One (roll-Item (Number z)))) ∙ ap number_of_item (out-roll-Item (Number z))

-- the slot of a number that is not 0
pub number_slot_some : (n : ℕ) (z : ℤ) → int_eq z (pos 0) ≡ false → number_slot n z ≡ (n, number_as_slot z) ∷ []
number_slot_some n z h = ap (λ b. cond b [] ((n, number_as_slot z) ∷ [])) h

-- the slots that the numbers of slots make
abbrev pub made_slots : List (ℕ × Slot) → List (ℕ × Slot)
made_slots es = number_slot 1 (number_of_slot (slot_in es 1)) ++ number_slot 2 (number_of_slot (slot_in es 2))

one_first : (a : ℤ) → int_eq a (pos 0) ≡ false → (1, number_as_slot a) ∷ [] ≡ made_slots ((1, number_as_slot a) ∷ [])
one_first a h =
    sym (ap (λ x. number_slot 1 x ++ []) (number_back a) ∙ ap (λ xs. xs ++ []) (number_slot_some 1 a h))

one_second : (b : ℤ) → int_eq b (pos 0) ≡ false → (2, number_as_slot b) ∷ [] ≡ made_slots ((2, number_as_slot b) ∷ [])
one_second b h = sym (ap (λ x. number_slot 2 x) (number_back b) ∙ number_slot_some 2 b h)

both : (a b : ℤ) → int_eq a (pos 0) ≡ false → int_eq b (pos 0) ≡ false
    → (1, number_as_slot a) ∷ (2, number_as_slot b) ∷ []
    ≡ made_slots ((1, number_as_slot a) ∷ (2, number_as_slot b) ∷ [])
both a b h k =
    sym (ap₂ (λ x y. number_slot 1 x ++ number_slot 2 y) (number_back a) (number_back b)
    ∙ ap₂ (λ xs ys. xs ++ ys) (number_slot_some 1 a h) (number_slot_some 2 b k))

-- a slot of a time, as it was made
entry_is : (e : ℕ × Slot) (n : ℕ) → e.0 ≡ n → (h : HoldsNumber e.1) → e ≡ (n, number_as_slot h.number)
entry_is e n p h = ap₂ (λ (x : ℕ) (y : Slot). (x, y)) p h.is

-- there are two such slots at most
too_many : (x y z : ℕ) → (x ≡ 1) ⊎ (x ≡ 2) → (y ≡ 1) ⊎ (y ≡ 2) → (z ≡ 1) ⊎ (z ≡ 2) → x < y → y < z → ⊥
too_many x y z p q r low high = grind arith

-- the slots of a time are made of its numbers
pub time_slots : (es : List (ℕ × Slot)) → RiseFrom 0 es → AllByRecursion IsTimeSlot es → es ≡ made_slots es
time_slots [] rise all = refl
time_slots (e ∷ []) rise all = by all.0.0
  where
    by : (e.0 ≡ 1) ⊎ (e.0 ≡ 2) → e ∷ [] ≡ made_slots (e ∷ [])
    by (inl p) =
        let is = entry_is e 1 p all.0.1 in
        subst (λ (x : ℕ × Slot). x ∷ [] ≡ made_slots (x ∷ [])) (sym is)
        (one_first all.0.1.number all.0.1.nonzero)
    by (inr p) =
        let is = entry_is e 2 p all.0.1 in
        subst (λ (x : ℕ × Slot). x ∷ [] ≡ made_slots (x ∷ [])) (sym is)
        (one_second all.0.1.number all.0.1.nonzero)
time_slots (e ∷ d ∷ []) rise all = by all.0.0 all.1.0.0
  where
    by : (e.0 ≡ 1) ⊎ (e.0 ≡ 2) → (d.0 ≡ 1) ⊎ (d.0 ≡ 2) → e ∷ d ∷ [] ≡ made_slots (e ∷ d ∷ [])
    by (inl p) (inr q) =
        let first = entry_is e 1 p all.0.1 in
        let second = entry_is d 2 q all.1.0.1 in
        subst (λ (x : ℕ × Slot). x ∷ d ∷ [] ≡ made_slots (x ∷ d ∷ [])) (sym first)
        (subst
        (λ (y : ℕ × Slot). (1, number_as_slot all.0.1.number) ∷ y ∷ []
        ≡ made_slots ((1, number_as_slot all.0.1.number) ∷ y ∷ [])) (sym second)
        (both all.0.1.number all.1.0.1.number all.0.1.nonzero all.1.0.1.nonzero))
    by (inl p) (inl q) = let less = rise.1.0 in absurd (omega (arith, p, q, less))
    by (inr p) (inl q) = let less = rise.1.0 in absurd (omega (arith, p, q, less))
    by (inr p) (inr q) = let less = rise.1.0 in absurd (omega (arith, p, q, less))
time_slots (e ∷ d ∷ c ∷ es) rise all = by all.0.0 all.1.0.0 all.1.1.0.0
  where
    by : (e.0 ≡ 1) ⊎ (e.0 ≡ 2) → (d.0 ≡ 1) ⊎ (d.0 ≡ 2) → (c.0 ≡ 1) ⊎ (c.0 ≡ 2)
        → e ∷ d ∷ c ∷ es ≡ made_slots (e ∷ d ∷ c ∷ es)
    by p q r =
        let low = rise.1.0 in
        let high = rise.1.1.0 in
        absurd (too_many e.0 d.0 c.0 p q r low high)
