-- Messages of moments: what is found in them again, and that they are valid.
use Rattle.std.proofs.Common.{◌≡◌, ◌∙◌, ◌<◌, ◌++◌, sym, ap, ap₂, subst, refl, arith, lit<, cond, ℕ, zero, suc, Bool, true, false, List, [], ◌∷◌, length, Option, Some, None}
use Rattle.std.specs.Prelude.{ℤ, pos, codes, nat_eq}
use Rattle.std.specs.List.{AllByRecursion, cons_option, filter_map}
use Rattle.std.specs.Ordering.{int_eq}
use Rattle.std.proofs.lemmas.Bool.Decides.{Decides-int_eq}
use Rattle.known_types.specs.KnownTexts.{moment_of, moment_value, number_as_slot, number_of_slot, number_slot}
use Rattle.known_types.proofs.TimeSlots.{IsTimeSlot, made_slots, number_back, time_slot, time_slots}
use Rattle.message_types.specs.Types.{field_in, fields_of}
use Rattle.message_types.specs.declared.fields.Field.{Field}
use Rattle.message_types.specs.declared.fields.Scalar.{Scalar}
use Rattle.message_types.specs.declared.fields.Scalar.TheVariants.{Int32, Int64}
use Rattle.message_types.specs.declared.fields.Shape.{Shape}
use Rattle.message_types.specs.declared.fields.Shape.TheVariants.{Single}
use Rattle.message_types.specs.declared.messages.TypeId.{TypeId}
use Rattle.message_types.specs.declared.messages.Types.{Types}
use Rattle.schema.specs.Apart.{AreApart}
use Rattle.schema.specs.Soundness.{HasSecondsAndNanos, IsKnownField}
use Rattle.schema.specs.Validity.{AreFieldSlots, Inner, IsFieldSlot, IsInt32, IsInt64, IsItem, IsMessage, IsScalarItem, IsSlot, IsStored, oneof_of, oneofs_in, valid_within}
use Rattle.schema.specs.Value.{RiseFrom, slot_in, slots_of}
use Rattle.schema.specs.declared.value.Item.TheOpen.{Number, One}
use Rattle.schema.specs.declared.value.Item.{Item, out-Item, roll-Item, out-roll-Item}
use Rattle.schema.specs.declared.value.Slot.{Slot, out-Slot, out-roll-Slot}
use Rattle.schema.specs.declared.value.Value.{Value}
use Rattle.time_texts.specs.declared.moment.Moment.{Moment}

-- a number that is 0
is_zero : (z : ℤ) → int_eq z (pos 0) ≡ true → pos 0 ≡ z
is_zero z h = sym ((Decides-int_eq z (pos 0)).0 h)

-- a slot, or none
abbrev slot_if : Bool → ℕ → ℤ → List (ℕ × Slot)
slot_if b n z = cond b [] ((n, number_as_slot z) ∷ [])

-- the seconds of a message that was made of them
seconds_back : (s n : ℤ) (a b : Bool) → int_eq s (pos 0) ≡ a
    → number_of_slot (slot_in (slot_if a 1 s ++ slot_if b 2 n) 1) ≡ s
seconds_back s n true true h = is_zero s h
seconds_back s n true false h = is_zero s h
seconds_back s n false b h = number_back s

-- and the billionths
nanos_back : (s n : ℤ) (a b : Bool) → int_eq n (pos 0) ≡ b
    → number_of_slot (slot_in (slot_if a 1 s ++ slot_if b 2 n) 2) ≡ n
nanos_back s n true true h = is_zero n h
nanos_back s n false true h = is_zero n h
nanos_back s n true false h = number_back n
nanos_back s n false false h = number_back n

-- a moment of its parts
abbrev pub moment_with : ℤ → ℤ → Moment
moment_with s n = record { seconds = s; nanos = n }

-- a message of its slots
abbrev pub value_with : List (ℕ × Slot) → Value
value_with es = record { fields = es }

-- the moment of its message
pub moment_back : (m : Moment) → moment_of (moment_value m) ≡ m
moment_back m =
    ap₂ moment_with
    (seconds_back m.seconds m.nanos (int_eq m.seconds (pos 0)) (int_eq m.nanos (pos 0)) refl)
    (nanos_back m.seconds m.nanos (int_eq m.seconds (pos 0)) (int_eq m.nanos (pos 0)) refl)

-- a valid message of a time is that of its moment
pub value_back : (inner : Inner) (types : Types) (id : TypeId) (v : Value)
    → HasSecondsAndNanos (fields_of types id) → IsMessage inner types id v → moment_value (moment_of v) ≡ v
value_back inner types id v known valid =
    ap value_with (sym (time_slots (slots_of v) valid.rising (each (slots_of v) valid.slots)))
  where
    each : (es : List (ℕ × Slot)) → AreFieldSlots inner (fields_of types id) es
        → AllByRecursion IsTimeSlot es
    each [] h = tt
    each (e ∷ es) h = (time_slot inner (fields_of types id) known e h.0, each es h.1)

-- the slot of a number fits its field
number_fits : (inner : Inner) (o : Option Field) (name : List ℕ) (k : Scalar) (z : ℤ) → IsKnownField o name k Single
    → IsScalarItem k (Number z) → int_eq z (pos 0) ≡ false → IsFieldSlot inner o (number_as_slot z)
number_fits inner None name k z known ranged h = absurd known
number_fits inner (Some f) name k z known ranged h =
    subst (IsSlot inner f f.shape) (sym (out-roll-Slot (One (roll-Item (Number z)))))
    (subst (λ x. IsSlot inner f x (One (roll-Item (Number z)))) (sym known.1.1)
    (subst (λ i. IsItem inner f.kind i × IsStored f.presence i) (sym (out-roll-Item (Number z))) (
      subst (λ x. IsItem inner x (Number z)) (sym known.1.0) ranged,
      subst (λ p. IsStored p (Number z)) (sym known.1.2) h,
    )))

-- a field of a well-known type is no member of a oneof
pub no_oneof : (o : Option Field) (name : List ℕ) (k : Scalar) → IsKnownField o name k Single → oneof_of o ≡ None
no_oneof None name k known = absurd known
no_oneof (Some f) name k known = rw known.1.1 refl

module _ (inner : Inner) (types : Types) (id : TypeId) (known : HasSecondsAndNanos (fields_of types id)) where
  abbrev fs : List Field
  fs = fields_of types id

  first : oneof_of (field_in fs 1) ≡ None
  first = no_oneof (field_in fs 1) _ Int64 known.1

  second : oneof_of (field_in fs 2) ≡ None
  second = no_oneof (field_in fs 2) _ Int32 known.2

  slots_valid : (s n : ℤ) (a b : Bool) → IsInt64 s → IsInt32 n → int_eq s (pos 0) ≡ a → int_eq n (pos 0) ≡ b
      → IsMessage inner types id (record { fields = slot_if a 1 s ++ slot_if b 2 n })
  slots_valid s n true true long short p q = record { rising = tt; slots = tt; oneofs = tt }
  slots_valid s n true false long short p q = record {
    rising = (lit< tt, tt);
    slots = (number_fits inner (field_in fs 2) _ Int32 n known.2 short q, tt);
    oneofs = subst (AreApart nat_eq) (sym (ap (λ o. cons_option o []) second)) tt;
  }
  slots_valid s n false true long short p q = record {
    rising = (lit< tt, tt);
    slots = (number_fits inner (field_in fs 1) _ Int64 s known.1 long p, tt);
    oneofs = subst (AreApart nat_eq) (sym (ap (λ o. cons_option o []) first)) tt;
  }
  slots_valid s n false false long short p q = record {
    rising = (lit< tt, (lit< tt, tt));
    slots = (
      number_fits inner (field_in fs 1) _ Int64 s known.1 long p,
      (number_fits inner (field_in fs 2) _ Int32 n known.2 short q, tt),
    );
    oneofs =
        subst (AreApart nat_eq) (sym (ap₂ (λ o q. cons_option o (cons_option q [])) first second)) tt;
  }

  -- the message of a moment whose numbers have 64 and 32 bits is valid
  pub moment_valid : (m : Moment) → IsInt64 m.seconds → IsInt32 m.nanos → IsMessage inner types id (moment_value m)
  moment_valid m long short =
      slots_valid m.seconds m.nanos (int_eq m.seconds (pos 0)) (int_eq m.nanos (pos 0)) long short refl refl
