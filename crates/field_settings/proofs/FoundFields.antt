-- Fields found by their numbers, and what sound types say of them.
use Rattle.std.proofs.Common.{◌≡◌, ◌==◌, ◌<◌, ◌≤◌, ℕ, Bool, true, false, cond, zero, suc, List, [], ◌∷◌, Some, slice_get, option_map, unwrap_or, arith, refl, sym, ap, subst, ◌∙◌}
use Rattle.std.proofs.lemmas.Bool.{eqb-true}
use Rattle.std.specs.List.{AllByRecursion}
use Rattle.message_types.specs.Types.{field_in, fields_of}
use Rattle.message_types.specs.declared.fields.Field.{Field}
use Rattle.message_types.specs.declared.messages.MessageType.{MessageType}
use Rattle.message_types.specs.declared.messages.TypeId.{TypeId}
use Rattle.message_types.specs.declared.messages.Types.{Types}
use Rattle.schema.specs.Soundness.{AreNumbersApart, IsSound, IsSoundField, IsSoundMessage}

-- a field that is found by a number is one of the list, and has that number
pub found_of : (P : Field → Type 0) (fs : List Field) (n : ℕ) (f : Field) → AllByRecursion P fs
    → field_in fs n ≡ Some f → (f.number ≡ n) × P f
found_of P [] n f all h = absurd (cc h)
found_of P (g ∷ fs) n f all h = pick (g.number == n) refl (found_of P fs n f all.1) h
  where
    pick : (b : Bool) → (g.number == n) ≡ b → (field_in fs n ≡ Some f → (f.number ≡ n) × P f)
        → cond b (Some g) (field_in fs n) ≡ Some f → (f.number ≡ n) × P f
    pick true e below k =
        let same : g ≡ f = cc k in
        (ap (λ (x : Field). x.number) (sym same) ∙ eqb-true g.number n e, subst P same all.0)
    pick false e below k = below k

all_fields : (fs : List Field) → AllByRecursion (λ (f : Field). Unit {0}) fs
all_fields [] = tt
all_fields (f ∷ fs) = (tt, all_fields fs)

-- the number of a field that is found is the one that was looked for
pub number_of : (fs : List Field) (n : ℕ) (f : Field) → field_in fs n ≡ Some f → f.number ≡ n
number_of fs n f h = (found_of (λ (g : Field). Unit {0}) fs n f (all_fields fs) h).0

-- what sound types say of the fields of a type
pub record AreSoundFields (types : Types) (fs : List Field) : Type 0 where
  pub fields : AllByRecursion (IsSoundField types) fs
  pub numbers : AreNumbersApart fs

listed_sound : (types : Types) (ms : List MessageType) (i : ℕ) → AllByRecursion (IsSoundMessage types) ms
    → AreSoundFields types (unwrap_or (option_map (λ (m : MessageType). m.fields) (slice_get ms i)) [])
listed_sound types [] i h = record { fields = tt; numbers = tt }
listed_sound types (m ∷ ms) zero h = record { fields = h.0.fields; numbers = h.0.numbers }
listed_sound types (m ∷ ms) (suc i) h = listed_sound types ms i h.1

-- the fields of each type of sound types are sound
pub fields_sound : (types : Types) (id : TypeId) → IsSound types → AreSoundFields types (fields_of types id)
fields_sound types id sound = listed_sound types types.messages id.0 sound.messages

-- the number of a field that was found in a type of sound types is the one that was looked for, and is not 0
pub found_number : (types : Types) (id : TypeId) (n : ℕ) (f : Field) → IsSound types
    → field_in (fields_of types id) n ≡ Some f → (f.number ≡ n) × (0 < f.number)
found_number types id n f sound h =
    let found = found_of (IsSoundField types) (fields_of types id) n f (fields_sound types id sound).fields h in
    let low : 1 ≤ f.number = found.1.low in (found.0, omega (arith, low))
