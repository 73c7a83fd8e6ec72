-- The field that a key names is the field of its number, and is sound.
use Rattle.std.proofs.Common.{◌≡◌, ◌∙◌, ◌||◌, ◌==◌, sym, ap, subst, refl, arith, cond, nat_eq, ℕ, Bool, true, false, List, [], ◌∷◌, map, Option, Some, None}
use Rattle.std.specs.Prelude.{option_map, slice_get, unwrap_or, zero, suc}
use Rattle.std.specs.List.{AllByRecursion}
use Rattle.std.specs.Str.{bytes_eq}
use Rattle.std.proofs.lemmas.Bool.{eqb-true}
use Rattle.std.proofs.lemmas.Bool.Decides.{nat_tests}
use Rattle.message_types.specs.Types.{field_in, fields_of}
use Rattle.message_types.specs.declared.fields.Field.{Field}
use Rattle.message_types.specs.declared.messages.Known.TheVariants.{Wrapper}
use Rattle.message_types.specs.declared.messages.MessageType.{MessageType}
use Rattle.message_types.specs.declared.messages.TypeId.{TypeId}
use Rattle.message_types.specs.declared.messages.Types.{Types}
use Rattle.schema.specs.Soundness.{AreNumbersApart, HasKnownFields, IsSound, IsSoundField, IsSoundMessage, IsValueField}
use Rattle.json_meanings.specs.PartialMessages.{field_named}
use Rattle.json_meanings.specs.SpotTables.{known_in, known_of}

-- a type of a list of sound ones is sound
pub sound_at : {A : Type 0} (P : A → Type 0) (xs : List A) (n : ℕ) (x : A) → AllByRecursion P xs → slice_get xs n
    ≡ Some x
    → P x
sound_at P [] n x all e = absurd cc
sound_at P (y ∷ ys) zero x all e = subst P (cc e) all.0
sound_at P (y ∷ ys) (suc n) x all e = sound_at P ys n x all.1 e

-- what holds of each field holds of the one that is named
named_all : (P : Field → Type 0) (t : List ℕ) (fs : List Field) (f : Field) → AllByRecursion P fs → field_named t fs
    ≡ Some f → P f
named_all P t [] f all e = absurd cc
named_all P t (g ∷ fs) f all e = by_test (bytes_eq t g.json || bytes_eq t g.name) e (named_all P t fs f all.1)
  where
    by_test : (b : Bool) → cond b (Some g) (field_named t fs) ≡ Some f → (field_named t fs ≡ Some f → P f) → P f
    by_test true q ih = subst P (cc q) all.0
    by_test false q ih = ih q

-- what holds of each field holds of the one with a number
number_all : (P : Field → Type 0) (n : ℕ) (fs : List Field) (f : Field) → AllByRecursion P fs → field_in fs n ≡ Some f
    → P f
number_all P n [] f all e = absurd cc
number_all P n (g ∷ fs) f all e = by_test (g.number == n) e (number_all P n fs f all.1)
  where
    by_test : (b : Bool) → cond b (Some g) (field_in fs n) ≡ Some f → (field_in fs n ≡ Some f → P f) → P f
    by_test true q ih = subst P (cc q) all.0
    by_test false q ih = ih q

-- the field with a number has it
pub number_is : (n : ℕ) (fs : List Field) (f : Field) → field_in fs n ≡ Some f → f.number ≡ n
number_is n [] f e = absurd cc
number_is n (g ∷ fs) f e = by_test (g.number == n) refl e (number_is n fs f)
  where
    by_test : (b : Bool) → (g.number == n) ≡ b → cond b (Some g) (field_in fs n) ≡ Some f
        → (field_in fs n ≡ Some f → f.number ≡ n) → f.number ≡ n
    by_test true is q ih = let same : g ≡ f = cc q in ap (λ h. h.number) (sym same) ∙ eqb-true g.number n is
    by_test false is q ih = ih q

mapped_all : (P : ℕ → Type 0) (fs : List Field) → AllByRecursion P (map (λ (f : Field). f.number) fs)
    → AllByRecursion (λ (f : Field). P f.number) fs
mapped_all P [] all = tt
mapped_all P (f ∷ fs) all = (all.0, mapped_all P fs all.1)

-- the field that is named is found by its number
found_by_number : (t : List ℕ) (fs : List Field) (f : Field) → AreNumbersApart fs → field_named t fs ≡ Some f
    → field_in fs f.number ≡ Some f
found_by_number t [] f apart e = absurd cc
found_by_number t (g ∷ fs) f apart e =
    by_test (bytes_eq t g.json || bytes_eq t g.name) e (λ q. found_by_number t fs f apart.1 q)
    (λ q. named_all (λ (h : Field). nat_eq g.number h.number ≡ false) t fs f
    (mapped_all (λ n. nat_eq g.number n ≡ false) fs apart.0) q)
  where
    by_test : (b : Bool) → cond b (Some g) (field_named t fs) ≡ Some f
        → (field_named t fs ≡ Some f → field_in fs f.number ≡ Some f)
        → (field_named t fs ≡ Some f → nat_eq g.number f.number ≡ false)
        → cond (g.number == f.number) (Some g) (field_in fs f.number) ≡ Some f
    by_test true q ih other =
        let same : g ≡ f = cc q in
        let e : (g.number == g.number) ≡ true = grind (arith, nat_tests) in
        let here : cond (g.number == g.number) (Some g) (field_in fs g.number) ≡ Some g =
        ap (λ b. cond b (Some g) (field_in fs g.number)) e in
        subst (λ h. cond (g.number == h.number) (Some g) (field_in fs h.number) ≡ Some h) same here
    by_test false q ih other =
        let e : (g.number == f.number) ≡ false = other q in
        ap (λ b. cond b (Some g) (field_in fs f.number)) e ∙ ih q

-- a field of a sound type, which is that of its number
pub record IsFieldOf (types : Types) (id : TypeId) (f : Field) : Type 0 where
  pub found : field_in (fields_of types id) f.number ≡ Some f
  pub sound : IsSoundField types f

module _ (types : Types) (sound : IsSound types) (id : TypeId) where
  -- the fields of a type are sound, and their numbers apart
  fields_sound : AllByRecursion (IsSoundField types) (fields_of types id) × AreNumbersApart (fields_of types id)
  fields_sound = by_type (slice_get types.messages id.0) refl
    where
      by_type : (o : Option MessageType) → slice_get types.messages id.0 ≡ o
          → AllByRecursion (IsSoundField types) (unwrap_or (option_map (λ (m : MessageType). m.fields) o) [])
          × AreNumbersApart (unwrap_or (option_map (λ (m : MessageType). m.fields) o) [])
      by_type None e = (tt, tt)
      by_type (Some m) e =
          let h = sound_at (IsSoundMessage types) types.messages id.0 m sound.messages e in (h.fields, h.numbers)

  -- the field of a key
  pub named_field : (t : List ℕ) (f : Field) → field_named t (fields_of types id) ≡ Some f → IsFieldOf types id f
  named_field t f e = record {
    found = found_by_number t (fields_of types id) f fields_sound.1 e;
    sound = named_all (IsSoundField types) t (fields_of types id) f fields_sound.0 e;
  }

  -- the field of a number
  pub numbered_field : (n : ℕ) (f : Field) → field_in (fields_of types id) n ≡ Some f → IsFieldOf types id f
  numbered_field n f e = record {
    found = ap (field_in (fields_of types id)) (number_is n (fields_of types id) f e) ∙ e;
    sound = number_all (IsSoundField types) n (fields_of types id) f fields_sound.0 e;
  }

  -- a wrapper has a field
  pub wrapper_field : known_of types id ≡ Wrapper → (f : Field) × (field_in (fields_of types id) 1 ≡ Some f)
      × IsValueField (Some f)
  wrapper_field e = by_type (slice_get types.messages id.0) refl e
    where
      of_value : (o : Option Field) → IsValueField o → (f : Field) × (o ≡ Some f) × IsValueField (Some f)
      of_value None h = absurd h.2
      of_value (Some f) h = (f, refl, h)

      by_known : (m : MessageType) → IsSoundMessage types m → m.known ≡ Wrapper
          → (f : Field) × (field_in m.fields 1 ≡ Some f) × IsValueField (Some f)
      by_known m h is = of_value (field_in m.fields 1) (subst (λ k. HasKnownFields k m.fields) is h.known).1

      by_type : (o : Option MessageType) → slice_get types.messages id.0 ≡ o → known_in o ≡ Wrapper
          → (f : Field) × (field_in (fields_of types id) 1 ≡ Some f) × IsValueField (Some f)
      by_type None o is = absurd cc
      by_type (Some m) o is =
          let h = by_known m (sound_at (IsSoundMessage types) types.messages id.0 m sound.messages o) is in
          (h.0, ap (λ r. field_in (unwrap_or (option_map (λ (n : MessageType). n.fields) r) []) 1) o ∙ h.1, h.2)
