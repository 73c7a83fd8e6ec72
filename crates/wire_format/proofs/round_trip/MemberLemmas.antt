-- Members of a oneof: what counts of their records, and that slots of one member alone are apart.
use Rattle.std.proofs.Common.{◌≡◌, ◌≢◌, ◌==◌, ℕ, Bool, true, false, cond, nat_eq, List, [], ◌∷◌, Option, Some, None, refl, ap, sym, ◌∙◌, subst, option_and_then, is_some, ◌||◌, filter_map}
use Rattle.std.specs.List.{AllByRecursion, cons_option, list_any}
use Rattle.std.proofs.lemmas.Bool.{eqb-true, eq-eqb}
use Rattle.schema.specs.Apart.{AreApart}
use Rattle.message_types.specs.Types.{field_in, fields_of}
use Rattle.schema.specs.Validity.{oneof_of, oneofs_in}
use Rattle.schema.specs.Value.{slot_in}
use Rattle.schema.specs.declared.value.Slot.{Slot}
use Rattle.message_types.specs.declared.fields.Field.{Field}
use Rattle.message_types.specs.declared.fields.Kind.{Kind}
use Rattle.message_types.specs.declared.fields.Kind.TheVariants.{One as OneOf, Message as MessageOf}
use Rattle.message_types.specs.declared.fields.Presence.{Presence}
use Rattle.message_types.specs.declared.fields.Shape.{Shape}
use Rattle.message_types.specs.declared.fields.Shape.TheVariants.{Single, Member, Many as ManyOf, Map as MapOf}
use Rattle.message_types.specs.declared.messages.Types.{Types}
use Rattle.wire_format.specs.FieldValues.{Inner, payloads, since, counts, in_oneof, last_of, sized_of, message_item, singular, stored}
use Rattle.wire_records.specs.WireRecord.{Record, Payload}
use Rattle.wire_format.proofs.round_trip.FieldRecordLemmas.{eqb_apart}
use Rattle.schema.specs.Layers.{ItemLayer}
use Rattle.wire_format.specs.Scalars.{scalar_of}

-- ---- members of a oneof

none_passes : {A : Type 0} (p : A → Bool) (xs : List A) → AllByRecursion (λ (x : A). p x ≡ false) xs → list_any p xs ≡ false
none_passes p [] h = refl
none_passes p (x ∷ xs) h = rw (h.0, none_passes p xs h.1) refl

-- where none passes, all stand behind the last that does
pub since_all : {A : Type 0} (p : A → Bool) (xs : List A) → AllByRecursion (λ (x : A). p x ≡ false) xs → since p xs ≡ xs
since_all p [] h = refl
since_all p (x ∷ xs) h = let e : list_any p (x ∷ xs) ≡ false = none_passes p (x ∷ xs) h in rw e refl

-- what has no payload of a number has none behind any record
pub none_since : (p : Record → Bool) (n : ℕ) (rs : List Record) → payloads n rs ≡ [] → payloads n (since p rs) ≡ []
none_since p n [] h = refl
none_since p n (r ∷ rs) h = by (list_any p (r ∷ rs)) (none_since p n rs (tail_none (r.number == n) h))
  where
    tail_none : (b : Bool) → cond b (r.payload ∷ payloads n rs) (payloads n rs) ≡ [] → payloads n rs ≡ []
    tail_none true e = absurd cc
    tail_none false e = e

    by : (b : Bool) → payloads n (since p rs) ≡ [] → payloads n (cond b (since p rs) (r ∷ rs)) ≡ []
    by true ih = ih
    by false ih = h

-- a oneof, in front of others
module _ (m : ℕ) where
  abbrev AreOthers : List ℕ → Type 0
  AreOthers js = AllByRecursion (λ (j : ℕ). nat_eq m j ≡ false) js

  others_head : (j : ℕ) (x : Option ℕ) (js : List ℕ) → x ≡ Some j → AreOthers (cons_option x js) → nat_eq m j ≡ false
  others_head j None js e h = absurd cc
  others_head j (Some i) js e h = subst (λ (y : ℕ). nat_eq m y ≡ false) (some_is i j e) h.0
    where
      some_is : (x y : ℕ) → ◌≡◌ {A = Option ℕ} (Some x) (Some y) → x ≡ y
      some_is x y e = cc

  others_tail : (x : Option ℕ) (js : List ℕ) → AreOthers (cons_option x js) → AreOthers js
  others_tail None js h = h
  others_tail (Some i) js h = h.1

  apart_head : (x : Option ℕ) (js : List ℕ) → x ≡ Some m → AreApart nat_eq (cons_option x js) → AreOthers js
  apart_head None js e h = absurd cc
  apart_head (Some i) js e h = subst (λ (y : ℕ). AllByRecursion (λ (j : ℕ). nat_eq y j ≡ false) js) (some_is i m e) h.0
    where
      some_is : (x y : ℕ) → ◌≡◌ {A = Option ℕ} (Some x) (Some y) → x ≡ y
      some_is x y e = cc

  not_other : nat_eq m m ≡ false → ⊥
  not_other h = absurd (let t : nat_eq m m ≡ true = eq-eqb m m refl in let c : true ≡ false = sym t ∙ h in cc)

apart_tail : (x : Option ℕ) (js : List ℕ) → AreApart nat_eq (cons_option x js) → AreApart nat_eq js
apart_tail None js h = h
apart_tail (Some i) js h = h.1

-- the slot of a member of a oneof stands among those of oneofs
oneof_found : (fields : List Field) (m k q : ℕ) (s : Slot) (es : List (ℕ × Slot)) → slot_in es q ≡ Some s → oneof_of (field_in fields q) ≡ Some k → AreOthers m (oneofs_in fields es) → nat_eq m k ≡ false
oneof_found fields m k q s [] h o free = absurd cc
oneof_found fields m k q s (e ∷ es) h o free = by (e.0 == q) (eqb-true e.0 q) h (λ d. oneof_found fields m k q s es d o (others_tail m (oneof_of (field_in fields e.0)) (oneofs_in fields es) free))
  where
    by : (b : Bool) → (b ≡ true → e.0 ≡ q) → cond b (Some e.1) (slot_in es q) ≡ Some s → (slot_in es q ≡ Some s → nat_eq m k ≡ false) → nat_eq m k ≡ false
    by true p h ih = others_head m k (oneof_of (field_in fields e.0)) (oneofs_in fields es) (ap (λ (n : ℕ). oneof_of (field_in fields n)) (p refl) ∙ o) free
    by false p h ih = ih h

module _ (fields : List Field) (k q : ℕ) where
  -- a slot of another number is none of a member of the oneof
  abbrev pub IsApart : ℕ × Slot → Type 0
  IsApart e = e.0 ≢ q → oneof_of (field_in fields e.0) ≢ Some k

  all_apart : (es : List (ℕ × Slot)) → AreOthers k (oneofs_in fields es) → AllByRecursion IsApart es
  all_apart [] h = tt
  all_apart (e ∷ es) h = (
    λ ne z. not_other k (others_head k k (oneof_of (field_in fields e.0)) (oneofs_in fields es) z h),
    all_apart es (others_tail k (oneof_of (field_in fields e.0)) (oneofs_in fields es) h),
  )

  -- so it is where the oneof has one member
  pub others_apart : (s : Slot) (es : List (ℕ × Slot)) → slot_in es q ≡ Some s → oneof_of (field_in fields q) ≡ Some k → AreApart nat_eq (oneofs_in fields es) → AllByRecursion IsApart es
  others_apart s [] h o apart = tt
  others_apart s (e ∷ es) h o apart = by (e.0 == q) (eqb-true e.0 q) h (λ d. others_apart s es d o (apart_tail (oneof_of (field_in fields e.0)) (oneofs_in fields es) apart))
    where
      by : (b : Bool) → (b ≡ true → e.0 ≡ q) → cond b (Some e.1) (slot_in es q) ≡ Some s → (slot_in es q ≡ Some s → AllByRecursion IsApart es) → AllByRecursion IsApart (e ∷ es)
      by true p h ih = (
        λ ne. absurd (ne (p refl)),
        all_apart es (apart_head k (oneof_of (field_in fields e.0)) (oneofs_in fields es) (ap (λ (n : ℕ). oneof_of (field_in fields n)) (p refl) ∙ o) apart),
      )
      by false p h ih = (
        λ ne z. not_other k (oneof_found fields k k q s es h o (apart_head k (oneof_of (field_in fields e.0)) (oneofs_in fields es) z apart)),
        ih h,
      )

-- of a field the oneof is told by its shape alone
pub oneof_is : (f : Field) (shape : Shape) → f.shape ≡ shape → oneof_of (Some f) ≡ oneof_of (Some (record f { shape = shape }))
oneof_is f shape e = ap (λ (x : Shape). oneof_of (Some (record f { shape = x }))) e

-- a field that is no member of a oneof has not the shape of one
pub not_in_oneof : (f : Field) (k : ℕ) → oneof_of (Some f) ≢ Some k → in_oneof k f.shape ≡ false
not_in_oneof f k h = by f.shape refl
  where
    by : (shape : Shape) → f.shape ≡ shape → in_oneof k shape ≡ false
    by (Member j) e = eqb_apart j k (λ z. h (oneof_is f (Member j) e ∙ ap (λ (x : ℕ). Some x) z))
    by Single e = refl
    by ManyOf e = refl
    by (MapOf s) e = refl

-- ---- a slot has a record that counts

-- where nothing fits, nothing is left
pub fits : {A B : Type 0} (f : A → Option B) (xs : List A) → filter_map f xs ≢ [] → list_any (λ (x : A). is_some (f x)) xs ≡ true
fits {A = A} {B = B} f [] h = absurd (h refl)
fits {A = A} {B = B} f (x ∷ xs) h = by (f x) h (fits f xs)
  where
    by : (o : Option B) → cons_option o (filter_map f xs) ≢ [] → (filter_map f xs ≢ [] → list_any (λ (y : A). is_some (f y)) xs ≡ true) → (is_some o || list_any (λ (y : A). is_some (f y)) xs) ≡ true
    by None h ih = ih h
    by (Some y) h ih = refl

last_some : {A : Type 0} (xs : List A) (x : A) → last_of xs ≡ Some x → xs ≢ []
last_some [] x h e = absurd cc
last_some (y ∷ ys) x h e = absurd cc

message_some : (inner : Inner) (fields : List Field) (cs : List (List ℕ)) (i : ItemLayer) → message_item inner fields cs ≡ Some i → cs ≢ []
message_some inner fields [] i h e = absurd cc
message_some inner fields (c ∷ cs) i h e = absurd cc

module _ (inner : Inner) (types : Types) where
  -- a singular field that has an item has a payload that counts
  pub singular_some : (kind : Kind) (ps : List Payload) (i : ItemLayer) → singular inner types kind ps ≡ Some i → list_any (counts types kind) ps ≡ true
  singular_some (OneOf s) ps i h = fits (scalar_of types s) ps (last_some (filter_map (scalar_of types s) ps) i h)
  singular_some (MessageOf id) ps i h = fits sized_of ps (message_some inner (fields_of types id) (filter_map sized_of ps) i h)

  -- a slot that is stored is of an item
  pub stored_some : (presence : Presence) (o : Option ItemLayer) (s : Slot) → option_and_then (stored presence) o ≡ Some s → (i : ItemLayer) × (o ≡ Some i)
  stored_some presence None s h = absurd cc
  stored_some presence (Some i) s h = (i, refl)
