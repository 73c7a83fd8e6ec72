-- The field that is found by its JSON name, and what has come of a message whose slots rise.
use Rattle.std.proofs.Common.{◌≡◌, ◌≢◌, ◌∙◌, ◌<◌, ◌||◌, ◌==◌, sym, ap, ap₂, subst, refl, arith, cond, nat_eq, ℕ, zero, suc, Bool, true, false, List, [], ◌∷◌, ◌++◌, append-nil, map, Option, Some, None}
use Rattle.std.specs.Prelude.{nat_lt, option_map, slice_get, unwrap_or}
use Rattle.std.specs.List.{AllByRecursion, cons_option}
use Rattle.std.specs.Str.{IsUtf8, bytes_eq}
use Rattle.std.proofs.lemmas.Bool.{eqb-true}
use Rattle.std.proofs.lemmas.Bool.Decides.{nat_tests}
use Rattle.std.proofs.lemmas.List.{map-append}
use Rattle.std.proofs.lemmas.List.Elements.{filter_map-append}
use Rattle.base.proofs.TextLemmas.{bytes_eq_self, bytes_eq_swap}
use Rattle.message_types.specs.Types.{field_in, fields_of}
use Rattle.message_types.specs.declared.fields.Field.{Field}
use Rattle.message_types.specs.declared.fields.Shape.{Shape}
use Rattle.message_types.specs.declared.fields.Shape.TheVariants.{Single, Member, Many as ManyOf, Map as MapOf}
use Rattle.message_types.specs.declared.messages.Known.{Known}
use Rattle.message_types.specs.declared.messages.MessageType.{MessageType}
use Rattle.message_types.specs.declared.messages.TypeId.{TypeId}
use Rattle.message_types.specs.declared.messages.Types.{Types}
use Rattle.schema.specs.Apart.{AreApart}
use Rattle.schema.specs.Soundness.{AreKeysApart, HasKnownFields, IsSound, IsSoundField, IsSoundMessage, share_key}
use Rattle.schema.specs.Validity.{oneof_of, oneofs_in}
use Rattle.schema.specs.Value.{RiseFrom, with_slot}
use Rattle.schema.specs.declared.value.Slot.{Slot}
use Rattle.json_meanings.specs.PartialMessages.{PartialMessage, field_named, form_of, has_number, is_taken, oneofs_with, put_field}
use Rattle.json_meanings.specs.SpotTables.{known_in, known_of}
use Rattle.protojson_write.specs.ShownMeans.{HasUtf8Names}

-- what the fields of a type are
pub record HasGoodFields (types : Types) (known : Known) (fs : List Field) : Type 0 where
  pub sound : AllByRecursion (IsSoundField types) fs
  pub apart : AreKeysApart fs
  pub utf8 : AllByRecursion (λ (f : Field). IsUtf8 f.json) fs
  pub form : HasKnownFields known fs

-- those of each type are so
pub good_fields : (types : Types) → IsSound types → HasUtf8Names types → (id : TypeId)
    → HasGoodFields types (known_of types id) (fields_of types id)
good_fields types sound utf8 id = by_place types.messages id.0 sound.messages utf8.fields
  where
    by_place : (ms : List MessageType) (n : ℕ) → AllByRecursion (IsSoundMessage types) ms
        → AllByRecursion (λ (m : MessageType). AllByRecursion (λ (f : Field). IsUtf8 f.json) m.fields) ms
        → HasGoodFields types (known_in (slice_get ms n))
        (unwrap_or (option_map (λ (m : MessageType). m.fields) (slice_get ms n)) [])
    by_place [] n h u = record { sound = tt; apart = tt; utf8 = tt; form = tt }
    by_place (m ∷ ms) zero h u = record { sound = h.0.fields; apart = h.0.keys; utf8 = u.0; form = h.0.known }
    by_place (m ∷ ms) (suc n) h u = by_place ms n h.1 u.1

-- what holds of each field holds of the one with a number
pub found_all : (P : Field → Type 0) (n : ℕ) (fs : List Field) (f : Field) → AllByRecursion P fs
    → field_in fs n ≡ Some f → P f
found_all P n [] f all e = absurd cc
found_all P n (g ∷ fs) f all e = by_test (g.number == n) e (found_all P n fs f all.1)
  where
    by_test : (b : Bool) → cond b (Some g) (field_in fs n) ≡ Some f → (field_in fs n ≡ Some f → P f) → P f
    by_test true q others = subst P (cc q) all.0
    by_test false q others = others q

-- which it has
pub found_number : (n : ℕ) (fs : List Field) (f : Field) → field_in fs n ≡ Some f → f.number ≡ n
found_number n [] f e = absurd cc
found_number n (g ∷ fs) f e = by_test (g.number == n) refl e (found_number n fs f)
  where
    by_test : (b : Bool) → (g.number == n) ≡ b → cond b (Some g) (field_in fs n) ≡ Some f
        → (field_in fs n ≡ Some f → f.number ≡ n) → f.number ≡ n
    by_test true is q others = let same : g ≡ f = cc q in ap (λ h. h.number) (sym same) ∙ eqb-true g.number n is
    by_test false is q others = others q

-- a field that shares no key is not named by the other's JSON name
other_name : (g f : Field) → share_key g f ≡ false → (bytes_eq f.json g.json || bytes_eq f.json g.name) ≡ false
other_name g f h =
    ap₂ (λ a b. a || b) (bytes_eq_swap f.json g.json) (bytes_eq_swap f.json g.name)
    ∙ by_tests (bytes_eq g.name f.name) (bytes_eq g.name f.json) (bytes_eq g.json f.name) (bytes_eq g.json f.json) h
  where
    by_tests : (a b c d : Bool) → (a || b || c || d) ≡ false → (d || b) ≡ false
    by_tests false false false false q = refl
    by_tests true b c d q = absurd cc
    by_tests false true c d q = absurd cc
    by_tests false false true d q = absurd cc
    by_tests false false false true q = absurd cc

-- the field with a number is the one that its JSON name names
pub named_by_json : (n : ℕ) (fs : List Field) (f : Field) → AreKeysApart fs → field_in fs n ≡ Some f
    → field_named f.json fs ≡ Some f
named_by_json n [] f apart e = absurd cc
named_by_json n (g ∷ fs) f apart e = by_test (g.number == n) e (named_by_json n fs f apart.1)
  where
    by_test : (b : Bool) → cond b (Some g) (field_in fs n) ≡ Some f
        → (field_in fs n ≡ Some f → field_named f.json fs ≡ Some f)
        → cond (bytes_eq f.json g.json || bytes_eq f.json g.name) (Some g) (field_named f.json fs) ≡ Some f
    by_test true q others =
        let same : g ≡ f = cc q in
        subst (λ (h : Field).
        cond (bytes_eq h.json g.json || bytes_eq h.json g.name) (Some g) (field_named h.json fs) ≡ Some h) same
        (ap (λ b. cond (b || bytes_eq g.json g.name) (Some g) (field_named g.json fs)) (bytes_eq_self g.json))
    by_test false q others =
        ap (λ b. cond b (Some g) (field_named f.json fs))
        (other_name g f (found_all (λ h. share_key g h ≡ false) n fs f apart.0 q))
        ∙ others q

-- a number is below that of an entry behind it
below_last : (low : ℕ) (done : List (ℕ × Slot)) (e : ℕ × Slot) (es : List (ℕ × Slot)) → RiseFrom low (done ++ e ∷ es)
    → low < e.0
below_last low [] e es h = h.0
below_last low (d ∷ done) e es h = let p = h.0 in let q = below_last d.0 done e es h.1 in omega (arith, p, q)

-- a slot of a larger number is put behind those before it
pub slot_put_last : (low : ℕ) (done : List (ℕ × Slot)) (e : ℕ × Slot) (es : List (ℕ × Slot))
    → RiseFrom low (done ++ e ∷ es)
    → with_slot done e.0 e.1 ≡ done ++ e ∷ []
slot_put_last low [] e es h = refl
slot_put_last low (d ∷ done) e es h =
    ap (λ t. cond t (d ∷ with_slot done e.0 e.1) (cond (d.0 == e.0) ((e.0, e.1) ∷ done) ((e.0, e.1) ∷ d ∷ done)))
    (less d.0 e.0 (below_last d.0 done e es h.1))
    ∙ ap (λ r. d ∷ r) (slot_put_last d.0 done e es h.1)
  where
    less : (m n : ℕ) → m < n → nat_lt m n ≡ true
    less m n l = grind (arith, nat_tests)

-- its number is none of theirs
pub not_seen : (low : ℕ) (done : List (ℕ × Slot)) (e : ℕ × Slot) (es : List (ℕ × Slot))
    → RiseFrom low (done ++ e ∷ es)
    → has_number e.0 (map (λ (d : ℕ × Slot). d.0) done) ≡ false
not_seen low [] e es h = refl
not_seen low (d ∷ done) e es h =
    ap₂ (λ a b. a || b) (other d.0 e.0 (below_last d.0 done e es h.1)) (not_seen d.0 done e es h.1)
  where
    other : (m n : ℕ) → m < n → (n == m) ≡ false
    other m n l = grind (arith, nat_tests)

-- an item that is apart from those before it is none of them
apart_has : (xs : List ℕ) (k : ℕ) (ys : List ℕ) → AreApart nat_eq (xs ++ k ∷ ys) → has_number k xs ≡ false
apart_has [] k ys h = refl
apart_has (x ∷ xs) k ys h = ap₂ (λ a b. a || b) (swapped x k (at_last xs h.0)) (apart_has xs k ys h.1)
  where
    swapped : (x k : ℕ) → nat_eq x k ≡ false → (k == x) ≡ false
    swapped x k e = grind (arith, nat_tests)

    at_last : (zs : List ℕ) → AllByRecursion (λ j. nat_eq x j ≡ false) (zs ++ k ∷ ys) → nat_eq x k ≡ false
    at_last [] all = all.0
    at_last (z ∷ zs) all = at_last zs all.1

-- a message of these parts
abbrev joined : List ℕ → List ℕ → List (ℕ × Slot) → PartialMessage
joined a b c = record { seen = a; oneofs = b; slots = c }

-- the numbers of slots
abbrev seen : List (ℕ × Slot) → List ℕ
seen es = map (λ (d : ℕ × Slot). d.0) es

module _ (fields : List Field) where
  -- what has come of a message with these slots
  abbrev pub so_far : List (ℕ × Slot) → PartialMessage
  so_far done = record {
    seen = map (λ (d : ℕ × Slot). d.0) done;
    oneofs = oneofs_in fields done;
    slots = done;
  }

  -- the oneof of a field is told by its shape
  shape_oneofs : (f : Field) (shape : Shape) (ks : List ℕ)
      → oneofs_with shape ks ≡ ks ++ cons_option (oneof_of (Some (record f { shape = shape }))) []
  shape_oneofs f Single ks = sym (append-nil ks)
  shape_oneofs f (Member k) ks = refl
  shape_oneofs f ManyOf ks = sym (append-nil ks)
  shape_oneofs f (MapOf s) ks = sym (append-nil ks)

  -- a field more
  pub put_next : (done : List (ℕ × Slot)) (e : ℕ × Slot) (es : List (ℕ × Slot)) (f : Field)
      → field_in fields e.0 ≡ Some f → f.number ≡ e.0 → RiseFrom 0 (done ++ e ∷ es)
      → put_field (so_far done) (form_of f) (Some e.1) ≡ so_far (done ++ e ∷ [])
  put_next done e es f found number rise =
      ap (λ n. joined (seen done ++ n ∷ []) (oneofs_with f.shape (oneofs_in fields done)) (with_slot done n e.1)) number
      ∙ (ap (λ x. joined x (oneofs_with f.shape (oneofs_in fields done)) (with_slot done e.0 e.1))
      (sym (map-append (λ (d : ℕ × Slot). d.0) done (e ∷ [])))
      ∙ (ap (λ x. joined (seen (done ++ e ∷ [])) x (with_slot done e.0 e.1)) oneofs
      ∙ ap (joined (seen (done ++ e ∷ [])) (oneofs_in fields (done ++ e ∷ []))) (slot_put_last 0 done e es rise)))
    where
      oneofs : oneofs_with f.shape (oneofs_in fields done) ≡ oneofs_in fields (done ++ e ∷ [])
      oneofs =
          shape_oneofs f f.shape (oneofs_in fields done)
          ∙ (ap (λ o. oneofs_in fields done ++ cons_option (oneof_of o) []) (sym found)
          ∙ sym (filter_map-append (λ (d : ℕ × Slot). oneof_of (field_in fields d.0)) done (e ∷ [])))

  -- no other member of its oneof has a value
  pub not_taken : (done : List (ℕ × Slot)) (e : ℕ × Slot) (es : List (ℕ × Slot)) (f : Field)
      → field_in fields e.0 ≡ Some f → AreApart nat_eq (oneofs_in fields (done ++ e ∷ es))
      → is_taken (so_far done) f.shape ≡ false
  not_taken done e es f found apart = by_shape f.shape split
    where
      split : AreApart nat_eq (oneofs_in fields done ++ cons_option (oneof_of (Some f)) (oneofs_in fields es))
      split =
          subst (λ o. AreApart nat_eq (oneofs_in fields done ++ cons_option (oneof_of o) (oneofs_in fields es))) found
          (subst (AreApart nat_eq)
          (filter_map-append (λ (d : ℕ × Slot). oneof_of (field_in fields d.0)) done (e ∷ es)) apart)

      by_shape : (shape : Shape)
          → AreApart nat_eq
          (oneofs_in fields done ++ cons_option (oneof_of (Some (record f { shape = shape }))) (oneofs_in fields es))
          → is_taken (so_far done) shape ≡ false
      by_shape Single h = refl
      by_shape (Member k) h = apart_has (oneofs_in fields done) k (oneofs_in fields es) h
      by_shape ManyOf h = refl
      by_shape (MapOf s) h = refl
