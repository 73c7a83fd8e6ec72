-- What fills a spot rightly, and what is valid of it in a message and in a map.
use Rattle.std.proofs.Common.{◌≡◌, ◌≢◌, ◌∙◌, sym, ap, subst, refl, arith, cond, nat_eq, ℕ, suc, Bool, true, false, List, [], ◌∷◌, ◌++◌, Option, Some, None}
use Rattle.std.specs.List.{AllByRecursion}
use Rattle.std.proofs.lemmas.Bool.Decides.{nat_tests}
use Rattle.base.proofs.EachLemmas.{each_weaker}
use Rattle.message_types.specs.Types.{field_in, fields_of}
use Rattle.message_types.specs.declared.fields.Field.{Field}
use Rattle.message_types.specs.declared.fields.Kind.{Kind}
use Rattle.message_types.specs.declared.fields.Presence.{Presence}
use Rattle.message_types.specs.declared.fields.Presence.TheVariants.{Implicit, Explicit}
use Rattle.message_types.specs.declared.fields.Scalar.{Scalar}
use Rattle.message_types.specs.declared.fields.Shape.{Shape}
use Rattle.message_types.specs.declared.fields.Shape.TheVariants.{Single, Member, Many as ManyOf, Map as MapOf}
use Rattle.message_types.specs.declared.messages.TypeId.{TypeId}
use Rattle.message_types.specs.declared.messages.Types.{Types}
use Rattle.schema.specs.Apart.{AreApart}
use Rattle.schema.specs.Layers.{ItemLayer, SlotLayer}
use Rattle.schema.specs.Pairs.{KeysRise}
use Rattle.schema.specs.Validity.{AreFieldSlots, IsFieldSlot, IsItem, IsSlot, IsStored, is_default, oneof_of, oneofs_in, valid_within}
use Rattle.schema.specs.Value.{RiseFrom}
use Rattle.schema.specs.declared.key.Key.{Key}
use Rattle.schema.specs.declared.value.Item.TheOpen.{One, Many, Pairs as Entries}
use Rattle.schema.specs.declared.value.Item.{Item, out-Item, out-roll-Item, roll-Item}
use Rattle.schema.specs.declared.value.Slot.{Slot, out-Slot, out-roll-Slot, roll-Slot}
use Rattle.schema.proofs.Theorems.{RiseFrom-with_slot}
use Rattle.json_meanings.specs.JsonDenotes.{slot_by}
use Rattle.json_meanings.specs.PartialMessages.{FieldForm, PartialMessage, empty_message, form_of, has_number, is_taken, oneofs_with, put_field, stored, value_of}
use Rattle.json_meanings.specs.ReadingSpots.{Filled, many, pairs, single, unset}
use Rattle.json_meanings.proofs.FieldLemmas.{IsFieldOf}
use Rattle.json_meanings.proofs.PutLemmas.{each_oneof_put, each_put, has_last, oneofs_apart_put, put_between, still_has}

-- a field with this shape has at most one item
abbrev pub IsOneShape : Shape → Type 0
IsOneShape Single = Unit {0}
IsOneShape (Member k) = Unit {0}
IsOneShape _ = ⊥

-- the items are values of a kind, with so many levels left
abbrev pub AreItems : Types → ℕ → Kind → List Item → Type 0
AreItems types k kind is = AllByRecursion (λ i. IsItem (valid_within k types) kind (out-Item i)) is

-- the entries are those of a map, with so many levels left
abbrev pub AreEntries : Types → ℕ → Scalar → Kind → List (Key × Item) → Type 0
AreEntries types k s kind es = KeysRise es × AllByRecursion ((valid_within k types).entry s kind) es

-- what fills a field rightly, with so many levels left
abbrev pub FillsField : Types → ℕ → FieldForm → Filled → Type 0
FillsField types k f unset = Unit {0}
FillsField types k f (single i) = IsOneShape f.shape × IsItem (valid_within k types) f.kind i
FillsField types k f (many is) = (f.shape ≡ ManyOf) × AreItems types k f.kind is
FillsField types k f (pairs es) = (s : Scalar) × (f.shape ≡ MapOf s) × AreEntries types k s f.kind es

module _ (types : Types) (k : ℕ) (f : Field) where
  slot_is : (shape : Shape) (o : SlotLayer) → IsSlot (valid_within k types) f shape o
      → IsSlot (valid_within k types) f shape (out-Slot (roll-Slot o))
  slot_is shape o h = subst (IsSlot (valid_within k types) f shape) (sym (out-roll-Slot o)) h

  one_slot : (shape : Shape) (i : ItemLayer) → IsOneShape shape → IsItem (valid_within k types) f.kind i
      → IsStored f.presence i
      → IsSlot (valid_within k types) f shape (One (roll-Item i))
  one_slot Single i is item kept =
      subst (λ (x : ItemLayer). IsItem (valid_within k types) f.kind x × IsStored f.presence x)
      (sym (out-roll-Item i)) (item, kept)
  one_slot (Member n) i is item kept =
      subst (λ (x : ItemLayer). IsItem (valid_within k types) f.kind x × IsStored f.presence x)
      (sym (out-roll-Item i)) (item, kept)
  one_slot ManyOf i is item kept = absurd is
  one_slot (MapOf s) i is item kept = absurd is

  stored_slot : (i : ItemLayer) → IsOneShape f.shape → IsItem (valid_within k types) f.kind i → (p : Presence)
      → f.presence ≡ p
      → (s : Slot) → stored p i ≡ Some s → IsSlot (valid_within k types) f f.shape (out-Slot s)
  stored_slot i shape item Explicit e s is =
      subst (λ w. IsSlot (valid_within k types) f f.shape (out-Slot w)) (cc is)
      (slot_is f.shape (One (roll-Item i)) (one_slot f.shape i shape item (subst (λ p. IsStored p i) (sym e) tt)))
  stored_slot i shape item Implicit e s is = by_default (is_default i) refl is
    where
      by_default : (b : Bool) → is_default i ≡ b → cond b None (Some (roll-Slot (One (roll-Item i)))) ≡ Some s
          → IsSlot (valid_within k types) f f.shape (out-Slot s)
      by_default true d q = absurd (cc q)
      by_default false d q =
          subst (λ w. IsSlot (valid_within k types) f f.shape (out-Slot w)) (cc q)
          (slot_is f.shape (One (roll-Item i)) (one_slot f.shape i shape item (subst (λ p. IsStored p i) (sym e) d)))

  -- the slot of what fills a field rightly
  pub filled_slot : (x : Filled) → FillsField types k (form_of f) x → (s : Slot) → slot_by (form_of f) x ≡ Some s
      → IsFieldSlot (valid_within k types) (Some f) s
  filled_slot unset h s is = absurd (cc is)
  filled_slot (single i) h s is = stored_slot i h.0 h.1 f.presence refl s is
  filled_slot (many []) h s is = absurd (cc is)
  filled_slot (many (i ∷ is)) h s same =
      let fits : IsSlot (valid_within k types) f ManyOf (Many (i ∷ is)) = ((λ e. absurd cc), h.1) in
      subst (λ w. IsSlot (valid_within k types) f f.shape (out-Slot w)) (cc same)
      (slot_is f.shape (Many (i ∷ is))
      (subst (λ shape. IsSlot (valid_within k types) f shape (Many (i ∷ is))) (sym h.0) fits))
  filled_slot (pairs []) h s is = absurd (cc is)
  filled_slot (pairs (e ∷ es)) h s same =
      let fits : IsSlot (valid_within k types) f (MapOf h.0) (Entries (record { entries = e ∷ es })) =
      ((λ q. absurd cc), h.2.0, h.2.1) in
      subst (λ w. IsSlot (valid_within k types) f f.shape (out-Slot w)) (cc same)
      (slot_is f.shape (Entries (record { entries = e ∷ es }))
      (subst (λ shape. IsSlot (valid_within k types) f shape (Entries (record { entries = e ∷ es })))
      (sym h.1) fits))

-- what has come of a message is valid so far, with so many levels left inside
pub record IsValidSoFar (types : Types) (k : ℕ) (id : TypeId) (m : PartialMessage) : Type 0 where
  pub rising : RiseFrom 0 m.slots
  pub slots : AreFieldSlots (valid_within k types) (fields_of types id) m.slots
  pub apart : AreApart nat_eq (oneofs_in (fields_of types id) m.slots)
  pub taken : AllByRecursion (λ o. has_number o m.oneofs ≡ true) (oneofs_in (fields_of types id) m.slots)
  pub seen : AllByRecursion (λ (e : ℕ × Slot). has_number e.0 m.seen ≡ true) m.slots

-- nothing is
pub empty_valid : (types : Types) (k : ℕ) (id : TypeId) → IsValidSoFar types k id empty_message
empty_valid types k id = record { rising = tt; slots = tt; apart = tt; taken = tt; seen = tt }

-- a message that is valid so far is valid at its end
pub valid_at_end : (types : Types) (k : ℕ) (id : TypeId) (m : PartialMessage) → IsValidSoFar types k id m
    → (valid_within (suc k) types).message id (value_of m)
unfolding valid_within
valid_at_end types k id m h = record { rising = h.rising; slots = h.slots; oneofs = h.apart }

module _ (types : Types) (k : ℕ) (id : TypeId) (m : PartialMessage) (so_far : IsValidSoFar types k id m) (f : Field)
    (field : IsFieldOf types id f) (fresh : has_number f.number m.seen ≡ false) where
  member_of : (o : ℕ) → oneof_of (field_in (fields_of types id) f.number) ≡ Some o → f.shape ≡ Member o
  member_of o e = by_shape f.shape refl (ap oneof_of (sym field.found) ∙ e)
    where
      by_shape : (shape : Shape) → f.shape ≡ shape → oneof_of (Some f) ≡ Some o → f.shape ≡ Member o
      by_shape shape is q = of_shape shape is (subst (λ (w : Option ℕ). w ≡ Some o) (of_field shape is) q)
        where
          index_of : Shape → Option ℕ
          index_of (Member n) = Some n
          index_of _ = None

          of_field : (shape : Shape) → f.shape ≡ shape → oneof_of (Some f)
              ≡ oneof_of (Some (record f { shape = shape }))
          of_field shape is = ap (λ w. oneof_of (Some (record f { shape = w }))) is

          of_shape : (shape : Shape) → f.shape ≡ shape → oneof_of (Some (record f { shape = shape })) ≡ Some o
              → f.shape ≡ Member o
          of_shape Single is q = absurd (cc q)
          of_shape (Member n) is q = is ∙ ap Member (cc q)
          of_shape ManyOf is q = absurd (cc q)
          of_shape (MapOf s) is q = absurd (cc q)

  no_slot : AllByRecursion (λ (e : ℕ × Slot). e.0 ≢ f.number) m.slots
  no_slot =
      each_weaker (λ (e : ℕ × Slot). has_number e.0 m.seen ≡ true) (λ (e : ℕ × Slot). e.0 ≢ f.number)
      (λ e h is. (let t : has_number f.number m.seen ≡ true = ap (λ n. has_number n m.seen) (sym is) ∙ h in
      absurd cc)) m.slots so_far.seen

  -- a field that is unset
  put_unset : IsValidSoFar types k id (put_field m (form_of f) None)
  put_unset = record {
    rising = so_far.rising;
    slots = so_far.slots;
    apart = so_far.apart;
    taken = so_far.taken;
    seen = each_weaker _ _ (λ e h. still_has e.0 m.seen (f.number ∷ []) h) m.slots so_far.seen;
  }

  taken_still : (shape : Shape) (o : ℕ) → has_number o m.oneofs ≡ true → has_number o (oneofs_with shape m.oneofs)
      ≡ true
  taken_still Single o h = h
  taken_still (Member n) o h = still_has o m.oneofs (n ∷ []) h
  taken_still ManyOf o h = h
  taken_still (MapOf s) o h = h

  put_slot : (s : Slot) → is_taken m f.shape ≡ false → IsFieldSlot (valid_within k types) (Some f) s
      → IsValidSoFar types k id (put_field m (form_of f) (Some s))
  put_slot s free fits =
      let between = put_between m.slots f.number s no_slot in
      let low = field.sound.low in
      record {
        rising = RiseFrom-with_slot m.slots 0 f.number s (omega (arith, low)) so_far.rising;
        slots =
            each_put _ m.slots f.number s _ between so_far.slots
            (subst (λ (o : Option Field). IsFieldSlot (valid_within k types) o s) (sym field.found) fits);
        apart = oneofs_apart_put (fields_of types id) m.slots f.number s _ between so_far.apart not_taken;
        taken =
            each_oneof_put (fields_of types id) m.slots f.number s _ between
            (λ o. has_number o (oneofs_with f.shape m.oneofs) ≡ true)
            (each_weaker _ _ (λ o h. taken_still f.shape o h) _ so_far.taken) now_taken;
        seen =
            each_put (λ (e : ℕ × Slot). has_number e.0 (m.seen ++ f.number ∷ []) ≡ true) m.slots f.number s _ between
            (each_weaker _ _ (λ e h. still_has e.0 m.seen (f.number ∷ []) h) m.slots so_far.seen)
            (has_last f.number m.seen);
      }
    where
      not_taken : (o : ℕ) → oneof_of (field_in (fields_of types id) f.number) ≡ Some o
          → AllByRecursion (λ j. nat_eq o j ≡ false) (oneofs_in (fields_of types id) m.slots)
      not_taken o e =
          let absent : has_number o m.oneofs ≡ false = subst (λ shape. is_taken m shape ≡ false) (member_of o e) free in
          each_weaker (λ j. has_number j m.oneofs ≡ true) (λ j. nat_eq o j ≡ false)
          (λ j h. other o j absent h) _ so_far.taken
        where
          other : (o j : ℕ) → has_number o m.oneofs ≡ false → has_number j m.oneofs ≡ true → nat_eq o j ≡ false
          other o j absent h = by_test (nat_eq o j) refl
            where
              by_test : (t : Bool) → nat_eq o j ≡ t → t ≡ false
              by_test false e = refl
              by_test true e =
                  let same : o ≡ j = grind (arith, nat_tests) in
                  let here : has_number o m.oneofs ≡ true = ap (λ n. has_number n m.oneofs) same ∙ h in absurd cc

      now_taken : (o : ℕ) → oneof_of (field_in (fields_of types id) f.number) ≡ Some o
          → has_number o (oneofs_with f.shape m.oneofs) ≡ true
      now_taken o e =
          subst (λ shape. has_number o (oneofs_with shape m.oneofs) ≡ true) (sym (member_of o e)) (has_last o m.oneofs)

  -- a field that is filled rightly
  pub put_filled : (x : Filled) → FillsField types k (form_of f) x → ((x ≡ unset → ⊥) → is_taken m f.shape ≡ false)
      → IsValidSoFar types k id (put_field m (form_of f) (slot_by (form_of f) x))
  put_filled x h free = by_slot (slot_by (form_of f) x) refl
    where
      some_is : (s : Slot) → slot_by (form_of f) x ≡ Some s → x ≡ unset → ⊥
      some_is s e is = let q : slot_by (form_of f) unset ≡ Some s = ap (slot_by (form_of f)) (sym is) ∙ e in absurd cc

      by_slot : (o : Option Slot) → slot_by (form_of f) x ≡ o → IsValidSoFar types k id (put_field m (form_of f) o)
      by_slot None e = put_unset
      by_slot (Some s) e = put_slot s (free (some_is s e)) (filled_slot types k f x h s e)
