-- Of the members of a oneof one at most is decoded: each counts only behind the last record that sets another.
use Rattle.std.proofs.Common.{◌≡◌, ◌≢◌, ◌<◌, ◌≤◌, ◌==◌, ◌&&◌, ◌||◌, ℕ, Bool, true, false, cond, nat_eq, List, [], ◌∷◌, Option, Some, None, arith, refl, ap, sym, ◌∙◌, option_and_then}
use Rattle.std.specs.List.{AllByRecursion, cons_option, list_any}
use Rattle.std.proofs.lemmas.Bool.{eqb-true, eq-eqb}
use Rattle.schema.specs.Apart.{AreApart}
use Rattle.message_types.specs.Types.{field_in}
use Rattle.schema.specs.Validity.{oneof_of, oneofs_in}
use Rattle.schema.specs.Value.{RiseFrom}
use Rattle.schema.specs.declared.value.Slot.{Slot}
use Rattle.message_types.specs.declared.fields.Field.{Field}
use Rattle.message_types.specs.declared.fields.Kind.{Kind}
use Rattle.message_types.specs.declared.fields.Shape.{Shape}
use Rattle.message_types.specs.declared.fields.Shape.TheVariants.{Single, Member, Many as ManyOf, Map as MapOf}
use Rattle.message_types.specs.declared.messages.Types.{Types}
use Rattle.wire_format.specs.FieldValues.{since, payloads, counts, in_oneof, counts_in, sets_other, counted, Inner, singular, slot_by, slot_of}
use Rattle.wire_records.specs.WireRecord.{Record}
use Rattle.wire_format.proofs.round_trip.FieldRecordLemmas.{eqb_apart}
use Rattle.wire_format.proofs.round_trip.MemberLemmas.{oneof_is, singular_some, stored_some}

-- ---- tests on lists

-- one that passes one test passes the other
pub some_up : {A : Type 0} (p q : A → Bool) → ((x : A) → p x ≡ true → q x ≡ true) → (xs : List A) → list_any p xs ≡ true → list_any q xs ≡ true
some_up p q up [] h = h
some_up p q up (x ∷ xs) h = by (p x) refl h (λ g. some_up p q up xs g)
  where
    right : (b c : Bool) → c ≡ true → (b || c) ≡ true
    right true c e = refl
    right false c e = e

    by : (b : Bool) → p x ≡ b → (b || list_any p xs) ≡ true → (list_any p xs ≡ true → list_any q xs ≡ true) → (q x || list_any q xs) ≡ true
    by true e g ih = rw (up x e) refl
    by false e g ih = right (q x) (list_any q xs) (ih g)

-- what stands behind is of the list
pub some_since : {A : Type 0} (p q : A → Bool) (xs : List A) → list_any q (since p xs) ≡ true → list_any q xs ≡ true
some_since p q [] h = h
some_since p q (x ∷ xs) h = by (list_any p (x ∷ xs)) h (some_since p q xs)
  where
    right : (b c : Bool) → c ≡ true → (b || c) ≡ true
    right true c e = refl
    right false c e = e

    by : (b : Bool) → list_any q (cond b (since p xs) (x ∷ xs)) ≡ true → (list_any q (since p xs) ≡ true → list_any q xs ≡ true) → list_any q (x ∷ xs) ≡ true
    by true h ih = right (q x) (list_any q xs) (ih h)
    by false h ih = h

no_such : (b : Bool) → b ≡ false → b ≡ true → ⊥
no_such b f t = absurd (let c : true ≡ false = sym t ∙ f in cc)

-- not both: one behind the last of the others, and one of the others behind the last of it
not_both : {A : Type 0} (p q a b : A → Bool) → ((x : A) → b x ≡ true → p x ≡ true) → ((x : A) → a x ≡ true → q x ≡ true) → (xs : List A) → list_any a (since p xs) ≡ true → list_any b (since q xs) ≡ true → ⊥
not_both p q a b up vp [] h g = no_such false refl h
not_both p q a b up vp (x ∷ xs) h g = by (list_any p (x ∷ xs)) (list_any q (x ∷ xs)) refl refl h g (not_both p q a b up vp xs)
  where
    by : (c d : Bool) → list_any p (x ∷ xs) ≡ c → list_any q (x ∷ xs) ≡ d → list_any a (cond c (since p xs) (x ∷ xs)) ≡ true → list_any b (cond d (since q xs) (x ∷ xs)) ≡ true
        → (list_any a (since p xs) ≡ true → list_any b (since q xs) ≡ true → ⊥) → ⊥
    by true true e f h g ih = ih h g
    by false true e f h g ih = no_such (list_any p (x ∷ xs)) e (some_up b p up (x ∷ xs) (some_since q b (x ∷ xs) (rw f g)))
    by c false e f h g ih = no_such (list_any q (x ∷ xs)) f (some_up a q vp (x ∷ xs) (some_since p a (x ∷ xs) (rw e h)))

-- ---- a record that counts

module _ (inner : Inner) (types : Types) where
  -- a record of number `n` that counts for this kind
  abbrev pub is_counted : ℕ → Kind → Record → Bool
  is_counted n kind r = r.number == n && counts types kind r.payload

  record_some : (n : ℕ) (kind : Kind) (rs : List Record) → list_any (counts types kind) (payloads n rs) ≡ true → list_any (is_counted n kind) rs ≡ true
  record_some n kind [] h = h
  record_some n kind (r ∷ rs) h = by (r.number == n) h (record_some n kind rs)
    where
      or_up : (b c d : Bool) → (c ≡ true → d ≡ true) → (b || c) ≡ true → (b || d) ≡ true
      or_up true c d up e = refl
      or_up false c d up e = up e

      by : (b : Bool) → list_any (counts types kind) (cond b (r.payload ∷ payloads n rs) (payloads n rs)) ≡ true → (list_any (counts types kind) (payloads n rs) ≡ true → list_any (is_counted n kind) rs ≡ true)
          → ((b && counts types kind r.payload) || list_any (is_counted n kind) rs) ≡ true
      by true h ih = or_up (counts types kind r.payload) (list_any (counts types kind) (payloads n rs)) (list_any (is_counted n kind) rs) ih h
      by false h ih = ih h

  -- ---- the members of a oneof

  module _ (fields : List Field) (rs : List Record) (k : ℕ) where
    -- the field of a number is a member of the oneof
    pub record IsMember (n : ℕ) : Type 0 where
      pub field : Field
      pub known : field_in fields n ≡ Some field
      pub shape : field.shape ≡ Member k

    some_ℕ : (x y : ℕ) → ◌≡◌ {A = Option ℕ} (Some x) (Some y) → x ≡ y
    some_ℕ x y e = cc

    no_member : (o : Option ℕ) → o ≡ None → o ≡ Some k → ⊥
    no_member o p q = cc

    -- a number with a oneof is that of a member of it
    pub member_is : (n : ℕ) (o : Option Field) → field_in fields n ≡ o → oneof_of o ≡ Some k → IsMember n
    member_is n None known h = absurd cc
    member_is n (Some f) known h = by f.shape refl
      where
        by : (shape : Shape) → f.shape ≡ shape → IsMember n
        by (Member j) e = record { field = f; known = known; shape = e ∙ ap (λ (x : ℕ). Member x) (some_ℕ j k (sym (oneof_is f (Member j) e) ∙ h)) }
        by Single e = absurd (no_member (oneof_of (Some f)) (oneof_is f Single e) h)
        by ManyOf e = absurd (no_member (oneof_of (Some f)) (oneof_is f ManyOf e) h)
        by (MapOf s) e = absurd (no_member (oneof_of (Some f)) (oneof_is f (MapOf s) e) h)

    -- a member that has a slot has a record that counts behind the last that sets another
    pub member_counts : (n : ℕ) (m : IsMember n) (s : Slot) → slot_of inner types fields rs n ≡ Some s → list_any (is_counted n m.field.kind) (since (sets_other types fields k n) rs) ≡ true
    member_counts n m s h =
        let f = m.field in
        let at : slot_by inner types f.presence (Member k) f.kind (payloads n (counted types fields n (Member k) rs)) ≡ Some s =
        ap (λ (x : Shape). slot_by inner types f.presence x f.kind (payloads n (counted types fields n x rs))) (sym m.shape)
        ∙ ap (option_and_then (λ (g : Field). slot_by inner types g.presence g.shape g.kind (payloads n (counted types fields n g.shape rs)))) (sym m.known) ∙ h in
        let i = stored_some inner types f.presence (singular inner types f.kind (payloads n (since (sets_other types fields k n) rs))) s at in
        record_some n f.kind (since (sets_other types fields k n) rs) (singular_some inner types f.kind (payloads n (since (sets_other types fields k n) rs)) i.0 i.1)

    -- such a record sets another than each other number
    pub counts_sets : (n m : ℕ) (x : IsMember n) → n ≢ m → (r : Record) → is_counted n x.field.kind r ≡ true → sets_other types fields k m r ≡ true
    counts_sets n m x ne r h =
        let b = both (r.number == n) (counts types x.field.kind r.payload) h in
        let is : r.number ≡ n = eqb-true r.number n b.0 in
        let other : (r.number == m) ≡ false = eqb_apart r.number m (λ e. ne (sym is ∙ e)) in
        let inside : in_oneof k x.field.shape ≡ true = ap (in_oneof k) x.shape ∙ eq-eqb k k refl in
        let counts_is : counts_in types k (field_in fields r.number) r.payload ≡ true =
        ap (λ (o : Option Field). counts_in types k o r.payload) (ap (field_in fields) is ∙ x.known) ∙ rw (inside, b.1) refl in
        rw other counts_is
      where
        both : (b c : Bool) → (b && c) ≡ true → (b ≡ true) × (c ≡ true)
        both true c h = (refl, h)
        both false c h = absurd cc

    one_member : (m n : ℕ) (s t : Slot) → m ≢ n → slot_of inner types fields rs m ≡ Some s → slot_of inner types fields rs n ≡ Some t → oneof_of (field_in fields m) ≡ Some k → oneof_of (field_in fields n) ≡ Some k → ⊥
    one_member m n s t ne h g o q =
        let x = member_is m (field_in fields m) refl o in
        let y = member_is n (field_in fields n) refl q in
        not_both (sets_other types fields k m) (sets_other types fields k n) (is_counted m x.field.kind) (is_counted n y.field.kind)
        (counts_sets n m y (λ e. ne (sym e))) (counts_sets m n x ne) rs (member_counts m x s h) (member_counts n y t g)

  module _ (fields : List Field) (rs : List Record) where
    abbrev HaveSlots : List (ℕ × Slot) → Type 0
    HaveSlots es = AllByRecursion (λ (e : ℕ × Slot). slot_of inner types fields rs e.0 ≡ Some e.1) es

    free_all : (k m low : ℕ) (s : Slot) (es : List (ℕ × Slot)) → slot_of inner types fields rs m ≡ Some s → oneof_of (field_in fields m) ≡ Some k → m ≤ low → RiseFrom low es → HaveSlots es
        → AllByRecursion (λ (j : ℕ). nat_eq k j ≡ false) (oneofs_in fields es)
    free_all k m low s [] h o l rise has = tt
    free_all k m low s (e ∷ es) h o l rise has = by (oneof_of (field_in fields e.0)) refl (free_all k m e.0 s es h o (let above : low < e.0 = rise.0 in omega arith) rise.1 has.1)
      where
        apart : m ≢ e.0
        apart z = absurd (let above : low < e.0 = rise.0 in omega arith)

        by : (x : Option ℕ) → oneof_of (field_in fields e.0) ≡ x → AllByRecursion (λ (j : ℕ). nat_eq k j ≡ false) (oneofs_in fields es) → AllByRecursion (λ (j : ℕ). nat_eq k j ≡ false) (cons_option x (oneofs_in fields es))
        by None q g = g
        by (Some j) q g = (eqb_apart k j (λ z. one_member fields rs k m e.0 s e.1 apart h has.0 o (q ∙ ap (λ (y : ℕ). Some y) (sym z))), g)

    -- slots that are decoded are of no two members of one oneof
    pub oneofs_apart : (low : ℕ) (es : List (ℕ × Slot)) → RiseFrom low es → HaveSlots es → AreApart nat_eq (oneofs_in fields es)
    oneofs_apart low [] rise has = tt
    oneofs_apart low (e ∷ es) rise has = by (oneof_of (field_in fields e.0)) refl (oneofs_apart e.0 es rise.1 has.1)
      where
        by : (x : Option ℕ) → oneof_of (field_in fields e.0) ≡ x → AreApart nat_eq (oneofs_in fields es) → AreApart nat_eq (cons_option x (oneofs_in fields es))
        by None q g = g
        by (Some k) q g = (free_all k e.0 e.0 e.1 es has.0 q (omega arith) rise.1 has.1, g)
