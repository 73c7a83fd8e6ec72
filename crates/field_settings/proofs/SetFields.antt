-- A field that is set: what each number has then, and that a valid message stays valid.
use Rattle.std.proofs.Common.{◌≡◌, ◌≢◌, ◌==◌, ◌||◌, ◌<◌, ℕ, Bool, true, false, cond, List, [], ◌∷◌, Option, Some, None, IfSome, nat_eq, arith, refl, sym, ap, subst, ◌∙◌}
use Rattle.std.proofs.lemmas.Bool.{eqb-true, eq-eqb, false_from_ne_true}
use Rattle.field_settings.proofs.FoundSlots.{all_found, apart_of_oneofs, found_all, one_oneof_back, oneof_at, oneofs_of_apart}
use Rattle.field_settings.specs.AppliedSettings.{SetsField, is_one_oneof, shares_oneof}
use Rattle.field_settings.specs.SettingSteps.{field_set, is_other_member, value_without, with_held, without_others}
use Rattle.message_types.specs.Types.{field_in, fields_of}
use Rattle.message_types.specs.declared.fields.Field.{Field}
use Rattle.message_types.specs.declared.messages.TypeId.{TypeId}
use Rattle.message_types.specs.declared.messages.Types.{Types}
use Rattle.schema.proofs.Theorems.{RiseFrom-with_slot, RiseFrom-without_slot, slot_in-with_slot, slot_in_without_other, slot_in_without_same}
use Rattle.schema.specs.Apart.{AreApart}
use Rattle.schema.specs.Soundness.{AreNumbersApart, IsFreeNumber}
use Rattle.schema.specs.Validity.{AreFieldSlots, Inner, IsFieldSlot, IsMessage, IsSlot, oneof_of, oneofs_in}
use Rattle.schema.specs.Value.{RiseFrom, slot_at, slot_in, slots_of, without_slot}
use Rattle.schema.specs.declared.value.Slot.{Slot, out-Slot}
use Rattle.schema.specs.declared.value.Value.{Value}

module _ (f : Field) where
  -- a number is that of one of these fields that is another member
  abbrev is_cleared : List Field → ℕ → Bool
  is_cleared [] q = false
  is_cleared (g ∷ gs) q = cond (g.number == q) (is_other_member f g || is_cleared gs q) (is_cleared gs q)

  cleared_rise : (gs : List Field) (es : List (ℕ × Slot)) → RiseFrom 0 es → RiseFrom 0 (without_others f gs es)
  cleared_rise [] es r = r
  cleared_rise (g ∷ gs) es r = pick (is_other_member f g) (λ ds. cleared_rise gs ds)
    where
      pick : (b : Bool) → ((ds : List (ℕ × Slot)) → RiseFrom 0 ds → RiseFrom 0 (without_others f gs ds))
          → RiseFrom 0 (without_others f gs (cond b (without_slot es g.number) es))
      pick true below = below (without_slot es g.number) (RiseFrom-without_slot es 0 g.number r)
      pick false below = below es r

  both_none : (c : Bool) → ◌≡◌ {A = Option Slot} (cond c None None) None
  both_none true = refl
  both_none false = refl

  -- what is left once the other members were cleared
  cleared_slots : (gs : List Field) (es : List (ℕ × Slot)) (q : ℕ) → RiseFrom 0 es
      → slot_in (without_others f gs es) q ≡ cond (is_cleared gs q) None (slot_in es q)
  cleared_slots [] es q r = refl
  cleared_slots (g ∷ gs) es q r = pick (is_other_member f g) (g.number == q) refl (λ ds. cleared_slots gs ds q)
    where
      pick : (b c : Bool) → (g.number == q) ≡ c
          → ((ds : List (ℕ × Slot)) → RiseFrom 0 ds
          → slot_in (without_others f gs ds) q ≡ cond (is_cleared gs q) None (slot_in ds q))
          → slot_in (without_others f gs (cond b (without_slot es g.number) es)) q
          ≡ cond (cond c (b || is_cleared gs q) (is_cleared gs q)) None (slot_in es q)
      pick true true e below =
          below (without_slot es g.number) (RiseFrom-without_slot es 0 g.number r)
          ∙ ap (cond (is_cleared gs q) None)
          (ap (slot_in (without_slot es g.number)) (sym (eqb-true g.number q e)) ∙ slot_in_without_same es 0 g.number r)
          ∙ both_none (is_cleared gs q)
      pick true false e below =
          below (without_slot es g.number) (RiseFrom-without_slot es 0 g.number r)
          ∙ ap (cond (is_cleared gs q) None)
          (slot_in_without_other es g.number q
          (λ same. let c : true ≡ false = sym (eq-eqb g.number q same) ∙ e in cc c))
      pick false true e below = below es r
      pick false false e below = below es r

  -- a free number is that of none
  free_not_cleared : (gs : List Field) (q : ℕ) → IsFreeNumber q gs → is_cleared gs q ≡ false
  free_not_cleared [] q free = refl
  free_not_cleared (g ∷ gs) q free =
      ap (λ (b : Bool). cond b (is_other_member f g || is_cleared gs q) (is_cleared gs q))
      (false_from_ne_true (g.number == q)
      (λ t. let c : true ≡ false = sym (eq-eqb q g.number (sym (eqb-true g.number q t))) ∙ free.0 in cc c))
      ∙ free_not_cleared gs q free.1

  or_false : (b c : Bool) → c ≡ false → (b || c) ≡ b
  or_false true c h = refl
  or_false false c h = h

  -- the numbers that are cleared are those of the other members of the field's oneof
  cleared_share : (gs : List Field) (q : ℕ) → AreNumbersApart gs
      → is_cleared gs q ≡ cond (f.number == q) false (shares_oneof gs f q)
  cleared_share [] q apart = none (oneof_of (Some f)) (f.number == q)
    where
      none : (o : Option ℕ) (b : Bool) → false ≡ cond b false (is_one_oneof o None)
      none None true = refl
      none None false = refl
      none (Some k) true = refl
      none (Some k) false = refl
  cleared_share (g ∷ gs) q apart = pick (g.number == q) refl (cleared_share gs q apart.1)
    where
      pick : (c : Bool) → (g.number == q) ≡ c
          → is_cleared gs q ≡ cond (f.number == q) false (shares_oneof gs f q)
          → cond c (is_other_member f g || is_cleared gs q) (is_cleared gs q)
          ≡ cond (f.number == q) false (is_one_oneof (oneof_of (Some f)) (oneof_of (cond c (Some g) (field_in gs q))))
      pick true e below =
          let number : g.number ≡ q = eqb-true g.number q e in
          or_false (is_other_member f g) (is_cleared gs q)
          (free_not_cleared gs q (subst (λ (n : ℕ). IsFreeNumber n gs) number apart.0))
          ∙ ap (λ (b : Bool). cond b false (is_one_oneof (oneof_of (Some f)) (oneof_of (Some g)))) (turned number)
        where
          turned : g.number ≡ q → (g.number == f.number) ≡ (f.number == q)
          turned number = grind (arith, number)
      pick false e below = below

held_rise : (n : ℕ) (held : Option Slot) (es : List (ℕ × Slot)) → 0 < n → RiseFrom 0 es
    → RiseFrom 0 (with_held n held es)
held_rise n None es l r = RiseFrom-without_slot es 0 n r
held_rise n (Some s) es l r = RiseFrom-with_slot es 0 n s l r

held_slots : (n : ℕ) (held : Option Slot) (es : List (ℕ × Slot)) (q : ℕ) → RiseFrom 0 es
    → slot_in (with_held n held es) q ≡ cond (n == q) held (slot_in es q)
held_slots n (Some s) es q r = slot_in-with_slot es n s q
held_slots n None es q r = pick (n == q) refl
  where
    pick : (b : Bool) → (n == q) ≡ b → slot_in (without_slot es n) q ≡ cond b None (slot_in es q)
    pick true e =
        ap (slot_in (without_slot es n)) (sym (eqb-true n q e)) ∙ slot_in_without_same es 0 n r
    pick false e =
        slot_in_without_other es n q (λ same. let c : true ≡ false = sym (eq-eqb n q same) ∙ e in cc c)

-- the value that is made is one in which the field is set
pub field_is_set : (fields : List Field) (f : Field) (held : Option Slot) (v : Value) → AreNumbersApart fields
    → 0 < f.number → RiseFrom 0 (slots_of v) → SetsField fields f held v (field_set fields f held v)
field_is_set fields f held v apart some r =
    let left = cleared_rise f fields (slots_of v) r in
    record {
      rising = held_rise f.number held (without_others f fields (slots_of v)) some left;
      slots = λ q. held_slots f.number held (without_others f fields (slots_of v)) q left
          ∙ ap (cond (f.number == q) held)
          (cleared_slots f fields (slots_of v) q r
          ∙ ap (λ (b : Bool). cond b None (slot_at v q)) (cleared_share f fields q apart))
          ∙ once (f.number == q) (shares_oneof fields f q) (slot_at v q);
    }
  where
    once : (b c : Bool) (x : Option Slot)
        → cond b held (cond (cond b false c) None x) ≡ cond b held (cond c None x)
    once true c x = refl
    once false c x = refl

-- it does not matter what the field held
pub set_anew : (fields : List Field) (f : Field) (held : Option Slot) (v w : Value)
    → SetsField fields f held (value_without f.number v) w → SetsField fields f held v w
set_anew fields f held v w h = record { rising = h.rising; slots = λ q. h.slots q ∙ pick q (f.number == q) refl }
  where
    pick : (q : ℕ) (b : Bool) → (f.number == q) ≡ b
        → cond b held (cond (shares_oneof fields f q) None (slot_in (without_slot (slots_of v) f.number) q))
        ≡ cond b held (cond (shares_oneof fields f q) None (slot_at v q))
    pick q true e = refl
    pick q false e =
        ap (cond (shares_oneof fields f q) None)
        (slot_in_without_other (slots_of v) f.number q
        (λ same. let c : true ≡ false = sym (eq-eqb f.number q same) ∙ e in cc c))

-- a slot that a value has once a field was set is the one that was set, or one that the value had of a number that is
-- no other member of the field's oneof
data IsOrigin (fields : List Field) (f : Field) (held : Option Slot) (v : Value) (q : ℕ) (s : Slot) : Type 0 where
  own : f.number ≡ q → held ≡ Some s → IsOrigin fields f held v q s
  old : f.number ≢ q → shares_oneof fields f q ≡ false → slot_at v q ≡ Some s → IsOrigin fields f held v q s

origin : (fields : List Field) (f : Field) (held : Option Slot) (v w : Value) → SetsField fields f held v w
    → (q : ℕ) (s : Slot) → slot_at w q ≡ Some s → IsOrigin fields f held v q s
origin fields f held v w h q s k = pick (f.number == q) (shares_oneof fields f q) refl refl (sym (h.slots q) ∙ k)
  where
    pick : (b c : Bool) → (f.number == q) ≡ b → shares_oneof fields f q ≡ c
        → cond b held (cond c None (slot_at v q)) ≡ Some s → IsOrigin fields f held v q s
    pick true c e d g = own (eqb-true f.number q e) g
    pick false true e d g = absurd (cc g)
    pick false false e d g = old (λ same. let c : true ≡ false = sym (eq-eqb f.number q same) ∙ e in cc c) d g

module _ (inner : Inner) (types : Types) (id : TypeId) (f : Field) (held : Option Slot) (v w : Value)
    (found : field_in (fields_of types id) f.number ≡ Some f) where
  abbrev fields : List Field
  fields = fields_of types id

  origin_fits : (q : ℕ) (s : Slot) → IfSome held (λ x. IsSlot inner f f.shape (out-Slot x))
      → AreFieldSlots inner fields (slots_of v) → IsOrigin fields f held v q s
      → IsFieldSlot inner (field_in fields q) s
  origin_fits q s fits old_fit (own number is) =
      subst (λ (n : ℕ). IsFieldSlot inner (field_in fields n) s) number
      (subst (λ (o : Option Field). IsFieldSlot inner o s) (sym found)
      (subst (λ (o : Option Slot). IfSome o (λ (x : Slot). IsSlot inner f f.shape (out-Slot x))) is fits))
  origin_fits q s fits old_fit (old ne free k) =
      found_all (λ (e : ℕ × Slot). IsFieldSlot inner (field_in fields e.0) e.1) (slots_of v) q s old_fit k

  own_oneof : (q : ℕ) → f.number ≡ q → oneof_of (Some f) ≡ oneof_at fields q
  own_oneof q number = ap oneof_of (sym found) ∙ ap (oneof_at fields) number

  origins_apart : (q r : ℕ) (s t : Slot) → AreApart nat_eq (oneofs_in fields (slots_of v)) → q ≢ r
      → IsOrigin fields f held v q s → IsOrigin fields f held v r t
      → is_one_oneof (oneof_at fields q) (oneof_at fields r) ≡ false
  origins_apart q r s t apart ne (own a i) (own b j) = absurd (ne (sym a ∙ b))
  origins_apart q r s t apart ne (own a i) (old nb free k) =
      ap (λ (o : Option ℕ). is_one_oneof o (oneof_at fields r)) (sym (own_oneof q a)) ∙ free
  origins_apart q r s t apart ne (old na free k) (own b j) =
      one_oneof_back (oneof_at fields q) (oneof_at fields r)
      ∙ ap (λ (o : Option ℕ). is_one_oneof o (oneof_at fields q)) (sym (own_oneof r b))
      ∙ free
  origins_apart q r s t apart ne (old na free i) (old nb again k) =
      apart_of_oneofs fields (slots_of v) apart q r s t ne i k

  -- a message in which a field is set by a slot that fits it is a message
  pub set_field_fits : IfSome held (λ s. IsSlot inner f f.shape (out-Slot s)) → SetsField fields f held v w
      → IsMessage inner types id v → IsMessage inner types id w
  set_field_fits fits h m =
      let from : (q : ℕ) (s : Slot) → slot_at w q ≡ Some s → IsOrigin fields f held v q s =
      origin fields f held v w h in
      record {
        rising = h.rising;
        slots = all_found (λ (e : ℕ × Slot). IsFieldSlot inner (field_in fields e.0) e.1) (slots_of w) 0 h.rising
            (λ q s l k. origin_fits q s fits m.slots (from q s k));
        oneofs = oneofs_of_apart fields (slots_of w) 0 h.rising
            (λ q r s t ne l n j k. origins_apart q r s t m.oneofs ne (from q s j) (from r t k));
      }
