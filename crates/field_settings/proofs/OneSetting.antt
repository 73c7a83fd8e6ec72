-- What is so of every setting: one value has it, what it set is found, the rest stays, and a second one replaces it.
use Rattle.std.proofs.Common.{◌≡◌, ◌≢◌, ◌==◌, ◌++◌, ◌↔◌, ℕ, Bool, true, false, cond, List, [], ◌∷◌, Option, Some, None, refl, sym, ap, subst, ◌∙◌}
use Rattle.std.proofs.lemmas.Bool.{eqb-true, eq-eqb, false_from_ne_true}
use Rattle.field_settings.proofs.FoundFields.{number_of}
use Rattle.field_settings.specs.AppliedSettings.{AreSet, Sets, SetsField, is_one_oneof, message_in, message_of_item, message_of_slot, message_slot, shares_oneof, stored}
use Rattle.field_settings.specs.SettingLaws.{HoldsAtEnd, KeepsAlong, KeepsOthers}
use Rattle.field_settings.specs.declared.setting.Setting.{Setting}
use Rattle.linked_api.specs.FieldPaths.{LeadsInto}
use Rattle.message_types.specs.Types.{field_in, field_of, fields_of}
use Rattle.message_types.specs.declared.fields.Field.{Field}
use Rattle.message_types.specs.declared.fields.Kind.{Kind}
use Rattle.message_types.specs.declared.fields.Kind.TheVariants.{One as OneOf, Message as MessageOf}
use Rattle.message_types.specs.declared.messages.TypeId.{TypeId}
use Rattle.message_types.specs.declared.messages.Types.{Types}
use Rattle.schema.proofs.Theorems.{same_slots}
use Rattle.schema.specs.Validity.{oneof_of}
use Rattle.schema.specs.Value.{slot_at}
use Rattle.schema.specs.declared.value.Item.TheOpen.{Message, One}
use Rattle.schema.specs.declared.value.Item.{out-roll-Item, roll-Item}
use Rattle.schema.specs.declared.value.Slot.{Slot, out-roll-Slot}
use Rattle.schema.specs.declared.value.Value.{Value}

-- ---- one field

-- one value has a field that holds this
field_once : (fields : List Field) (f : Field) (held : Option Slot) (v w x : Value) → SetsField fields f held v w
    → SetsField fields f held v x → w ≡ x
field_once fields f held v w x h k =
    ap (λ es. record { fields = es })
    (same_slots w.fields x.fields 0 h.rising k.rising (λ q. h.slots q ∙ sym (k.slots q)))

-- a field that is set holds what was set
held_there : (fields : List Field) (f : Field) (held : Option Slot) (v w : Value) → SetsField fields f held v w
    → slot_at w f.number ≡ held
held_there fields f held v w h =
    h.slots f.number
    ∙ ap (λ (b : Bool). cond b held (cond (shares_oneof fields f f.number) None (slot_at v f.number)))
    (eq-eqb f.number f.number refl)

-- the same, by the number under which the field was found
held_at : (fields : List Field) (n : ℕ) (f : Field) (held : Option Slot) (v w : Value) → field_in fields n ≡ Some f
    → SetsField fields f held v w → slot_at w n ≡ held
held_at fields n f held v w found h =
    ap (slot_at w) (sym (number_of fields n f found)) ∙ held_there fields f held v w h

-- the other numbers
others_keep : (fields : List Field) (n : ℕ) (f : Field) (held : Option Slot) (v w : Value) → field_in fields n ≡ Some f
    → SetsField fields f held v w → KeepsOthers fields n v w
others_keep fields n f held v w found h = record {
  rest = λ q ne e. other q ne ∙ ap (λ (c : Bool). cond c None (slot_at v q)) (shared q ∙ e);
  members = λ q ne e. other q ne ∙ ap (λ (c : Bool). cond c None (slot_at v q)) (shared q ∙ e);
}
  where
    other : (q : ℕ) → n ≢ q → slot_at w q ≡ cond (shares_oneof fields f q) None (slot_at v q)
    other q ne =
        h.slots q
        ∙ ap (λ (b : Bool). cond b held (cond (shares_oneof fields f q) None (slot_at v q)))
        (false_from_ne_true (f.number == q) (λ t. ne (sym (number_of fields n f found) ∙ eqb-true f.number q t)))

    shared : (q : ℕ) → shares_oneof fields f q
        ≡ is_one_oneof (oneof_of (field_in fields n)) (oneof_of (field_in fields q))
    shared q = ap (λ (o : Option Field). is_one_oneof (oneof_of o) (oneof_of (field_in fields q))) (sym found)

-- a field that is set again is as if it was set once
field_again : (fields : List Field) (f : Field) (first second : Option Slot) (v u w : Value)
    → SetsField fields f first v u → SetsField fields f second u w → SetsField fields f second v w
field_again fields f first second v u w h k = record {
  rising = k.rising;
  slots = λ q. k.slots q
      ∙ ap (λ (x : Option Slot). cond (f.number == q) second (cond (shares_oneof fields f q) None x)) (h.slots q)
      ∙ once (f.number == q) (shares_oneof fields f q) (slot_at v q);
}
  where
    once : (b c : Bool) (x : Option Slot)
        → cond b second (cond c None (cond b first (cond c None x))) ≡ cond b second (cond c None x)
    once true c x = refl
    once false true x = refl
    once false false x = refl

-- ---- one path

same_field : (o : Option Field) (f g : Field) → o ≡ Some f → o ≡ Some g → f ≡ g
same_field o f g h k = let both : Some f ≡ Some g = sym h ∙ k in cc both

leads_once : (types : Types) (kind : Kind) (a b : TypeId) → LeadsInto types kind a → LeadsInto types kind b → a ≡ b
leads_once types (OneOf s) a b h k = absurd h
leads_once types (MessageOf j) a b h k = sym h.0 ∙ k.0

-- a message is what its slot holds
pub message_back : (u : Value) → message_in (Some (message_slot u)) ≡ u
message_back u =
    ap message_of_slot (out-roll-Slot (One (roll-Item (Message u)))) ∙ ap message_of_item (out-roll-Item (Message u))

-- one value has a slot set at the end of a path
pub set_once : (types : Types) (id : TypeId) (path : List ℕ) (slot : Slot) (v w x : Value)
    → Sets types id path slot v w → Sets types id path slot v x → w ≡ x
set_once types id [] slot v w x h k = absurd h
set_once types id (n ∷ []) slot v w x h k =
    let same : h.0 ≡ k.0 = same_field (field_of types id n) h.0 k.0 h.1 k.1 in
    field_once (fields_of types id) h.0 (stored h.0 slot) v w x h.2
    (subst (λ (g : Field). SetsField (fields_of types id) g (stored g slot) v x) (sym same) k.2)
set_once types id (n ∷ m ∷ path) slot v w x h k =
    let field : h.0 ≡ k.0 = same_field (field_of types id n) h.0 k.0 h.1 k.1 in
    let inner : h.2 ≡ k.2 =
    leads_once types h.0.kind h.2 k.2 h.3 (subst (λ (g : Field). LeadsInto types g.kind k.2) (sym field) k.3) in
    let below : h.4 ≡ k.4 =
    set_once types h.2 (m ∷ path) slot (message_in (slot_at v n)) h.4 k.4 h.5
    (subst (λ (t : TypeId). Sets types t (m ∷ path) slot (message_in (slot_at v n)) k.4) (sym inner) k.5) in
    field_once (fields_of types id) h.0 (Some (message_slot h.4)) v w x h.6
    (subst (λ (u : Value). SetsField (fields_of types id) h.0 (Some (message_slot u)) v x) (sym below)
    (subst (λ (g : Field). SetsField (fields_of types id) g (Some (message_slot k.4)) v x) (sym field) k.6))

-- what was set is found at the end of its path
pub set_holds : (types : Types) (id : TypeId) (path : List ℕ) (slot : Slot) (v w : Value)
    → Sets types id path slot v w → HoldsAtEnd types id path slot w
set_holds types id [] slot v w h = absurd h
set_holds types id (n ∷ []) slot v w h =
    (h.0, h.1, held_at (fields_of types id) n h.0 (stored h.0 slot) v w h.1 h.2)
set_holds types id (n ∷ m ∷ path) slot v w h = (
  h.0,
  h.1,
  h.2,
  h.3,
  h.4,
  held_at (fields_of types id) n h.0 (Some (message_slot h.4)) v w h.1 h.6,
  set_holds types h.2 (m ∷ path) slot (message_in (slot_at v n)) h.4 h.5,
)

-- the rest stays, at each message on the way
pub set_keeps : (types : Types) (id : TypeId) (path : List ℕ) (slot : Slot) (v w : Value)
    → Sets types id path slot v w → KeepsAlong types id path v w
set_keeps types id [] slot v w h = absurd h
set_keeps types id (n ∷ []) slot v w h =
    others_keep (fields_of types id) n h.0 (stored h.0 slot) v w h.1 h.2
set_keeps types id (n ∷ m ∷ path) slot v w h =
    let below = set_keeps types h.2 (m ∷ path) slot (message_in (slot_at v n)) h.4 h.5 in
    let there : message_in (slot_at w n) ≡ h.4 =
    ap message_in (held_at (fields_of types id) n h.0 (Some (message_slot h.4)) v w h.1 h.6) ∙ message_back h.4 in (
      others_keep (fields_of types id) n h.0 (Some (message_slot h.4)) v w h.1 h.6,
      h.0,
      h.1,
      h.2,
      h.3,
      subst (KeepsAlong types h.2 (m ∷ path) (message_in (slot_at v n))) (sym there) below,
    )

-- what is set twice is what is set last
pub set_again : (types : Types) (id : TypeId) (path : List ℕ) (first second : Slot) (v u w : Value)
    → Sets types id path first v u → Sets types id path second u w → Sets types id path second v w
set_again types id [] first second v u w h k = absurd h
set_again types id (n ∷ []) first second v u w h k =
    let field : h.0 ≡ k.0 = same_field (field_of types id n) h.0 k.0 h.1 k.1 in (
      k.0,
      k.1,
      field_again (fields_of types id) k.0 (stored k.0 first) (stored k.0 second) v u w
          (subst (λ (g : Field). SetsField (fields_of types id) g (stored g first) v u) field h.2) k.2,
    )
set_again types id (n ∷ m ∷ path) first second v u w h k =
    let field : h.0 ≡ k.0 = same_field (field_of types id n) h.0 k.0 h.1 k.1 in
    let inner : h.2 ≡ k.2 =
    leads_once types k.0.kind h.2 k.2 (subst (λ (g : Field). LeadsInto types g.kind h.2) field h.3) k.3 in
    let there : message_in (slot_at u n) ≡ h.4 =
    ap message_in (held_at (fields_of types id) n h.0 (Some (message_slot h.4)) v u h.1 h.6) ∙ message_back h.4 in
    let before : Sets types k.2 (m ∷ path) first (message_in (slot_at v n)) h.4 =
    subst (λ (t : TypeId). Sets types t (m ∷ path) first (message_in (slot_at v n)) h.4) inner h.5 in
    let after : Sets types k.2 (m ∷ path) second h.4 k.4 =
    subst (λ (x : Value). Sets types k.2 (m ∷ path) second x k.4) there k.5 in (
      k.0,
      k.1,
      k.2,
      k.3,
      k.4,
      set_again types k.2 (m ∷ path) first second (message_in (slot_at v n)) h.4 k.4 before after,
      field_again (fields_of types id) k.0 (Some (message_slot h.4)) (Some (message_slot k.4)) v u w
          (subst (λ (g : Field). SetsField (fields_of types id) g (Some (message_slot h.4)) v u) field h.6) k.6,
    )

-- ---- settings

-- one value has settings made in it
pub all_set_once : (types : Types) (id : TypeId) (settings : List Setting) (v w x : Value)
    → AreSet types id settings v w → AreSet types id settings v x → w ≡ x
all_set_once types id [] v w x h k = sym h ∙ k
all_set_once types id (s ∷ settings) v w x h k =
    let first : h.0 ≡ k.0 = set_once types id s.path s.slot v h.0 k.0 h.1 k.1 in
    all_set_once types id settings h.0 w x h.2 (subst (λ (u : Value). AreSet types id settings u x) (sym first) k.2)

-- lists of settings, joined, are made one after the other
pub set_joined : (types : Types) (id : TypeId) (first second : List Setting) (v w : Value)
    → AreSet types id (first ++ second) v w
    ↔ ((u : Value) × AreSet types id first v u × AreSet types id second u w)
set_joined types id [] second v w =
    (λ h. (v, refl, h), λ k. subst (λ (u : Value). AreSet types id second u w) (sym k.1) k.2)
set_joined types id (s ∷ first) second v w = (
  λ h. let rest = (set_joined types id first second h.0 w).0 h.2 in (rest.0, (h.0, h.1, rest.1), rest.2),
  λ k. (k.1.0, k.1.1, (set_joined types id first second k.1.0 w).1 (k.0, k.1.2, k.2)),
)
