-- A slot that is set at the end of a path, and settings one after the other: what is made is what is meant, and a valid
-- value stays valid.
use Rattle.std.proofs.Common.{◌≡◌, ◌==◌, ◌<◌, ◌+◌, ◌-◌, ℕ, Bool, true, false, cond, zero, suc, List, [], ◌∷◌, length, Option, Some, None, IfSome, arith, refl, sym, ap, subst, ◌∙◌}
use Rattle.std.specs.List.{AllByRecursion}
use Rattle.std.specs.Option.{option_map_or}
use Rattle.field_settings.proofs.FoundFields.{fields_sound, found_number}
use Rattle.field_settings.proofs.FoundSlots.{found_all}
use Rattle.field_settings.proofs.SetFields.{field_is_set, set_anew, set_field_fits}
use Rattle.field_settings.specs.AppliedSettings.{AreSet, FitsSetting, IsSettable, LeadsToSlot, Sets, SetsField, empty_message, is_absence, message_in, message_of_item, message_of_slot, message_slot, stored}
use Rattle.field_settings.specs.SettingSteps.{all_set, field_set, message_type, path_set, value_without}
use Rattle.field_settings.specs.declared.setting.Setting.{Setting}
use Rattle.linked_api.specs.FieldPaths.{IsSingular, LeadsInto}
use Rattle.message_types.specs.Types.{field_in, field_of, fields_of}
use Rattle.message_types.specs.declared.fields.Field.{Field}
use Rattle.message_types.specs.declared.fields.Kind.{Kind}
use Rattle.message_types.specs.declared.fields.Kind.TheVariants.{One as OneOf, Message as MessageOf}
use Rattle.message_types.specs.declared.fields.Presence.{Presence}
use Rattle.message_types.specs.declared.fields.Presence.TheVariants.{Implicit, Explicit}
use Rattle.message_types.specs.declared.fields.Shape.{Shape}
use Rattle.message_types.specs.declared.fields.Shape.TheVariants.{Single, Member, Many as ManyOf, Map as MapOf}
use Rattle.message_types.specs.declared.messages.TypeId.{TypeId}
use Rattle.message_types.specs.declared.messages.Types.{Types}
use Rattle.schema.proofs.Theorems.{RiseFrom-without_slot}
use Rattle.schema.specs.Layers.{ItemLayer, SlotLayer}
use Rattle.schema.specs.Pairs.{entries_of}
use Rattle.schema.specs.Soundness.{IsSound}
use Rattle.schema.specs.Validity.{Inner, IsFieldSlot, IsItem, IsMessage, IsSlot, IsStored, IsValid, valid_within}
use Rattle.schema.specs.Value.{slot_at, slots_of}
use Rattle.schema.specs.declared.value.Item.TheOpen.{Message, One, Many, Pairs}
use Rattle.schema.specs.declared.value.Item.{Item, out-Item, out-roll-Item, roll-Item}
use Rattle.schema.specs.declared.value.Slot.{Slot, out-Slot, out-roll-Slot}
use Rattle.schema.specs.declared.value.Value.{Value}

-- ---- what is stored fits

no_items : {A : Type 0} (xs : List A) → (length xs == 0) ≡ false → xs ≡ [] → ⊥
no_items [] h e = cc h
no_items (x ∷ xs) h e = cc e

item_stored : (p : Presence) (i : Item) → is_absence p (One i) ≡ false → IsStored p (out-Item i)
item_stored Implicit i h = h
item_stored Explicit i h = tt

present_fits : (inner : Inner) (f : Field) (shape : Shape) (s : SlotLayer) → IsSettable inner f shape s
    → is_absence f.presence s ≡ false → IsSlot inner f shape s
present_fits inner f Single (One i) h e = (h, item_stored f.presence i e)
present_fits inner f (Member k) (One i) h e = (h, item_stored f.presence i e)
present_fits inner f ManyOf (Many is) h e = (no_items is (many_some f.presence e), h)
  where
    many_some : (p : Presence) → is_absence p (Many is) ≡ false → (length is == 0) ≡ false
    many_some Implicit e = e
    many_some Explicit e = e
present_fits inner f (MapOf s) (Pairs ps) h e = (no_items (entries_of ps) (pairs_some f.presence e), h.0, h.1)
  where
    pairs_some : (p : Presence) → is_absence p (Pairs ps) ≡ false → (length (entries_of ps) == 0) ≡ false
    pairs_some Implicit e = e
    pairs_some Explicit e = e
present_fits inner f _ _ h e = absurd h

-- what a field holds of a slot that can be set in it fits it
stored_fits : (inner : Inner) (f : Field) (s : Slot) → IsSettable inner f f.shape (out-Slot s)
    → IfSome (stored f s) (λ x. IsSlot inner f f.shape (out-Slot x))
stored_fits inner f s h = pick (is_absence f.presence (out-Slot s)) refl
  where
    pick : (b : Bool) → is_absence f.presence (out-Slot s) ≡ b
        → IfSome (cond b None (Some s)) (λ x. IsSlot inner f f.shape (out-Slot x))
    pick true e = tt
    pick false e = present_fits inner f f.shape (out-Slot s) h e

-- ---- the messages on the way

message_stored : (p : Presence) (v : Value) → IsStored p (Message v)
message_stored Implicit v = refl
message_stored Explicit v = tt

message_item : (inner : Inner) (f : Field) (id : TypeId) (v : Value) → f.kind ≡ MessageOf id → inner.message id v
    → IsItem inner f.kind (out-Item (roll-Item (Message v))) × IsStored f.presence (out-Item (roll-Item (Message v)))
message_item inner f id v kind h = (
  subst (IsItem inner f.kind) (sym (out-roll-Item (Message v)))
      (subst (λ (k : Kind). IsItem inner k (Message v)) (sym kind) h),
  subst (IsStored f.presence) (sym (out-roll-Item (Message v))) (message_stored f.presence v),
)

message_layer : (inner : Inner) (f : Field) (shape : Shape) (id : TypeId) (v : Value) → IsSingular shape
    → f.kind ≡ MessageOf id → inner.message id v → IsSlot inner f shape (One (roll-Item (Message v)))
message_layer inner f Single id v one kind h = message_item inner f id v kind h
message_layer inner f (Member k) id v one kind h = message_item inner f id v kind h
message_layer inner f ManyOf id v one kind h = absurd one
message_layer inner f (MapOf s) id v one kind h = absurd one

-- a message fits a singular field of its type
message_fits : (inner : Inner) (f : Field) (id : TypeId) (v : Value) → IsSingular f.shape → f.kind ≡ MessageOf id
    → inner.message id v → IsSlot inner f f.shape (out-Slot (message_slot v))
message_fits inner f id v one kind h =
    subst (IsSlot inner f f.shape) (sym (out-roll-Slot (One (roll-Item (Message v)))))
    (message_layer inner f f.shape id v one kind h)

-- the empty message is valid where there is a level for it
pub empty_fits : (k : ℕ) (types : Types) (id : TypeId) → 0 < k → (valid_within k types).message id empty_message
unfolding valid_within
empty_fits zero types id some = omega (arith, some)
empty_fits (suc k) types id some = record { rising = tt; slots = tt; oneofs = tt }

item_message : (inner : Inner) (id : TypeId) (i : ItemLayer) → IsItem inner (MessageOf id) i
    → inner.message id (message_of_item i)
item_message inner id (Message v) h = h
item_message inner id _ h = absurd h

slot_message : (inner : Inner) (f : Field) (shape : Shape) (id : TypeId) (s : SlotLayer) → IsSingular shape
    → f.kind ≡ MessageOf id → IsSlot inner f shape s → inner.message id (message_of_slot s)
slot_message inner f Single id (One i) one kind h =
    item_message inner id (out-Item i) (subst (λ (k : Kind). IsItem inner k (out-Item i)) kind h.0)
slot_message inner f (Member k) id (One i) one kind h =
    item_message inner id (out-Item i) (subst (λ (k : Kind). IsItem inner k (out-Item i)) kind h.0)
slot_message inner f Single id _ one kind h = absurd h
slot_message inner f (Member k) id _ one kind h = absurd h
slot_message inner f ManyOf id s one kind h = absurd one
slot_message inner f (MapOf k) id s one kind h = absurd one

-- the message that a valid message holds in a singular field is valid one level further in, as is the empty one
held_fits : (k : ℕ) (types : Types) (f : Field) (id : TypeId) (o : Option Slot) → 0 < k → IsSingular f.shape
    → f.kind ≡ MessageOf id → ((s : Slot) → o ≡ Some s → IsFieldSlot (valid_within k types) (Some f) s)
    → (valid_within k types).message id (message_in o)
held_fits k types f id None some one kind h = empty_fits k types id some
held_fits k types f id (Some s) some one kind h =
    slot_message (valid_within k types) f f.shape id (out-Slot s) one kind (h s refl)

-- ---- where a path leads

leads_kind : (types : Types) (kind : Kind) (id : TypeId) → LeadsInto types kind id → kind ≡ MessageOf id
leads_kind types (OneOf s) id h = absurd h
leads_kind types (MessageOf k) id h = ap MessageOf h.0

-- ---- one field of a message

-- a field of a valid message is set, and the message stays valid
field_step : (k : ℕ) (types : Types) (id : TypeId) (n : ℕ) (f : Field) (held : Option Slot) (v : Value) → IsSound types
    → field_of types id n ≡ Some f → IfSome held (λ s. IsSlot (valid_within k types) f f.shape (out-Slot s))
    → IsMessage (valid_within k types) types id v
    → SetsField (fields_of types id) f held v (field_set (fields_of types id) f held v)
    × IsMessage (valid_within k types) types id (field_set (fields_of types id) f held v)
field_step k types id n f held v sound found fits m =
    let number = found_number types id n f sound found in
    let set = field_is_set (fields_of types id) f held v (fields_sound types id sound).numbers number.1 m.rising in (
      set,
      set_field_fits (valid_within k types) types id f held v (field_set (fields_of types id) f held v)
          (ap (field_in (fields_of types id)) number.0 ∙ found) fits set m,
    )

-- the same where what the field held was taken out before
retaken_step : (k : ℕ) (types : Types) (id : TypeId) (n : ℕ) (f : Field) (held : Option Slot) (v : Value)
    → IsSound types → field_of types id n ≡ Some f
    → IfSome held (λ s. IsSlot (valid_within k types) f f.shape (out-Slot s))
    → IsMessage (valid_within k types) types id v
    → SetsField (fields_of types id) f held v (field_set (fields_of types id) f held (value_without n v))
    × IsMessage (valid_within k types) types id (field_set (fields_of types id) f held (value_without n v))
retaken_step k types id n f held v sound found fits m =
    let number = found_number types id n f sound found in
    let made = field_set (fields_of types id) f held (value_without n v) in
    let anew : SetsField (fields_of types id) f held (value_without n v) made =
    field_is_set (fields_of types id) f held (value_without n v) (fields_sound types id sound).numbers number.1
    (RiseFrom-without_slot (slots_of v) 0 n m.rising) in
    let set : SetsField (fields_of types id) f held v made =
    set_anew (fields_of types id) f held v made
    (subst (λ (q : ℕ). SetsField (fields_of types id) f held (value_without q v) made) (sym number.0) anew) in (
      set,
      set_field_fits (valid_within k types) types id f held v made
          (ap (field_in (fields_of types id)) number.0 ∙ found) fits set m,
    )

-- ---- a path

-- what is made is what is meant, and a valid value stays valid: the path takes a level for each number, and the slot
-- has those that are left
pub path_is_set : (types : Types) (k : ℕ) (slot : Slot) (id : TypeId) (path : List ℕ) (v : Value) (j : ℕ)
    → IsSound types → LeadsToSlot (valid_within k types) types id path slot → j ≡ k + length path
    → (valid_within j types).message id v
    → Sets types id path slot v (path_set types id path slot v)
    × (valid_within j types).message id (path_set types id path slot v)
unfolding valid_within
path_is_set types k slot id [] v j sound leads e m = absurd leads
path_is_set types k slot id (n ∷ path) v zero sound leads e m = absurd m
path_is_set types k slot id (n ∷ []) v (suc j) sound leads e m =
    let f = leads.0 in
    let found : field_of types id n ≡ Some f = leads.1 in
    let same : k ≡ j = omega (arith, e) in
    let fits = stored_fits (valid_within j types) f slot
    (subst (λ (x : ℕ). IsSettable (valid_within x types) f f.shape (out-Slot slot)) same leads.2) in
    let step = field_step j types id n f (stored f slot) v sound found fits m in
    let made : field_set (fields_of types id) f (stored f slot) v ≡ path_set types id (n ∷ []) slot v =
    sym (ap (λ o. option_map_or (λ (g : Field). field_set (fields_of types id) g (stored g slot) v) o v) found) in (
      (f, found, subst (SetsField (fields_of types id) f (stored f slot) v) made step.0),
      subst (IsMessage (valid_within j types) types id) made step.1,
    )
path_is_set types k slot id (n ∷ m ∷ path) v (suc j) sound leads e valid =
    let f = leads.0.field in
    let next = leads.1 in
    let found : field_of types id n ≡ Some f = leads.0.field_is in
    let less : j ≡ k + length (m ∷ path) = omega (arith, e) in
    let kind = leads_kind types f.kind next leads.2 in
    let held = held_fits j types f next (slot_at v n) (omega (arith, less)) leads.0.singular kind
    (λ s g. subst (λ (o : Option Field). IsFieldSlot (valid_within j types) o s) found
    (found_all (λ (d : ℕ × Slot). IsFieldSlot (valid_within j types) (field_in (fields_of types id) d.0) d.1)
    (slots_of v) n s valid.slots g)) in
    let u = path_set types next (m ∷ path) slot (message_in (slot_at v n)) in
    let below = path_is_set types k slot next (m ∷ path) (message_in (slot_at v n)) j sound leads.3 less held in
    let step = retaken_step j types id n f (Some (message_slot u)) v sound found
    (message_fits (valid_within j types) f next u leads.0.singular kind below.1) valid in
    let made : field_set (fields_of types id) f (Some (message_slot u)) (value_without n v)
    ≡ path_set types id (n ∷ m ∷ path) slot v =
    sym (ap (λ o. option_map_or (λ (g : Field). option_map_or (λ (inner : TypeId).
    field_set (fields_of types id) g
    (Some (message_slot (path_set types inner (m ∷ path) slot (message_in (slot_at v n)))))
    (value_without n v)) (message_type g.kind) v) o v) found
    ∙ ap (λ o. option_map_or (λ (inner : TypeId).
    field_set (fields_of types id) f
    (Some (message_slot (path_set types inner (m ∷ path) slot (message_in (slot_at v n)))))
    (value_without n v)) o v) (ap message_type kind)) in (
      (
        f,
        found,
        next,
        leads.2,
        u,
        below.0,
        subst (SetsField (fields_of types id) f (Some (message_slot u)) v) made step.0,
      ),
      subst (IsMessage (valid_within j types) types id) made step.1,
    )

-- ---- settings

-- settings that fit are made one after the other, and a valid value stays valid
pub all_are_set : (types : Types) (id : TypeId) (settings : List Setting) (v : Value) → IsSound types
    → AllByRecursion (FitsSetting types id) settings → IsValid types id v
    → AreSet types id settings v (all_set types id settings v) × IsValid types id (all_set types id settings v)
all_are_set types id [] v sound fits valid = (refl, valid)
all_are_set types id (s ∷ settings) v sound fits valid =
    let levels = fits.0.levels in
    let one = path_is_set types (100 - length s.path) s.slot id s.path v 100 sound fits.0.leads
    (omega (arith, levels)) valid in
    let rest = all_are_set types id settings (path_set types id s.path s.slot v) sound fits.1 one.1 in
    ((path_set types id s.path s.slot v, one.0, rest.0), rest.1)
