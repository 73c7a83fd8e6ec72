-- Canonical bytes undo nothing that they set.
use Rattle.std.proofs.Common.{◌≡◌, ◌≢◌, ◌≤◌, ℕ, zero, suc, cond, nat_eq, List, [], ◌∷◌, Option, Some, None, arith, refl, ap, sym, ◌∙◌, subst, append-nil, is_some}
use Rattle.std.specs.List.{AllByRecursion}
use Rattle.schema.specs.Apart.{AreApart}
use Rattle.schema.specs.Layers.{ItemLayer, SlotLayer}
use Rattle.schema.specs.Soundness.{IsSoundField}
use Rattle.message_types.specs.Types.{field_in, fields_of}
use Rattle.schema.specs.Validity.{IsItem, IsSlot, oneofs_in, valid_within, IsValid}
use Rattle.schema.specs.Value.{RiseFrom, slots_of, slot_in}
use Rattle.schema.specs.declared.value.Item.TheOpen.{Message, One}
use Rattle.schema.specs.declared.value.Item.{out-Item, Item}
use Rattle.schema.specs.declared.value.Slot.{Slot, out-Slot}
use Rattle.schema.specs.declared.value.Value.{Value}
use Rattle.message_types.specs.declared.fields.Field.{Field}
use Rattle.message_types.specs.declared.fields.Kind.{Kind}
use Rattle.message_types.specs.declared.fields.Kind.TheVariants.{One as OneOf, Message as MessageOf}
use Rattle.message_types.specs.declared.fields.Shape.{Shape}
use Rattle.message_types.specs.declared.fields.Shape.TheVariants.{Single, Member, Many as ManyOf, Map as MapOf}
use Rattle.message_types.specs.declared.messages.TypeId.{TypeId}
use Rattle.message_types.specs.declared.messages.Types.{Types}
use Rattle.wire_format.specs.Laws.{HasSoundFields}
use Rattle.wire_format.specs.CanonicalBytes.{slots_bytes, canonical_within, canonical_bytes}
use Rattle.wire_format.specs.FieldValues.{payloads, slot_of, meaning_within}
use Rattle.wire_format.specs.KeptFields.{KeepsSlot, KeepsMessage, KeepsField, KeepsAll}
use Rattle.wire_format.specs.PayloadLengths.{HasLength, HasItemLength, HasSlotLengths, HaveFieldLengths, HasLengths}
use Rattle.wire_records.specs.WireRecord.{Record, Payload}
use Rattle.wire_format.proofs.round_trip.ItemReadLemmas.{item_payload, ReadsBack}
use Rattle.wire_format.proofs.round_trip.LengthLemmas.{slots_short}
use Rattle.wire_format.proofs.round_trip.MessageReadLemmas.{IsEntry, fields_sound, all_entries, found_records, all_found, entry_at, no_slot, slots_again}
use Rattle.wire_format.proofs.round_trip.RisingLemmas.{slot_in_gather}
use Rattle.wire_format.proofs.round_trip.RoundTrip.{reads_back}

-- no payloads of a field undo nothing, where no bytes of a message do
none_kept : (inner : List Field → List ℕ → Type 0) (types : Types) → ((id : TypeId) → inner (fields_of types id) []) → (shape : Shape) (kind : Kind) (o : Option Slot) → KeepsField inner types shape kind [] o
none_kept inner types nothing shape kind o = by shape
  where
    message : (kind : Kind) → KeepsMessage inner types kind []
    message (OneOf s) = tt
    message (MessageOf id) = nothing id

    slot : KeepsSlot types kind [] o
    slot h = absurd cc

    by : (shape : Shape) → KeepsField inner types shape kind [] o
    by Single = (slot, message kind)
    by (Member j) = (slot, message kind)
    by ManyOf = tt
    by (MapOf s) = tt

-- no bytes undo nothing
keeps_nothing : (k : ℕ) (types : Types) (fields : List Field) → KeepsAll k types fields []
unfolding KeepsAll
keeps_nothing zero types fields = tt
keeps_nothing (suc k) types fields = λ n f known. none_kept (KeepsAll k types) types (λ id. keeps_nothing k types (fields_of types id)) f.shape f.kind (slot_of (meaning_within k types) types fields [] n)

-- what is valid in so many levels, written by `sub`, undoes nothing
pub record KeepsBack (k : ℕ) (types : Types) (sub : TypeId → Value → List ℕ) : Type 0 where
  pub message : (id : TypeId) (w : Value) → (valid_within k types).message id w → HasLength (sub id w) → KeepsAll k types (fields_of types id) (sub id w)

module _ (k : ℕ) (types : Types) (sub : TypeId → Value → List ℕ) (deeper : ReadsBack k types sub) (keeps : KeepsBack k types sub) (fields : List Field) (sound : AllByRecursion (IsSoundField types) fields) where
  -- the message that is written of an item
  item_keeps : (kind : Kind) (i : ItemLayer) → IsItem (valid_within k types) kind i → HasItemLength sub kind i → KeepsMessage (KeepsAll k types) types kind (item_payload sub kind i ∷ [])
  item_keeps (OneOf s) i h l = tt
  item_keeps (MessageOf id) (Message w) h l = subst (KeepsAll k types (fields_of types id)) (sym (append-nil (sub id w))) (keeps.message id w h l)
  item_keeps (MessageOf id) _ h l = absurd h

  one_keeps : (f : Field) (shape : Shape) (l : SlotLayer) (ps : List Payload) (o : Option Slot) → IsSlot (valid_within k types) f shape l → HasSlotLengths sub f shape l → ((i : Item) → l ≡ One i → ps ≡ item_payload sub f.kind (out-Item i) ∷ []) → o ≢ None
      → KeepsField (KeepsAll k types) types shape f.kind ps o
  one_keeps f ManyOf l ps o h g single some = tt
  one_keeps f (MapOf s) l ps o h g single some = tt
  one_keeps f Single (One i) ps o h g single some =
      ((λ c. some), subst (KeepsMessage (KeepsAll k types) types f.kind) (sym (single i refl)) (item_keeps f.kind (out-Item i) h.0 g))
  one_keeps f (Member j) (One i) ps o h g single some =
      ((λ c. some), subst (KeepsMessage (KeepsAll k types) types f.kind) (sym (single i refl)) (item_keeps f.kind (out-Item i) h.0 g))
  one_keeps f _ _ ps o h g single some = absurd h

  module _ (es : List (ℕ × Slot)) (h : AllByRecursion (IsEntry k types sub deeper fields sound) es) (rise : RiseFrom 0 es) (apart : AreApart nat_eq (oneofs_in fields es)) where
    abbrev found : List Record
    found = found_records k types sub deeper fields sound es h

    slot_here : (n : ℕ) (f : Field) → field_in fields n ≡ Some f → slot_of (meaning_within k types) types fields found n ≡ slot_in es n
    slot_here n f known =
        let all = slots_again k types sub deeper fields sound es h rise apart in
        sym (slot_in_gather (slot_of (meaning_within k types) types fields found) fields n
        ∙ ap (λ (o : Option Field). cond (is_some o) (slot_of (meaning_within k types) types fields found n) None) known)
        ∙ ap (λ (xs : List (ℕ × Slot)). slot_in xs n) all

    field_is : (x y : Field) → ◌≡◌ {A = Option Field} (Some x) (Some y) → x ≡ y
    field_is x y e = cc

    -- a field that is written undoes nothing
    pub field_keeps : (n : ℕ) (f : Field) → field_in fields n ≡ Some f → KeepsField (KeepsAll k types) types f.shape f.kind (payloads n found) (slot_of (meaning_within k types) types fields found n)
    field_keeps n f known = by (slot_in es n) refl
      where
        not_none : (s : Slot) → ◌≢◌ {A = Option Slot} (Some s) None
        not_none s e = absurd cc

        by : (o : Option Slot) → slot_in es n ≡ o → KeepsField (KeepsAll k types) types f.shape f.kind (payloads n found) (slot_of (meaning_within k types) types fields found n)
        by None e =
            let none : payloads n found ≡ [] = no_slot k types sub deeper fields sound 0 n es h rise e in
            subst (λ (ps : List Payload). KeepsField (KeepsAll k types) types f.shape f.kind ps (slot_of (meaning_within k types) types fields found n)) (sym none) (none_kept (KeepsAll k types) types (λ id. keeps_nothing k types (fields_of types id)) f.shape f.kind (slot_of (meaning_within k types) types fields found n))
        by (Some s) e =
            let x = entry_at k types sub deeper fields sound n 0 es h rise s e in
            let same : x.is.field ≡ f = field_is x.is.field f (sym x.is.known ∙ ap (field_in fields) x.number ∙ known) in
            let some : slot_of (meaning_within k types) types fields found n ≢ None = λ z. not_none s (sym (slot_here n f known ∙ e) ∙ z) in
            let one = one_keeps x.is.field x.is.field.shape (out-Slot x.entry.1) x.is.back.ps (slot_of (meaning_within k types) types fields found n) x.is.valid x.is.short x.is.back.single some in
            subst (λ (ps : List Payload). KeepsField (KeepsAll k types) types f.shape f.kind ps (slot_of (meaning_within k types) types fields found n)) (sym x.written)
            (subst (λ (g : Field). KeepsField (KeepsAll k types) types g.shape g.kind x.is.back.ps (slot_of (meaning_within k types) types fields found n)) same one)

module _ (types : Types) (sound : HasSoundFields types) where
  -- a message that is written undoes nothing
  pub message_keeps : (k : ℕ) (sub : TypeId → Value → List ℕ) → ReadsBack k types sub → KeepsBack k types sub → (id : TypeId) (w : Value) → (valid_within (suc k) types).message id w → HaveFieldLengths sub (fields_of types id) (slots_of w)
      → KeepsAll (suc k) types (fields_of types id) (slots_bytes sub (fields_of types id) (slots_of w))
  unfolding valid_within KeepsAll
  message_keeps k sub deeper keeps id w valid l n f known =
      let fields = fields_of types id in
      let ok = fields_sound types id sound in
      let h = all_entries k types sub deeper fields ok (slots_of w) valid.slots l in
      let all = all_found k types sub deeper fields ok (slots_of w) h in
      subst (λ (rs : List Record). KeepsField (KeepsAll k types) types f.shape f.kind (payloads n rs) (slot_of (meaning_within k types) types fields rs n)) (sym all)
      (field_keeps k types sub deeper keeps fields ok (slots_of w) h valid.rising valid.oneofs n f known)

  keeps_back : (k n : ℕ) → k ≤ n → KeepsBack k types (canonical_within n types)
  unfolding KeepsAll canonical_within
  keeps_back zero n l = record { message = λ id w h fits. tt }
  keeps_back (suc k) zero l = absurd (omega arith)
  keeps_back (suc k) (suc n) l = record {
    message = λ id w h fits.
        message_keeps k (canonical_within n types) (reads_back types sound k n (omega arith)) (keeps_back k n (omega arith)) id w h (slots_short (canonical_within n types) (fields_of types id) (slots_of w) fits);
  }

  -- the canonical bytes of a valid value undo nothing
  pub canonical_keep : (id : TypeId) (w : Value) → IsValid types id w → HasLengths types id w → KeepsAll 100 types (fields_of types id) (canonical_bytes types id w)
  unfolding canonical_bytes canonical_within
  canonical_keep id w valid l = message_keeps 99 (canonical_within 99 types) (reads_back types sound 99 99 (omega arith)) (keeps_back 99 99 (omega arith)) id w valid l
