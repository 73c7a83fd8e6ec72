-- What is valid in so many levels, opened and raised.
use Rattle.std.proofs.Common.{◌≡◌, ◌-◌, ℕ, zero, suc, List, [], ◌∷◌, Option, Some, None, arith, refl}
use Rattle.std.specs.List.{AllByRecursion}
use Rattle.schema.specs.Layers.{ItemLayer, SlotLayer}
use Rattle.message_types.specs.Types.{field_in, fields_of}
use Rattle.schema.specs.Validity.{Inner, IsScalarItem, IsItem, IsSlot, IsFieldSlot, AreFieldSlots, IsMessage, key_item, valid_within}
use Rattle.schema.specs.Value.{slots_of}
use Rattle.schema.specs.declared.key.Key.{Key}
use Rattle.message_types.specs.declared.fields.Field.{Field}
use Rattle.message_types.specs.declared.fields.Kind.{Kind}
use Rattle.message_types.specs.declared.fields.Kind.TheVariants.{One as OneOf, Message as MessageOf}
use Rattle.message_types.specs.declared.fields.Scalar.{Scalar}
use Rattle.message_types.specs.declared.fields.Shape.{Shape}
use Rattle.message_types.specs.declared.fields.Shape.TheVariants.{Single, Member, Many as ManyOf, Map as MapOf}
use Rattle.message_types.specs.declared.messages.TypeId.{TypeId}
use Rattle.message_types.specs.declared.messages.Types.{Types}
use Rattle.schema.specs.declared.value.Item.TheOpen.{Number, Truth, Text, Bytes, Message, One, Many, Pairs}
use Rattle.schema.specs.declared.value.Item.{out-Item, Item}
use Rattle.schema.specs.declared.value.Slot.{out-Slot, Slot}
use Rattle.schema.specs.declared.value.Value.{Value}
use Rattle.wire_format.specs.CanonicalBytes.{canonical_within, slots_bytes}

-- what one allows, the other does
record IsBelow (a b : Inner) : Type 0 where
  message : (id : TypeId) (v : Value) → a.message id v → b.message id v
  entry : (s : Scalar) (kind : Kind) (e : Key × Item) → a.entry s kind e → b.entry s kind e

all_up : {A : Type 0} (P Q : A → Type 0) → ((x : A) → P x → Q x) → (xs : List A) → AllByRecursion P xs → AllByRecursion Q xs
all_up P Q up [] h = tt
all_up P Q up (x ∷ xs) h = (up x h.0, all_up P Q up xs h.1)

module _ (a b : Inner) (below : IsBelow a b) where
  item_up : (kind : Kind) (i : ItemLayer) → IsItem a kind i → IsItem b kind i
  item_up (OneOf s) i h = h
  item_up (MessageOf id) (Message v) h = below.message id v h
  item_up (MessageOf id) (Number z) h = absurd h
  item_up (MessageOf id) (Truth t) h = absurd h
  item_up (MessageOf id) (Text t) h = absurd h
  item_up (MessageOf id) (Bytes t) h = absurd h

  slot_up : (f : Field) (shape : Shape) (l : SlotLayer) → IsSlot a f shape l → IsSlot b f shape l
  slot_up f Single (One i) h = (item_up f.kind (out-Item i) h.0, h.1)
  slot_up f (Member k) (One i) h = (item_up f.kind (out-Item i) h.0, h.1)
  slot_up f ManyOf (Many is) h = (h.0, all_up (λ i. IsItem a f.kind (out-Item i)) (λ i. IsItem b f.kind (out-Item i)) (λ i. item_up f.kind (out-Item i)) is h.1)
  slot_up f (MapOf s) (Pairs ps) h = (h.0, h.1, all_up (a.entry s f.kind) (b.entry s f.kind) (below.entry s f.kind) ps.entries h.2)
  slot_up f Single (Many is) h = absurd h
  slot_up f Single (Pairs ps) h = absurd h
  slot_up f (Member k) (Many is) h = absurd h
  slot_up f (Member k) (Pairs ps) h = absurd h
  slot_up f ManyOf (One i) h = absurd h
  slot_up f ManyOf (Pairs ps) h = absurd h
  slot_up f (MapOf s) (One i) h = absurd h
  slot_up f (MapOf s) (Many is) h = absurd h

  field_up : (o : Option Field) (s : Slot) → IsFieldSlot a o s → IsFieldSlot b o s
  field_up None s h = absurd h
  field_up (Some f) s h = slot_up f f.shape (out-Slot s) h

  message_up : (types : Types) (id : TypeId) (v : Value) → IsMessage a types id v → IsMessage b types id v
  message_up types id v h = record {
    rising = h.rising;
    slots = all_up (λ (e : ℕ × Slot). IsFieldSlot a (field_in (fields_of types id) e.0) e.1) (λ (e : ℕ × Slot). IsFieldSlot b (field_in (fields_of types id) e.0) e.1) (λ (e : ℕ × Slot). field_up (field_in (fields_of types id) e.0) e.1) (slots_of v) h.slots;
    oneofs = h.oneofs;
  }

-- one level more allows what one less does
level_up : (k : ℕ) (types : Types) → IsBelow (valid_within k types) (valid_within (suc k) types)
unfolding valid_within
level_up zero types = record { message = λ id v h. absurd h; entry = λ s kind e h. absurd h }
level_up (suc k) types = record {
  message = λ id v h. message_up (valid_within k types) (valid_within (suc k) types) (level_up k types) types id v h;
  entry = λ s kind e h. (h.0, item_up (valid_within k types) (valid_within (suc k) types) (level_up k types) kind (out-Item e.1) h.1);
}

-- the value of an entry is valid in the level of the entry itself
pub entry_item : (k : ℕ) (types : Types) (s : Scalar) (kind : Kind) (e : Key × Item) → (valid_within k types).entry s kind e → IsItem (valid_within k types) kind (out-Item e.1)
unfolding valid_within
entry_item zero types s kind e h = absurd h
entry_item (suc k) types s kind e h = item_up (valid_within k types) (valid_within (suc k) types) (level_up k types) kind (out-Item e.1) h.1

-- and its key is one of its kind
pub entry_key : (k : ℕ) (types : Types) (s : Scalar) (kind : Kind) (e : Key × Item) → (valid_within k types).entry s kind e → IsScalarItem s (key_item e.0)
unfolding valid_within
entry_key zero types s kind e h = absurd h
entry_key (suc k) types s kind e h = h.0

-- the slots of a valid message fit their fields, one level further in
pub message_slots : (k : ℕ) (types : Types) (id : TypeId) (v : Value) (fs : List Field) (es : List (ℕ × Slot)) → (k ≡ 0 → ⊥) → fs ≡ fields_of types id → es ≡ slots_of v
    → (valid_within k types).message id v → AreFieldSlots (valid_within (k - 1) types) fs es
unfolding valid_within
message_slots zero types id v fs es nz f g h = absurd h
message_slots (suc k) types id v fs es nz f g h = let e : suc k - 1 ≡ k = omega arith in rw (e, f, g) h.slots

-- no message is valid in no levels
pub no_message : (k : ℕ) (types : Types) (id : TypeId) (v : Value) → k ≡ 0 → (valid_within k types).message id v → ⊥
unfolding valid_within
no_message zero types id v z h = h
no_message (suc k) types id v z h = absurd (omega arith)

-- canonical bytes, one level opened
pub canonical_open : (k : ℕ) (types : Types) (id : TypeId) (v : Value) (fs : List Field) (es : List (ℕ × Slot)) → (k ≡ 0 → ⊥) → fs ≡ fields_of types id → es ≡ slots_of v
    → slots_bytes (canonical_within (k - 1) types) fs es ≡ canonical_within k types id v
unfolding canonical_within
canonical_open zero types id v fs es nz f g = absurd (nz refl)
canonical_open (suc k) types id v fs es nz f g = let e : suc k - 1 ≡ k = omega arith in rw (e, f, g) refl
