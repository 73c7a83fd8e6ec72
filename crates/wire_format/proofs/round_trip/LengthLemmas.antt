-- Where the whole is shorter than 2 ^ 64 bytes, each length in it has 64 bits.
use Rattle.std.proofs.Common.{ℕ, Bool, true, false, cond, List, [], ◌∷◌, ◌++◌, length, Option, Some, None, subst, flat_map}
use Rattle.std.specs.List.{AllByRecursion}
use Rattle.std.proofs.lemmas.List.Concat.{flat_map-cons}
use Rattle.schema.specs.Layers.{SlotLayer}
use Rattle.schema.specs.Pairs.{entries_of}
use Rattle.message_types.specs.Types.{field_in}
use Rattle.schema.specs.declared.value.Item.TheOpen.{One, Many, Pairs as Entries}
use Rattle.schema.specs.declared.value.Item.{out-Item, Item}
use Rattle.schema.specs.declared.value.Slot.{Slot, out-Slot}
use Rattle.schema.specs.declared.value.Value.{Value}
use Rattle.message_types.specs.declared.fields.Field.{Field}
use Rattle.message_types.specs.declared.fields.Kind.{Kind}
use Rattle.message_types.specs.declared.fields.Shape.{Shape}
use Rattle.message_types.specs.declared.fields.Shape.TheVariants.{Single, Member, Many as ManyOf, Map as MapOf}
use Rattle.message_types.specs.declared.messages.TypeId.{TypeId}
use Rattle.wire_format.specs.CanonicalBytes.{wire_of, item_bytes, record_bytes, entry_bytes, entry_record, items_bytes, records_bytes, slot_bytes, field_bytes, slots_bytes}
use Rattle.wire_records.specs.RecordBytes.{tag, delimited}
use Rattle.wire_format.specs.PayloadLengths.{HasLength, HasItemLength, HaveItemLengths, HasSlotLengths, HasFieldLengths, HaveFieldLengths}
use Rattle.wire_records.specs.Varint.{varint}
use Rattle.wire_format.proofs.round_trip.ItemReadLemmas.{item_length, behind_length, before_length}

-- what is shorter than 2 ^ 64 bytes in all is so in each part
all_short : {A : Type 0} (f : A → List ℕ) (P : A → Type 0) → ((x : A) → HasLength (f x) → P x) → (xs : List A) → HasLength (flat_map f xs) → AllByRecursion P xs
all_short f P each [] h = tt
all_short f P each (x ∷ xs) h =
    let all : HasLength (f x ++ flat_map f xs) = subst HasLength (flat_map-cons f x xs) h in
    (each x (before_length (f x) (flat_map f xs) all), all_short f P each xs (behind_length (f x) (flat_map f xs) all))

delimited_short : (n : ℕ) (bs : List ℕ) → HasLength (tag n 2 ++ delimited bs) → HasLength bs
delimited_short n bs h = behind_length (varint (length bs)) bs (behind_length (tag n 2) (delimited bs) h)

module _ (sub : TypeId → Value → List ℕ) where
  record_short : (n : ℕ) (kind : Kind) (i : Item) → HasLength (record_bytes sub n kind i) → HasItemLength sub kind (out-Item i)
  record_short n kind i h = item_length sub kind (out-Item i) (behind_length (tag n (wire_of kind)) (item_bytes sub kind (out-Item i)) h)

  list_short : (n : ℕ) (b : Bool) (kind : Kind) (is : List Item) → HasLength (cond b (tag n 2 ++ delimited (items_bytes sub kind is)) (records_bytes sub n kind is)) → HaveItemLengths sub b kind is
  list_short n true kind is h = delimited_short n (items_bytes sub kind is) h
  list_short n false kind is h = all_short (record_bytes sub n kind) (λ i. HasItemLength sub kind (out-Item i)) (record_short n kind) is h

  slot_short : (f : Field) (shape : Shape) (l : SlotLayer) → HasLength (slot_bytes sub f shape l) → HasSlotLengths sub f shape l
  slot_short f (MapOf s) (Entries p) h = all_short (entry_record sub f.number s f.kind) (λ e. HasLength (entry_bytes sub s f.kind e)) (λ e. delimited_short f.number (entry_bytes sub s f.kind e)) (entries_of p) h
  slot_short f Single (One i) h = record_short f.number f.kind i h
  slot_short f (Member j) (One i) h = record_short f.number f.kind i h
  slot_short f ManyOf (One i) h = record_short f.number f.kind i h
  slot_short f (MapOf s) (One i) h = record_short f.number f.kind i h
  slot_short f Single (Many is) h = list_short f.number f.packed f.kind is h
  slot_short f (Member j) (Many is) h = list_short f.number f.packed f.kind is h
  slot_short f ManyOf (Many is) h = list_short f.number f.packed f.kind is h
  slot_short f (MapOf s) (Many is) h = list_short f.number f.packed f.kind is h
  slot_short f Single (Entries p) h = tt
  slot_short f (Member j) (Entries p) h = tt
  slot_short f ManyOf (Entries p) h = tt

  field_short : (o : Option Field) (s : Slot) → HasLength (field_bytes sub o s) → HasFieldLengths sub o s
  field_short None s h = tt
  field_short (Some f) s h = slot_short f f.shape (out-Slot s) h

  -- slots whose bytes are short have short lengths
  pub slots_short : (fields : List Field) (es : List (ℕ × Slot)) → HasLength (slots_bytes sub fields es) → HaveFieldLengths sub fields es
  slots_short fields es h =
      all_short (λ (e : ℕ × Slot). field_bytes sub (field_in fields e.0) e.1) (λ (e : ℕ × Slot). HasFieldLengths sub (field_in fields e.0) e.1) (λ (e : ℕ × Slot). field_short (field_in fields e.0) e.1) es h
