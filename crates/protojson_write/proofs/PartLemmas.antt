-- Where all types are written by their fields, no value has a part with a text of its own, and a slot of scalars never.
use Rattle.std.proofs.Common.{◌≡◌, ◌∙◌, sym, ap, subst, ℕ, zero, suc, true, List, [], ◌∷◌, Option, Some, None, refl}
use Rattle.std.specs.Prelude.{is_some}
use Rattle.std.specs.List.{flat_map}
use Rattle.message_types.specs.Types.{field_in, field_of, fields_of}
use Rattle.message_types.specs.declared.fields.Kind.{Kind}
use Rattle.message_types.specs.declared.fields.Kind.TheVariants.{One as OneOf, Message as MessageOf}
use Rattle.message_types.specs.declared.fields.Field.{Field}
use Rattle.message_types.specs.declared.fields.Scalar.{Scalar}
use Rattle.message_types.specs.declared.messages.Known.{Known}
use Rattle.message_types.specs.declared.messages.Known.TheVariants.{Plain, Wrapper, Timestamp, Duration, FieldMask}
use Rattle.message_types.specs.declared.messages.TypeId.{TypeId}
use Rattle.message_types.specs.declared.messages.Types.{Types}
use Rattle.schema.specs.Layers.{ItemLayer, SlotLayer}
use Rattle.schema.specs.Pairs.{entries_of}
use Rattle.schema.specs.Value.{slot_at, slots_of}
use Rattle.schema.specs.declared.key.Key.{Key}
use Rattle.schema.specs.declared.value.Item.TheOpen.{Number, Truth, Text, Bytes, Message, One, Many, Pairs}
use Rattle.schema.specs.declared.value.Item.{out-Item, Item}
use Rattle.schema.specs.declared.value.Slot.{out-Slot, Slot}
use Rattle.schema.specs.declared.value.Value.{Value}
use Rattle.protojson_write.specs.JsonOutput.{field_text, json_text}
use Rattle.protojson_write.specs.KnownParts.{KnownTexts, field_parts, have_texts, item_parts, own_parts, parts_within, slot_parts}
use Rattle.json_meanings.specs.TextTypes.{AreByFields, IsByFields}
use Rattle.json_meanings.specs.SpotTables.{known_of}
use Rattle.protojson_write.proofs.LevelLemmas.{by_fields}
use Rattle.protojson_write.proofs.ShownLemmas.{field_some, part_some, whole_some}

none_of_each : {A B : Type 0} (f : A → List B) (xs : List A) → ((x : A) → f x ≡ []) → flat_map f xs ≡ []
none_of_each f [] h = refl
none_of_each f (x ∷ xs) h = rw (h x) (none_of_each f xs h)

module _ (sub : TypeId → Value → List (Known × Value)) (none : (id : TypeId) (v : Value) → sub id v ≡ []) where
  no_item_parts : (kind : Kind) (i : ItemLayer) → item_parts sub kind i ≡ []
  no_item_parts (MessageOf id) (Message v) = none id v
  no_item_parts (MessageOf id) (Number z) = refl
  no_item_parts (MessageOf id) (Truth t) = refl
  no_item_parts (MessageOf id) (Text t) = refl
  no_item_parts (MessageOf id) (Bytes t) = refl
  no_item_parts (OneOf s) i = refl

  no_slot_parts : (kind : Kind) (l : SlotLayer) → slot_parts sub kind l ≡ []
  no_slot_parts kind (One i) = no_item_parts kind (out-Item i)
  no_slot_parts kind (Many is) =
      none_of_each (λ i. item_parts sub kind (out-Item i)) is (λ i. no_item_parts kind (out-Item i))
  no_slot_parts kind (Pairs p) =
      none_of_each (λ (e : Key × Item). item_parts sub kind (out-Item e.1)) p.entries
      (λ e. no_item_parts kind (out-Item e.1))

  pub no_field_parts : (o : Option Field) (s : Slot) → field_parts sub o s ≡ []
  no_field_parts None s = refl
  no_field_parts (Some f) s = no_slot_parts f.kind (out-Slot s)

own_none : (known : Known) (v : Value) (inner : List (Known × Value)) → IsByFields known → inner ≡ []
    → own_parts known v inner ≡ []
own_none Plain v inner h e = e
own_none Wrapper v inner h e = e
own_none Timestamp v inner h e = absurd h
own_none Duration v inner h e = absurd h
own_none FieldMask v inner h e = absurd h

-- a value of so many levels has no such part
pub no_parts : (types : Types) → AreByFields types → (k : ℕ) (id : TypeId) (v : Value) → parts_within k types id v ≡ []
unfolding parts_within
no_parts types h zero id v = refl
no_parts types h (suc k) id v =
    own_none (known_of types id) v _ (by_fields types id h)
    (none_of_each (λ (e : ℕ × Slot). field_parts (parts_within k types) (field_in (fields_of types id) e.0) e.1) (slots_of v)
    (λ e. no_field_parts (parts_within k types) (no_parts types h k) (field_in (fields_of types id) e.0) e.1))

-- a message has a text
pub whole_is_there : (texts : KnownTexts) (types : Types) → AreByFields types → (id : TypeId) (v : Value)
    → is_some (json_text texts types id None v) ≡ true
whole_is_there texts types h id v = sym (whole_some texts types id v) ∙ ap (have_texts texts) (no_parts types h 100 id v)

-- and so has a field of its type
pub part_is_there : (texts : KnownTexts) (types : Types) → AreByFields types → (id : TypeId) (n : ℕ) (v : Value)
    (f : Field) → field_of types id n ≡ Some f → is_some (json_text texts types id (Some n) v) ≡ true
part_is_there texts types h id n v f found =
    sym (part_some texts types id n v (fields_of types id) (Some f) (slot_at v n) refl (sym found) refl)
    ∙ by_slot (slot_at v n)
  where
    by_slot : (s : Option Slot) → is_some (field_text texts 99 types (Some f) s) ≡ true
    by_slot None = refl
    by_slot (Some s) =
        sym (field_some texts types f s)
        ∙ ap (have_texts texts) (no_field_parts (parts_within 99 types) (no_parts types h 99) (Some f) s)

-- a slot of scalars has no parts
pub one_parts : (texts : KnownTexts) (sub : TypeId → Value → List (Known × Value)) (kind : Kind) (s : Scalar)
    (l : SlotLayer) → kind ≡ OneOf s
    → true ≡ have_texts texts (slot_parts sub kind l)
one_parts texts sub kind s l e = subst (λ k. true ≡ have_texts texts (slot_parts sub k l)) (sym e) (by_layer l)
  where
    by_layer : (m : SlotLayer) → true ≡ have_texts texts (slot_parts sub (OneOf s) m)
    by_layer (One i) = refl
    by_layer (Many is) =
        sym (ap (have_texts texts) (none_of_each (λ i. item_parts sub (OneOf s) (out-Item i)) is (λ i. refl)))
    by_layer (Pairs p) =
        sym (ap (have_texts texts)
        (none_of_each (λ (e : Key × Item). item_parts sub (OneOf s) (out-Item e.1)) (entries_of p) (λ e. refl)))
