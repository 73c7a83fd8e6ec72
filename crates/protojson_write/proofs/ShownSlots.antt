-- The text of a slot is that of a tree that is read as the slot, where those of the messages in it are.
use Rattle.std.proofs.Common.{◌≡◌, ◌≢◌, ◌∙◌, ◌&&◌, inl, inr, sym, ap, subst, refl, cond, ℕ, zero, suc, Bool, true, false, List, [], ◌∷◌, Option, Some, None}
use Rattle.std.specs.List.{AllByRecursion, flat_map, list_all}
use Rattle.std.proofs.lemmas.Bool.{and_parts}
use Rattle.std.proofs.lemmas.List.Folds.{list_all-append}
use Rattle.message_types.specs.declared.fields.Field.{Field}
use Rattle.message_types.specs.declared.fields.Kind.{Kind}
use Rattle.message_types.specs.declared.fields.Kind.TheVariants.{One as OneOf, Message as MessageOf}
use Rattle.message_types.specs.declared.fields.Presence.{Presence}
use Rattle.message_types.specs.declared.fields.Presence.TheVariants.{Implicit, Explicit}
use Rattle.message_types.specs.declared.fields.Scalar.{Scalar}
use Rattle.message_types.specs.declared.fields.Shape.{Shape}
use Rattle.message_types.specs.declared.fields.Shape.TheVariants.{Single, Member, Many as ManyOf, Map as MapOf}
use Rattle.message_types.specs.declared.messages.TypeId.{TypeId}
use Rattle.message_types.specs.declared.messages.Types.{Types}
use Rattle.schema.specs.Layers.{ItemLayer, SlotLayer}
use Rattle.schema.specs.Pairs.{entries_of}
use Rattle.schema.specs.Soundness.{FitsShape, IsKeyKind, IsSound}
use Rattle.schema.specs.Validity.{IsItem, IsScalarItem, IsSlot, IsStored, key_item, valid_within}
use Rattle.schema.specs.declared.key.Key.{Key}
use Rattle.schema.specs.declared.value.Item.TheOpen.{Number, Truth, Text, Bytes, Message, One, Many, Pairs as Entries}
use Rattle.schema.specs.declared.value.Item.{Item, out-Item, roll-out-Item, roll-Item}
use Rattle.schema.specs.declared.value.Slot.{Slot, out-Slot, roll-out-Slot, roll-Slot}
use Rattle.schema.specs.declared.value.Value.{Value}
use Rattle.json_meanings.specs.JsonScalars.{Schema}
use Rattle.json_meanings.specs.PartialMessages.{form_of, has_room, listed, mapped, stored}
use Rattle.json_meanings.specs.ReadingSpots.{Spot, many, pairs, single}
use Rattle.json_meanings.specs.SpotTables.{below}
use Rattle.protojson_write.specs.JsonOutput.{item_text, slot_text, text_within}
use Rattle.protojson_write.specs.KnownParts.{KnownTexts, have_texts, item_parts, parts_within, slot_parts}
use Rattle.protojson_write.specs.ShownMeans.{HasUtf8Names, ItemHoldsBytes, SlotHoldsBytes, holds_bytes_within}
use Rattle.protojson_write.proofs.ShownLists.{HasEntry, HaveTrees, list_shown, map_shown}
use Rattle.protojson_write.proofs.ShownMembers.{HasSlotTree}
use Rattle.protojson_write.proofs.ShownScalars.{ScalarsAreReadBack, key_shown, scalar_shown}
use Rattle.protojson_write.proofs.ShownSpots.{HasKindTree, IsOneItem, IsSpotOf, at_field}

-- what passes a test in joined lists passes it in each
pub parts_all : {A B : Type 0} (p : B → Bool) (f : A → List B) (xs : List A) → list_all p (flat_map f xs) ≡ true
    → AllByRecursion (λ x. list_all p (f x) ≡ true) xs
parts_all p f [] h = tt
parts_all p f (x ∷ xs) h =
    let both = and_parts _ _ (sym (list_all-append p (f x) (flat_map f xs)) ∙ h) in
    (both.0, parts_all p f xs both.1)

-- each message with so many levels, shown with so many, is read back
abbrev pub MessagesShown : KnownTexts → Schema → ℕ → ℕ → Type 0
MessagesShown texts c k m =
    (id : TypeId) (v : Value) → (valid_within k c.types).message id v
    → have_texts texts (parts_within m c.types id v) ≡ true → holds_bytes_within m v
    → HasKindTree c k (MessageOf id) (Message v) (text_within texts m c.types id v)

-- an entry has a key, an item of one level less, and room for it
entry_open : (k : ℕ) (types : Types) (s : Scalar) (kind : Kind) (e : Key × Item) → (valid_within k types).entry s kind e
    → IsScalarItem s (key_item e.0) × IsItem (valid_within (below k) types) kind (out-Item e.1)
    × (has_room k kind ≡ true)
unfolding valid_within
entry_open zero types s kind e h = absurd h
entry_open (suc zero) types s (OneOf t) e h = (h.0, h.1, refl)
entry_open (suc zero) types s (MessageOf id) e h = absurd (no_message (out-Item e.1) h.1)
  where
    no_message : (i : ItemLayer) → IsItem (valid_within zero types) (MessageOf id) i → ⊥
    no_message (Message v) q = q
    no_message (Number z) q = q
    no_message (Truth t) q = q
    no_message (Text t) q = q
    no_message (Bytes t) q = q
entry_open (suc (suc k)) types s (OneOf t) e h = (h.0, h.1, refl)
entry_open (suc (suc k)) types s (MessageOf id) e h = (h.0, h.1, refl)

-- the slot that is stored of an item is that of which it is
pub stored_back : (p : Presence) (i : Item) (s : Slot) → out-Slot s ≡ One i → IsStored p (out-Item i)
    → stored p (out-Item i) ≡ Some s
stored_back p i s e h = by_presence p h
  where
    rolled : Some (roll-Slot (One (roll-Item (out-Item i)))) ≡ Some s
    rolled =
        ap (λ x. Some (roll-Slot (One x))) (roll-out-Item i)
        ∙ (ap (λ l. Some (roll-Slot l)) (sym e) ∙ ap Some (roll-out-Slot s))

    by_presence : (q : Presence) → IsStored q (out-Item i) → stored q (out-Item i) ≡ Some s
    by_presence Explicit g = rolled
    by_presence Implicit g = ap (λ b. cond b None (Some (roll-Slot (One (roll-Item (out-Item i)))))) g ∙ rolled

listed_back : (is : List Item) (s : Slot) → is ≢ [] → out-Slot s ≡ Many is → listed is ≡ Some s
listed_back [] s some e = absurd (some refl)
listed_back (i ∷ is) s some e = ap (λ l. Some (roll-Slot l)) (sym e) ∙ ap Some (roll-out-Slot s)

mapped_back : (es : List (Key × Item)) (s : Slot) → es ≢ [] → out-Slot s ≡ Entries (record { entries = es })
    → mapped es ≡ Some s
mapped_back [] s some e = absurd (some refl)
mapped_back (x ∷ es) s some e = ap (λ l. Some (roll-Slot l)) (sym e) ∙ ap Some (roll-out-Slot s)

module _ (laws : ScalarsAreReadBack) (texts : KnownTexts) (c : Schema) (sound : IsSound c.types)
    (utf8 : HasUtf8Names c.types) (m : ℕ) where
  -- an item of a kind
  pub item_shown : (k : ℕ) → MessagesShown texts c k m → (kind : Kind) (i : ItemLayer)
      → IsItem (valid_within k c.types) kind i → have_texts texts (item_parts (parts_within m c.types) kind i) ≡ true
      → ItemHoldsBytes (holds_bytes_within m) i
      → HasKindTree c k kind i (item_text (text_within texts m c.types) c.types kind i)
  item_shown k inner (OneOf s) i valid known bytes =
      let t = scalar_shown laws c.types sound utf8 (holds_bytes_within m) s i valid bytes in
      inl (record { leaf = t.0; text = t.1; reads = t.2 })
  item_shown k inner (MessageOf id) (Message v) valid known bytes = inner id v valid known bytes
  item_shown k inner (MessageOf id) (Number z) valid known bytes = absurd valid
  item_shown k inner (MessageOf id) (Truth t) valid known bytes = absurd valid
  item_shown k inner (MessageOf id) (Text t) valid known bytes = absurd valid
  item_shown k inner (MessageOf id) (Bytes t) valid known bytes = absurd valid

  -- the text of an item of a kind
  abbrev show_item : Kind → Item → List ℕ
  show_item kind i = item_text (text_within texts m c.types) c.types kind (out-Item i)

  items_shown : (k : ℕ) → MessagesShown texts c k m → (kind : Kind) (is : List Item)
      → AllByRecursion (λ i. IsItem (valid_within k c.types) kind (out-Item i)) is
      → AllByRecursion (λ i. have_texts texts (item_parts (parts_within m c.types) kind (out-Item i)) ≡ true) is
      → AllByRecursion (λ i. ItemHoldsBytes (holds_bytes_within m) (out-Item i)) is
      → HaveTrees c k kind (show_item kind) is
  items_shown k inner kind [] valid known bytes = tt
  items_shown k inner kind (i ∷ is) valid known bytes = (
    item_shown k inner kind (out-Item i) valid.0 known.0 bytes.0,
    items_shown k inner kind is valid.1 known.1 bytes.1,
  )

  entries_shown : (k : ℕ) → MessagesShown texts c (below k) m → (s : Scalar) (kind : Kind) → IsKeyKind s
      → (es : List (Key × Item))
      → AllByRecursion ((valid_within k c.types).entry s kind) es
      → AllByRecursion (λ (e : Key × Item).
      have_texts texts (item_parts (parts_within m c.types) kind (out-Item e.1)) ≡ true) es
      → AllByRecursion (λ (e : Key × Item). ItemHoldsBytes (holds_bytes_within m) (out-Item e.1)) es
      → AllByRecursion (HasEntry c k s kind (show_item kind)) es
  entries_shown k inner s kind keys [] valid known bytes = tt
  entries_shown k inner s kind keys (e ∷ es) valid known bytes =
      let parts = entry_open k c.types s kind e valid.0 in
      let t = key_shown laws c.types sound utf8 s e.0 keys parts.0 in (
        record {
          key = t.0;
          spelled = t.1;
          reads = t.2;
          room = parts.2;
          item = item_shown (below k) inner kind (out-Item e.1) parts.1 known.0 bytes.0;
        },
        entries_shown k inner s kind keys es valid.1 known.1 bytes.1,
      )

  -- a slot at the spot of its field
  pub slot_shown : (k : ℕ) → MessagesShown texts c k m → MessagesShown texts c (below k) m
      → (f : Field) (spot : Spot) (s : Slot) → FitsShape f.shape f.kind f.presence → IsSpotOf c k (form_of f) spot
      → IsSlot (valid_within k c.types) f f.shape (out-Slot s)
      → have_texts texts (slot_parts (parts_within m c.types) f.kind (out-Slot s)) ≡ true
      → SlotHoldsBytes (holds_bytes_within m) (out-Slot s)
      → HasSlotTree c (form_of f) spot (slot_text (text_within texts m c.types) c.types f.kind (out-Slot s)) (Some s)
  slot_shown k inner inmost f spot s fits at valid known bytes =
      by_layer f.shape refl (out-Slot s) refl fits valid known bytes
    where
      by_one : (i : Item) → out-Slot s ≡ One i → IsOneItem f.shape → IsItem (valid_within k c.types) f.kind (out-Item i)
          → IsStored f.presence (out-Item i)
          → have_texts texts (item_parts (parts_within m c.types) f.kind (out-Item i)) ≡ true
          → ItemHoldsBytes (holds_bytes_within m) (out-Item i)
          → HasSlotTree c (form_of f) spot (show_item f.kind i) (Some s)
      by_one i e one item kept has holds = record {
        filled = single (out-Item i);
        has =
            at_field c k (form_of f) spot (out-Item i) (show_item f.kind i) at one
            (item_shown k inner f.kind (out-Item i) item has holds);
        slot = stored_back f.presence i s e kept;
      }

      by_layer : (shape : Shape) → f.shape ≡ shape → (l : SlotLayer) → out-Slot s ≡ l
          → FitsShape shape f.kind f.presence → IsSlot (valid_within k c.types) f shape l
          → have_texts texts (slot_parts (parts_within m c.types) f.kind l) ≡ true
          → SlotHoldsBytes (holds_bytes_within m) l
          → HasSlotTree c (form_of f) spot (slot_text (text_within texts m c.types) c.types f.kind l) (Some s)
      by_layer Single is (One i) e fit v has holds = by_one i e (inl is) v.0 v.1 has holds
      by_layer (Member n) is (One i) e fit v has holds = by_one i e (inr (n, is)) v.0 v.1 has holds
      by_layer ManyOf is (Many items) e fit v has holds = record {
        filled = many items;
        has =
            list_shown c k (form_of f) spot (show_item f.kind) items at is
            (items_shown k inner f.kind items v.1
            (parts_all _ (λ i. item_parts (parts_within m c.types) f.kind (out-Item i)) items has) holds);
        slot = listed_back items s v.0 e;
      }
      by_layer (MapOf t) is (Entries p) e fit v has holds = record {
        filled = pairs (entries_of p);
        has =
            map_shown c k (form_of f) t spot (show_item f.kind) (entries_of p) at is
            (entries_shown k inmost t f.kind fit.1 (entries_of p) v.2
            (parts_all _ (λ (x : Key × Item). item_parts (parts_within m c.types) f.kind (out-Item x.1))
            (entries_of p) has)
            holds) v.1;
        slot = mapped_back (entries_of p) s v.0 e;
      }
      by_layer Single is (Many items) e fit v has holds = absurd v
      by_layer Single is (Entries p) e fit v has holds = absurd v
      by_layer (Member n) is (Many items) e fit v has holds = absurd v
      by_layer (Member n) is (Entries p) e fit v has holds = absurd v
      by_layer ManyOf is (One i) e fit v has holds = absurd v
      by_layer ManyOf is (Entries p) e fit v has holds = absurd v
      by_layer (MapOf t) is (One i) e fit v has holds = absurd v
      by_layer (MapOf t) is (Many items) e fit v has holds = absurd v
