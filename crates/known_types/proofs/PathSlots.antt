-- Messages of field masks: what is found in them again, and that they are valid.
use Rattle.std.proofs.Common.{◌≡◌, ◌≢◌, ◌∙◌, ◌<◌, sym, ap, ap₂, subst, refl, arith, lit<, cond, ℕ, Bool, true, false, List, [], ◌∷◌, length, map, Option, Some, None, Result, Ok, Err}
use Rattle.std.specs.Prelude.{◌==◌, codes, nat_eq}
use Rattle.std.specs.List.{AllByRecursion, cons_option}
use Rattle.std.specs.Str.{IsUtf8}
use Rattle.std.proofs.lemmas.Bool.{eqb-true}
use Rattle.known_types.specs.KnownTexts.{items_in_slot, mask_items, mask_value, paths_slot}
use Rattle.mask_texts.specs.MaskItems.{item_path, item_paths, path_as_item, path_of_layer, paths_as_items}
use Rattle.message_types.specs.Types.{field_in, fields_of}
use Rattle.message_types.specs.declared.fields.Field.{Field}
use Rattle.message_types.specs.declared.fields.Kind.{Kind}
use Rattle.message_types.specs.declared.fields.Kind.TheVariants.{One as OneOf}
use Rattle.message_types.specs.declared.fields.Scalar.TheVariants.{Text as TextOf}
use Rattle.message_types.specs.declared.fields.Shape.TheVariants.{Many as ManyOf}
use Rattle.message_types.specs.declared.messages.Known.TheVariants.{FieldMask}
use Rattle.message_types.specs.declared.messages.TypeId.{TypeId}
use Rattle.message_types.specs.declared.messages.Types.{Types}
use Rattle.schema.specs.Apart.{AreApart}
use Rattle.schema.specs.Layers.{ItemLayer, SlotLayer}
use Rattle.schema.specs.Soundness.{HasKnownFields, IsKnownField}
use Rattle.schema.specs.Validity.{AreFieldSlots, Inner, IsFieldSlot, IsItem, IsMessage, IsScalarItem, IsSlot, oneof_of}
use Rattle.schema.specs.Value.{RiseFrom, slots_of}
use Rattle.schema.specs.declared.value.Item.TheOpen.{Number, Truth, Text, Bytes, Message, One, Many, Pairs as Entries}
use Rattle.schema.specs.declared.value.Item.{Item, out-Item, roll-Item, out-roll-Item, roll-out-Item}
use Rattle.schema.specs.declared.value.Slot.{Slot, out-Slot, roll-Slot, out-roll-Slot, roll-out-Slot}
use Rattle.schema.specs.declared.value.Value.{Value}

-- an item is a string
abbrev pub IsTextItem : Item → Type 0
IsTextItem i = IsScalarItem TextOf (out-Item i)

-- the item of a string's path
item_back : (i : Item) → IsTextItem i → path_as_item (item_path i) ≡ i
item_back i h = by (out-Item i) refl h
  where
    by : (l : ItemLayer) → out-Item i ≡ l → IsScalarItem TextOf l → path_as_item (item_path i) ≡ i
    by (Text t) e w =
        ap (λ x. roll-Item (Text (path_of_layer x))) e ∙ (ap roll-Item (sym e) ∙ roll-out-Item i)
    by (Number z) e w = absurd w
    by (Truth b) e w = absurd w
    by (Bytes b) e w = absurd w
    by (Message v) e w = absurd w

-- strings are the items of their paths
pub items_back : (is : List Item) → AllByRecursion IsTextItem is → paths_as_items (item_paths is) ≡ is
items_back [] h = refl
items_back (i ∷ is) h = ap₂ (λ x xs. x ∷ xs) (item_back i h.0) (items_back is h.1)

-- the items of their message
pub mask_back : (is : List Item) → mask_items (mask_value is) ≡ Some is
mask_back [] = refl
mask_back (i ∷ is) = ap items_in_slot (out-roll-Slot (Many (i ∷ is)))

-- a slot holds strings, one or more
pub record HoldsPaths (s : Slot) : Type 0 where
  pub items : List Item
  pub is : (1, s) ∷ [] ≡ paths_slot items
  pub texts : AllByRecursion IsTextItem items

-- items of strings are strings
text_items : (inner : Inner) (is : List Item)
    → AllByRecursion (λ i. IsItem inner (OneOf TextOf) (out-Item i)) is → AllByRecursion IsTextItem is
text_items inner [] h = tt
text_items inner (i ∷ is) h = (h.0, text_items inner is h.1)

-- the slot of paths holds some
paths_held : (inner : Inner) (o : Option Field) (name : List ℕ) (s : Slot)
    → IsKnownField o name TextOf ManyOf → IsFieldSlot inner o s → HoldsPaths s
paths_held inner None name s known fits = absurd known
paths_held inner (Some f) name s known fits =
    by (out-Slot s) refl (subst (λ x. IsSlot inner f x (out-Slot s)) known.1.1 fits)
  where
    by : (l : SlotLayer) → out-Slot s ≡ l → IsSlot inner f ManyOf l → HoldsPaths s
    by (Many []) e w = absurd (w.0 refl)
    by (Many (i ∷ is)) e w = record {
      items = i ∷ is;
      is = ap (λ x. (1, x) ∷ []) (sym (roll-out-Slot s) ∙ ap roll-Slot e);
      texts = text_items inner (i ∷ is)
          (subst (λ k. AllByRecursion (λ j. IsItem inner k (out-Item j)) (i ∷ is)) known.1.0 w.1);
    }
    by (One i) e w = absurd w
    by (Entries p) e w = absurd w

-- one field has the number
in_one : (x f : Field) (n : ℕ) → field_in (x ∷ []) n ≡ Some f → x.number ≡ n
in_one x f n e = pick (x.number == n) refl e
  where
    pick : (a : Bool) → (x.number == n) ≡ a → cond a (Some x) None ≡ Some f → x.number ≡ n
    pick true p q = eqb-true x.number n p
    pick false p q = absurd cc

number_of_mask : (fs : List Field) (f g : Field) (n : ℕ) → length fs ≡ 1 → field_in fs 1 ≡ Some f
    → field_in fs n ≡ Some g → n ≡ 1
number_of_mask [] f g n len a b = absurd cc
number_of_mask (x ∷ []) f g n len a b = let p = in_one x f 1 a in let q = in_one x g n b in omega (arith, p, q)
number_of_mask (x ∷ y ∷ fs) f g n len a b = absurd (omega (arith, len))

-- the slots of a mask are those of strings
pub record ArePathSlots (es : List (ℕ × Slot)) : Type 0 where
  pub items : List Item
  pub are : es ≡ paths_slot items
  pub texts : AllByRecursion IsTextItem items

module _ (inner : Inner) (types : Types) (id : TypeId) (known : HasKnownFields FieldMask (fields_of types id)) where
  abbrev fs : List Field
  fs = fields_of types id

  number_is_one : (e : ℕ × Slot) → IsFieldSlot inner (field_in fs e.0) e.1 → e.0 ≡ 1
  number_is_one e fits = by (field_in fs 1) (field_in fs e.0) refl refl known.1 fits
    where
      by : (o q : Option Field) → field_in fs 1 ≡ o → field_in fs e.0 ≡ q
          → IsKnownField o (codes "paths") TextOf ManyOf
          → IsFieldSlot inner q e.1 → e.0 ≡ 1
      by None q a b h w = absurd h
      by (Some f) None a b h w = absurd w
      by (Some f) (Some g) a b h w = number_of_mask fs f g e.0 known.0 a b

  path_slots : (es : List (ℕ × Slot)) → RiseFrom 0 es → AreFieldSlots inner fs es → ArePathSlots es
  path_slots [] rise all = record { items = []; are = refl; texts = tt }
  path_slots (e ∷ []) rise all =
      let one = number_is_one e all.0 in
      let held =
      paths_held inner (field_in fs 1) _ e.1 known.1 (subst (λ n. IsFieldSlot inner (field_in fs n) e.1) one all.0) in
      record { items = held.items; are = ap (λ n. (n, e.1) ∷ []) one ∙ held.is; texts = held.texts }
  path_slots (e ∷ d ∷ es) rise all =
      let first = number_is_one e all.0 in
      let second = number_is_one d all.1.0 in
      let less = rise.1.0 in
      absurd (omega (arith, first, second, less))

  -- a valid message of a mask is that of its paths
  pub mask_slots : (v : Value) → IsMessage inner types id v → ArePathSlots (slots_of v)
  mask_slots v valid = path_slots (slots_of v) valid.rising valid.slots

  -- paths that are UTF-8, as items of the field
  items_fit : (k : Kind) (ps : List (List ℕ)) → k ≡ OneOf TextOf → AllByRecursion IsUtf8 ps
      → AllByRecursion (λ i. IsItem inner k (out-Item i)) (paths_as_items ps)
  items_fit k [] e h = tt
  items_fit k (p ∷ ps) e h = (
    subst (IsItem inner k) (sym (out-roll-Item (Text p))) (subst (λ x. IsItem inner x (Text p)) (sym e) h.0),
    items_fit k ps e h.1,
  )

  -- and as the slot of the field
  paths_fit : (o : Option Field) (name : List ℕ) (p : List ℕ) (ps : List (List ℕ)) → IsKnownField o name TextOf ManyOf
      → AllByRecursion IsUtf8 (p ∷ ps) → IsFieldSlot inner o (roll-Slot (Many (paths_as_items (p ∷ ps))))
  paths_fit None name p ps h utf8 = absurd h
  paths_fit (Some f) name p ps h utf8 =
      subst (IsSlot inner f f.shape) (sym (out-roll-Slot (Many (paths_as_items (p ∷ ps)))))
      (subst (λ x. IsSlot inner f x (Many (paths_as_items (p ∷ ps)))) (sym h.1.1)
      ((λ e. absurd cc), items_fit f.kind (p ∷ ps) h.1.0 utf8))

  -- a list is no member of a oneof
  list_free : (o : Option Field) (name : List ℕ) → IsKnownField o name TextOf ManyOf → oneof_of o ≡ None
  list_free None name h = absurd h
  list_free (Some f) name h = rw h.1.1 refl

  -- the message of paths that are UTF-8 is valid
  pub paths_valid : (ps : List (List ℕ)) → AllByRecursion IsUtf8 ps
      → IsMessage inner types id (mask_value (paths_as_items ps))
  paths_valid [] h = record { rising = tt; slots = tt; oneofs = tt }
  paths_valid (p ∷ ps) h = record {
    rising = (lit< tt, tt);
    slots = (paths_fit (field_in fs 1) _ p ps known.1 h, tt);
    oneofs = subst (AreApart nat_eq) (sym (ap (λ o. cons_option o []) (list_free (field_in fs 1) _ known.1))) tt;
  }
