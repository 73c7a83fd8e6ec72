-- A value that is read of a tree is valid.
use Rattle.std.proofs.Common.{◌≡◌, sym, ap, subst, refl, ℕ, false, List, [], ◌∷◌, ◌++◌, Option, Some, None, Result, Ok, Err}
use Rattle.std.specs.Prelude.{ℤ}
use Rattle.base.proofs.EachLemmas.{each_joined}
use Rattle.message_types.specs.Types.{field_in, fields_of}
use Rattle.message_types.specs.declared.fields.Field.{Field}
use Rattle.message_types.specs.declared.fields.Kind.TheVariants.{Message as MessageOf}
use Rattle.message_types.specs.declared.fields.Scalar.{Scalar}
use Rattle.message_types.specs.declared.fields.Shape.{Shape}
use Rattle.message_types.specs.declared.fields.Shape.TheVariants.{Single, Member, Many as ManyOf, Map as MapOf}
use Rattle.message_types.specs.declared.messages.TypeId.{TypeId}
use Rattle.schema.specs.Soundness.{IsSound}
use Rattle.schema.specs.Validity.{IsItem, IsValid, valid_within}
use Rattle.schema.specs.declared.value.Item.TheOpen.{Number, Truth, Text, Bytes, Message}
use Rattle.schema.specs.declared.value.Item.{Item, out-roll-Item, roll-Item}
use Rattle.schema.specs.declared.value.Value.{Value}
use Rattle.json_events.specs.JsonTree.{Json, Items, Pairs, literal, number, string, array, object, no_items, item, no_pairs, pair, digits, text, name}
use Rattle.json_meanings.specs.FaultPlaces.{Fault, at_once, behind, onward, size}
use Rattle.json_meanings.specs.JsonDenotes.{Denotes, alone, array_with, item_by, items, members, object_value, object_with, part_spot, slot_by, value}
use Rattle.json_meanings.specs.JsonScalars.{IsNumberKind, Schema}
use Rattle.json_meanings.specs.PartialMessages.{empty_message, form_of, is_taken, put_field}
use Rattle.json_meanings.specs.ReadingSpots.{Filled, OpenArray, OpenObject, Spot, element, many, of_map, of_message, pairs, part, single, unset, whole}
use Rattle.json_meanings.specs.ScalarLaws.{NumberLawsHold, RangeLawsHold}
use Rattle.json_meanings.specs.SpotTables.{fills, names_spot, opens_array, opens_object}
use Rattle.json_meanings.specs.ValidLaws.{GivesValid, HasUtf8, ItemsHaveUtf8, PairsHaveUtf8}
use Rattle.json_meanings.specs.declared.fault.FieldKind.{FieldKind}
use Rattle.json_meanings.proofs.FieldLemmas.{numbered_field}
use Rattle.json_meanings.proofs.FilledLemmas.{AreItems, FillsField, empty_valid, put_filled, valid_at_end}
use Rattle.json_meanings.proofs.SpotValidLemmas.{EndsAs, FillsSpot, IsGoodObject, IsGoodSpot, array_spot, fills_spot, named_spot, object_spot}
use Rattle.json_meanings.proofs.TokenValidLemmas.{IsOne}

-- what is read behind some tokens
read_behind : {A : Type 0} (n : ℕ) (r : Result A Fault) (a : A) → behind n r ≡ Ok a → r ≡ Ok a
read_behind n (Ok b) a e = e
read_behind n (Err f) a e = absurd (cc e)

read_at_once : {A : Type 0} (r : Result A FieldKind) (a : A) → at_once r ≡ Ok a → r ≡ Ok a
read_at_once (Ok b) a e = ap Ok (same b a e)
  where
    same : {A : Type 0} (b a : A) → ◌≡◌ {A = Result A Fault} (Ok b) (Ok a) → b ≡ a
    same b a e = cc e
read_at_once (Err f) a e = absurd (cc e)

-- what is read in two steps
read_onward : {A B : Type 0} (r : Result A Fault) (f : A → Result B Fault) (b : B) → onward r f ≡ Ok b
    → (a : A) × (r ≡ Ok a) × (f a ≡ Ok b)
read_onward (Ok a) f b e = (a, refl, e)
read_onward (Err g) f b e = absurd (cc e)

many_is : (is : List Item) (x : Filled) → ◌≡◌ {A = Result Filled Fault} (Ok (many is)) (Ok x) → x ≡ many is
many_is is x e = cc e

filled_is : (y x : Filled) → ◌≡◌ {A = Result Filled Fault} (Ok y) (Ok x) → y ≡ x
filled_is y x e = cc e

value_is : (v w : Value) → ◌≡◌ {A = Result Value Fault} (Ok v) (Ok w) → v ≡ w
value_is v w e = cc e

-- the items of an array with one more
item_more : (c : Schema) (a : OpenArray) (y : Filled) → AreItems c.types a.levels a.kind a.items
    → IsOne c a.levels a.kind y
    → AreItems c.types a.levels a.kind (a.items ++ roll-Item (item_by y) ∷ [])
item_more c a (single i) all one =
    each_joined _ a.items (roll-Item i ∷ []) all
    (subst (IsItem (valid_within a.levels c.types) a.kind) (sym (out-roll-Item i)) one, tt)
item_more c a unset all one = absurd one
item_more c a (many is) all one = absurd one
item_more c a (pairs es) all one = absurd one

module _ (numbers : (s : Scalar) (t : List ℕ) → IsNumberKind s → NumberLawsHold s t)
    (ranges : (s : Scalar) (z : ℤ) → IsNumberKind s → RangeLawsHold s z) (c : Schema) (sound : IsSound c.types)
    (valid : GivesValid c) where
  -- the items that an array comes to
  abbrev HasItems : OpenArray → Filled → Type 0
  HasItems a x = (is : List Item) × (x ≡ many is) × AreItems c.types a.levels a.kind is

  ends : (o : OpenObject) → IsGoodObject c o → EndsAs c o (object_value o)
  ends (of_message k id p) good = valid_at_end c.types k id p good
  ends (of_map k s kind es) good = (es, refl, good.0)

  mutual
    value_valid : (spot : Spot) (j : Json) (x : Filled) → HasUtf8 j → IsGoodSpot c spot → value c spot j ≡ Ok x
        → FillsSpot c spot x
    value_valid spot (literal n) x utf8 good e =
        fills_spot numbers ranges c sound valid spot (name n) x tt (read_at_once (fills c spot (name n)) x e)
    value_valid spot (number t) x utf8 good e =
        fills_spot numbers ranges c sound valid spot (digits t) x tt (read_at_once (fills c spot (digits t)) x e)
    value_valid spot (string t) x utf8 good e =
        fills_spot numbers ranges c sound valid spot (text t) x utf8 (read_at_once (fills c spot (text t)) x e)
    value_valid spot (array js) x utf8 good e =
        let opened = read_onward (at_once (opens_array spot)) (λ a. behind 1 (items c a js)) x e in
        let fits = array_spot c spot opened.0 (read_at_once (opens_array spot) opened.0 opened.1) in
        let h = items_valid opened.0 js x utf8 fits.0 (read_behind 1 (items c opened.0 js) x opened.2) in
        subst (FillsSpot c spot) (sym h.1) (fits.1 h.0 h.2)
    value_valid spot (object ps) x utf8 good e =
        let opened = read_onward (at_once (opens_object c spot)) (λ o. behind 1 (members c o ps)) x e in
        let fits = object_spot c spot opened.0 good (read_at_once (opens_object c spot) opened.0 opened.1) in
        fits.1 x (members_valid opened.0 ps x utf8 fits.0 (read_behind 1 (members c opened.0 ps) x opened.2))

    items_valid : (a : OpenArray) (js : Items) (x : Filled) → ItemsHaveUtf8 js
        → AreItems c.types a.levels a.kind a.items
        → items c a js ≡ Ok x → HasItems a x
    items_valid a no_items x utf8 good e = (a.items, many_is a.items x e, good)
    items_valid a (item j js) x utf8 good e =
        let first = read_onward (value c (element a) j) (λ y. behind (size j) (items c (array_with a y) js)) x e in
        let one = value_valid (element a) j first.0 utf8.0 good first.1 in
        items_valid (array_with a first.0) js x utf8.1 (item_more c a first.0 good one)
        (read_behind (size j) (items c (array_with a first.0) js) x first.2)

    members_valid : (o : OpenObject) (ps : Pairs) (x : Filled) → PairsHaveUtf8 ps → IsGoodObject c o → members c o ps
        ≡ Ok x → EndsAs c o x
    members_valid o no_pairs x utf8 good e = subst (EndsAs c o) (filled_is (object_value o) x e) (ends o good)
    members_valid o (pair t j ps) x utf8 good e =
        let named =
        read_onward (at_once (names_spot c o t))
        (λ s. behind 1 (onward (value c s j) (λ y. behind (size j) (members c (object_with s y) ps)))) x e in
        let spot = named.0 in
        let fits = named_spot numbers ranges c sound valid o t spot utf8.0 good
        (read_at_once (names_spot c o t) spot named.1) in
        let first =
        read_onward (value c spot j) (λ y. behind (size j) (members c (object_with spot y) ps)) x
        (read_behind 1 (onward (value c spot j) (λ y. behind (size j) (members c (object_with spot y) ps))) x named.2)
        in
        let after = fits.1 first.0 (value_valid spot j first.0 utf8.1 fits.0 first.1) in
        after.1 x
        (members_valid (object_with spot first.0) ps x utf8.2 after.0
        (read_behind (size j) (members c (object_with spot first.0) ps) x first.2))

  -- ---- alone

  whole_valid : (id : TypeId) (x : Filled) → IsOne c 100 (MessageOf id) x → IsValid c.types id (alone (whole 100 id) x)
  whole_valid id (single (Message v)) h = h
  whole_valid id (single (Number z)) h = absurd h
  whole_valid id (single (Truth b)) h = absurd h
  whole_valid id (single (Text t)) h = absurd h
  whole_valid id (single (Bytes b)) h = absurd h
  whole_valid id unset h = absurd h
  whole_valid id (many is) h = absurd h
  whole_valid id (pairs es) h = absurd h

  none_taken : (shape : Shape) → is_taken empty_message shape ≡ false
  none_taken Single = refl
  none_taken (Member n) = refl
  none_taken ManyOf = refl
  none_taken (MapOf s) = refl

  part_valid : (id : TypeId) (n : ℕ) (f : Field) → field_in (fields_of c.types id) n ≡ Some f → (x : Filled)
      → FillsField c.types 99 (form_of f) x → IsValid c.types id (alone (part 99 (form_of f)) x)
  part_valid id n f e x h =
      valid_at_end c.types 99 id (put_field empty_message (form_of f) (slot_by (form_of f) x))
      (put_filled c.types 99 id empty_message (empty_valid c.types 99 id) f
      (numbered_field c.types sound id n f e) refl x h
      (λ some. none_taken f.shape))

  -- a tree that is read as a message of a type, or as its one field
  pub denoted_is_valid : (id : TypeId) (n : Option ℕ) (j : Json) (v : Value) → HasUtf8 j → Denotes c id n j v
      → IsValid c.types id v
  denoted_is_valid id n j v utf8 e = by_part n e
    where
      by_whole : onward (value c (whole 100 id) j) (λ x. Ok (alone (whole 100 id) x)) ≡ Ok v → IsValid c.types id v
      by_whole e =
          let h = read_onward (value c (whole 100 id) j) (λ x. Ok (alone (whole 100 id) x)) v e in
          subst (IsValid c.types id) (value_is _ v h.2)
          (whole_valid id h.0 (value_valid (whole 100 id) j h.0 utf8 tt h.1))

      by_field : (m : ℕ) (o : Option Field) → field_in (fields_of c.types id) m ≡ o
          → onward (value c (part_spot o id) j) (λ x. Ok (alone (part_spot o id) x)) ≡ Ok v → IsValid c.types id v
      by_field m None is e = by_whole e
      by_field m (Some f) is e =
          let field = numbered_field c.types sound id m f is in
          let h = read_onward (value c (part 99 (form_of f)) j) (λ x. Ok (alone (part 99 (form_of f)) x)) v e in
          subst (IsValid c.types id) (value_is _ v h.2)
          (part_valid id m f is h.0 (value_valid (part 99 (form_of f)) j h.0 utf8 (f, refl, field.sound) h.1))

      by_part : (n : Option ℕ) → Denotes c id n j v → IsValid c.types id v
      by_part None e = by_whole e
      by_part (Some m) e = by_field m (field_in (fields_of c.types id) m) refl e
