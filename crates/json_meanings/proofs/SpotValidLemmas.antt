-- What is read at a spot is valid there.
use Rattle.std.proofs.Common.{◌≡◌, ◌∙◌, sym, ap, subst, refl, cond, ℕ, zero, suc, Bool, true, false, List, [], ◌∷◌, Option, Some, None, Result, Ok, Err}
use Rattle.std.specs.Prelude.{ℤ, is_some}
use Rattle.std.specs.List.{AllByRecursion}
use Rattle.std.specs.Ordering.{is_eq, is_lt, ordering_reverse}
use Rattle.std.specs.Str.{IsUtf8}
use Rattle.std.specs.declared.cmp.Ordering.{Ordering}
use Rattle.std.specs.declared.cmp.Ordering.TheVariants.{Less, Equal, Greater}
use Rattle.message_types.specs.Types.{fields_of}
use Rattle.message_types.specs.declared.fields.Field.{Field}
use Rattle.message_types.specs.declared.fields.Kind.{Kind}
use Rattle.message_types.specs.declared.fields.Kind.TheVariants.{One as OneOf, Message as MessageOf}
use Rattle.message_types.specs.declared.fields.Scalar.{Scalar}
use Rattle.message_types.specs.declared.fields.Shape.{Shape}
use Rattle.message_types.specs.declared.fields.Shape.TheVariants.{Single, Member, Many as ManyOf, Map as MapOf}
use Rattle.message_types.specs.declared.messages.Known.{Known}
use Rattle.message_types.specs.declared.messages.Known.TheVariants.{Plain, Timestamp, Duration, FieldMask, Wrapper}
use Rattle.message_types.specs.declared.messages.TypeId.{TypeId}
use Rattle.schema.specs.KeyOrder.{key_back, key_congr}
use Rattle.schema.specs.Layers.{ItemLayer}
use Rattle.schema.specs.Pairs.{KeysRise, KeysRiseFrom, item_at, key_cmp, with_item}
use Rattle.schema.specs.Soundness.{FitsShape, IsKeyKind, IsSound, IsSoundField}
use Rattle.schema.specs.Validity.{IsItem, IsScalarItem, key_item, valid_within}
use Rattle.schema.specs.declared.key.Key.{Key}
use Rattle.schema.specs.declared.value.Item.{Item, out-roll-Item, roll-Item}
use Rattle.json_events.specs.JsonTree.{Mark}
use Rattle.json_meanings.specs.JsonDenotes.{item_by, object_with}
use Rattle.json_meanings.specs.JsonScalars.{IsNumberKind, Schema, text_as}
use Rattle.json_meanings.specs.PartialMessages.{FieldForm, as_key, empty_message, field_named, form_of, has_number, has_room, unless_seen, unless_there}
use Rattle.json_meanings.specs.ReadingSpots.{Filled, OpenArray, OpenObject, Spot, element, entry, many, member, of_map, of_message, pairs, part, single, unset, whole}
use Rattle.json_meanings.specs.ScalarLaws.{NumberLawsHold, RangeLawsHold}
use Rattle.json_meanings.specs.SpotTables.{array_by, below, entry_at, fills, known_of, member_at, message_by, names_spot, object_by, object_in, opens_array, opens_object}
use Rattle.json_meanings.specs.ValidLaws.{GivesValid, MarkIsUtf8}
use Rattle.json_meanings.specs.declared.fault.FieldKind.{FieldKind}
use Rattle.json_meanings.specs.declared.fault.FieldKind.TheVariants.{KeyTwice, TooDeep}
use Rattle.json_meanings.proofs.FieldLemmas.{IsFieldOf, named_field}
use Rattle.json_meanings.proofs.FilledLemmas.{AreEntries, AreItems, FillsField, IsOneShape, IsValidSoFar, empty_valid, put_filled}
use Rattle.json_meanings.proofs.ScalarItemLemmas.{IsReadOf, key_read, text_read}
use Rattle.json_meanings.proofs.TokenValidLemmas.{FillsFreely, IsOne, field_read, free_of, inner_read, one_fills, one_read}

-- ---- entries with one more

lower_from : (es : List (Key × Item)) (x y : Key) → key_cmp x y ≡ Equal → KeysRiseFrom x es → KeysRiseFrom y es
lower_from [] x y h r = tt
lower_from (e ∷ es) x y h r = (subst (λ (o : Ordering). is_lt o ≡ true) (key_congr x y e.0 h) r.0, r.1)

put_from : (es : List (Key × Item)) (low k : Key) (i : Item) → is_lt (key_cmp low k) ≡ true → KeysRiseFrom low es
    → KeysRiseFrom low (with_item es k i)
put_from [] low k i l r = (l, tt)
put_from (e ∷ es) low k i l r = by_order (key_cmp e.0 k) refl (λ m. put_from es e.0 k i m r.1)
  where
    by_order : (c : Ordering) → key_cmp e.0 k ≡ c → (is_lt (key_cmp e.0 k) ≡ true → KeysRiseFrom e.0 (with_item es k i))
        → KeysRiseFrom low (cond (is_lt c) (e ∷ with_item es k i) (cond (is_eq c) ((k, i) ∷ es) ((k, i) ∷ e ∷ es)))
    by_order Less p ih = (r.0, ih (ap is_lt p))
    by_order Equal p ih = (l, lower_from es e.0 k p r.1)
    by_order Greater p ih = (l, (ap is_lt (key_back k e.0 ∙ ap ordering_reverse p), r.1))

-- keys that rise still do with one more
keys_put : (es : List (Key × Item)) (k : Key) (i : Item) → KeysRise es → KeysRise (with_item es k i)
keys_put [] k i r = tt
keys_put (e ∷ es) k i r = by_order (key_cmp e.0 k) refl
  where
    by_order : (c : Ordering) → key_cmp e.0 k ≡ c
        → KeysRise (cond (is_lt c) (e ∷ with_item es k i) (cond (is_eq c) ((k, i) ∷ es) ((k, i) ∷ e ∷ es)))
    by_order Less p = put_from es e.0 k i (ap is_lt p) r
    by_order Equal p = lower_from es e.0 k p r
    by_order Greater p = (ap is_lt (key_back k e.0 ∙ ap ordering_reverse p), r)

-- what holds of the entries and of the one more holds of all
entries_put : (P : Key × Item → Type 0) (es : List (Key × Item)) (k : Key) (i : Item) → AllByRecursion P es → P (k, i)
    → AllByRecursion P (with_item es k i)
entries_put P [] k i all one = (one, tt)
entries_put P (e ∷ es) k i all one = by_less (is_lt (key_cmp e.0 k)) (entries_put P es k i all.1 one)
  where
    by_equal : (t : Bool) → AllByRecursion P (cond t ((k, i) ∷ es) ((k, i) ∷ e ∷ es))
    by_equal true = (one, all.1)
    by_equal false = (one, all)

    by_less : (t : Bool) → AllByRecursion P (with_item es k i)
        → AllByRecursion P
        (cond t (e ∷ with_item es k i) (cond (is_eq (key_cmp e.0 k)) ((k, i) ∷ es) ((k, i) ∷ e ∷ es)))
    by_less true ih = (all.0, ih)
    by_less false ih = by_equal (is_eq (key_cmp e.0 k))

-- ---- spots and objects

ok_array : (a b : OpenArray) → ◌≡◌ {A = Result OpenArray FieldKind} (Ok a) (Ok b) → a ≡ b
ok_array a b e = cc e

ok_object : (a b : OpenObject) → ◌≡◌ {A = Result OpenObject FieldKind} (Ok a) (Ok b) → a ≡ b
ok_object a b e = cc e

ok_spot : (a b : Spot) → ◌≡◌ {A = Result Spot FieldKind} (Ok a) (Ok b) → a ≡ b
ok_spot a b e = cc e

module _ (c : Schema) where
  -- a spot is one of a reading without a fault
  abbrev pub IsGoodSpot : Spot → Type 0
  IsGoodSpot (whole k id) = Unit {0}
  IsGoodSpot (part k f) = (g : Field) × (f ≡ form_of g) × IsSoundField c.types g
  IsGoodSpot (member k id p f) =
      (g : Field) × (f ≡ form_of g) × IsFieldOf c.types id g × IsValidSoFar c.types k id p
      × (has_number g.number p.seen ≡ false)
  IsGoodSpot (entry k s kind es key) =
      AreEntries c.types k s kind es × IsScalarItem s (key_item key) × (has_room k kind ≡ true) × IsKeyKind s
  IsGoodSpot (element a) = AreItems c.types a.levels a.kind a.items

  -- a spot is filled rightly
  abbrev pub FillsSpot : Spot → Filled → Type 0
  FillsSpot (whole k id) x = IsOne c k (MessageOf id) x
  FillsSpot (part k f) x = FillsField c.types k f x
  FillsSpot (member k id p f) x = FillsFreely c k p f x
  FillsSpot (entry k s kind es key) x = IsOne c (below k) kind x
  FillsSpot (element a) x = IsOne c a.levels a.kind x

  -- what has come of an object is valid so far
  abbrev pub IsGoodObject : OpenObject → Type 0
  IsGoodObject (of_message k id p) = IsValidSoFar c.types k id p
  IsGoodObject (of_map k s kind es) = AreEntries c.types k s kind es × IsKeyKind s

  -- what an object comes to at its end
  abbrev pub EndsAs : OpenObject → Filled → Type 0
  EndsAs (of_message k id p) x = IsOne c (suc k) (MessageOf id) x
  EndsAs (of_map k s kind es) x = (ds : List (Key × Item)) × (x ≡ pairs ds) × AreEntries c.types k s kind ds

  -- an array at a spot
  abbrev pub OpensArray : Spot → OpenArray → Type 0
  OpensArray spot a =
      AreItems c.types a.levels a.kind a.items
      × ((is : List Item) → AreItems c.types a.levels a.kind is → FillsSpot spot (many is))

  -- an object where this is wanted of its end
  abbrev pub OpensAs : OpenObject → (Filled → Type 0) → Type 0
  OpensAs o Fits = IsGoodObject o × ((y : Filled) → EndsAs o y → Fits y)

  array_of : (k : ℕ) (f : FieldForm) (shape : Shape) → f.shape ≡ shape → (a : OpenArray) → array_by k f shape ≡ Ok a
      → AreItems c.types a.levels a.kind a.items
      × ((is : List Item) → AreItems c.types a.levels a.kind is → FillsField c.types k f (many is))
  array_of k f Single is a e = absurd (cc e)
  array_of k f (Member n) is a e = absurd (cc e)
  array_of k f (MapOf s) is a e = absurd (cc e)
  array_of k f ManyOf is a e =
      subst (λ (b : OpenArray). AreItems c.types b.levels b.kind b.items
      × ((js : List Item) → AreItems c.types b.levels b.kind js → FillsField c.types k f (many js)))
      (ok_array (record { levels = k; kind = f.kind; items = [] }) a e)
      (tt, λ js h. (is, h))

  -- an array that a bracket opens
  pub array_spot : (spot : Spot) (a : OpenArray) → opens_array spot ≡ Ok a → OpensArray spot a
  array_spot (whole k id) a e = absurd (cc e)
  array_spot (part k f) a e = array_of k f f.shape refl a e
  array_spot (member k id p f) a e =
      let free = free_of p f (array_by k f f.shape) a e in
      let h = array_of k f f.shape refl a free.1 in
      (h.0, λ is items. (h.1 is items, λ some. free.0))
  array_spot (entry k s kind es key) a e = absurd (cc e)
  array_spot (element b) a e = absurd (cc e)

  message_of : (k : ℕ) (known : Known) (id : TypeId) (o : OpenObject) → message_by k known id ≡ Ok o
      → OpensAs o (IsOne c k (MessageOf id))
  message_of (suc k) Plain id o e =
      subst (λ b. OpensAs b (IsOne c (suc k) (MessageOf id))) (ok_object (of_message k id empty_message) o e)
      (empty_valid c.types k id, λ y h. h)
  message_of zero Plain id o e = absurd (cc e)
  message_of zero Timestamp id o e = absurd (cc e)
  message_of zero Duration id o e = absurd (cc e)
  message_of zero FieldMask id o e = absurd (cc e)
  message_of zero Wrapper id o e = absurd (cc e)
  message_of (suc k) Timestamp id o e = absurd (cc e)
  message_of (suc k) Duration id o e = absurd (cc e)
  message_of (suc k) FieldMask id o e = absurd (cc e)
  message_of (suc k) Wrapper id o e = absurd (cc e)

  object_of : (k : ℕ) (kind : Kind) (o : OpenObject) → object_by c k kind ≡ Ok o → OpensAs o (IsOne c k kind)
  object_of k (OneOf s) o e = absurd (cc e)
  object_of k (MessageOf id) o e = message_of k (known_of c.types id) id o e

  object_field : (k : ℕ) (f : FieldForm) (shape : Shape) → f.shape ≡ shape
      → ((s : Scalar) → shape ≡ MapOf s → IsKeyKind s)
      → (o : OpenObject) → object_in c k f shape ≡ Ok o → OpensAs o (FillsField c.types k f)
  object_field k f Single is keys o e =
      let h = object_of k f.kind o e in (h.0, λ y q. one_fills c k f y (subst IsOneShape (sym is) tt) (h.1 y q))
  object_field k f (Member n) is keys o e =
      let h = object_of k f.kind o e in (h.0, λ y q. one_fills c k f y (subst IsOneShape (sym is) tt) (h.1 y q))
  object_field k f ManyOf is keys o e = absurd (cc e)
  object_field k f (MapOf s) is keys o e =
      subst (λ b. OpensAs b (FillsField c.types k f)) (ok_object (of_map k s f.kind []) o e)
      (((tt, tt), keys s refl), λ y h. subst (FillsField c.types k f) (sym h.1) (s, is, h.2))

  keys_of : (g : Field) → IsSoundField c.types g → (s : Scalar) → g.shape ≡ MapOf s → IsKeyKind s
  keys_of g sound s is = (subst (λ shape. FitsShape shape g.kind g.presence) is sound.shape).1

  -- an object that a bracket opens
  pub object_spot : (spot : Spot) (o : OpenObject) → IsGoodSpot spot → opens_object c spot ≡ Ok o
      → OpensAs o (FillsSpot spot)
  object_spot (whole k id) o good e = object_of k (MessageOf id) o e
  object_spot (part k f) o good e =
      object_field k f f.shape refl
      (λ s is. keys_of good.0 good.2 s (ap (λ (w : FieldForm). w.shape) (sym good.1) ∙ is)) o e
  object_spot (member k id p f) o good e =
      let free = free_of p f (object_in c k f f.shape) o e in
      let h =
      object_field k f f.shape refl
      (λ s is. keys_of good.0 good.2.sound s (ap (λ (w : FieldForm). w.shape) (sym good.1) ∙ is)) o free.1 in
      (h.0, λ y q. (h.1 y q, λ some. free.0))
  object_spot (entry k s kind es key) o good e = object_of (below k) kind o e
  object_spot (element a) o good e = object_of a.levels a.kind o e

  -- what a value behind a key makes of an object
  abbrev pub NamesIn : OpenObject → Spot → Type 0
  NamesIn o spot =
      IsGoodSpot spot
      × ((x : Filled) → FillsSpot spot x → OpensAs (object_with spot x) (EndsAs o))

  entry_valid : (k : ℕ) (s : Scalar) (kind : Kind) (key : Key) (x : Filled) → has_room k kind ≡ true
      → IsScalarItem s (key_item key)
      → IsOne c (below k) kind x → (valid_within k c.types).entry s kind (key, roll-Item (item_by x))
  unfolding valid_within
  entry_valid zero s kind key x room fits one = absurd (cc room)
  entry_valid (suc k) s kind key (single i) room fits one =
      (fits, subst (IsItem (valid_within k c.types) kind) (sym (out-roll-Item i)) one)
  entry_valid (suc k) s kind key unset room fits one = absurd one
  entry_valid (suc k) s kind key (many is) room fits one = absurd one
  entry_valid (suc k) s kind key (pairs es) room fits one = absurd one

module _ (numbers : (s : Scalar) (t : List ℕ) → IsNumberKind s → NumberLawsHold s t)
    (ranges : (s : Scalar) (z : ℤ) → IsNumberKind s → RangeLawsHold s z) (c : Schema) (sound : IsSound c.types)
    (valid : GivesValid c) where
  -- a token without brackets
  pub fills_spot : (spot : Spot) (m : Mark) (x : Filled) → MarkIsUtf8 m → fills c spot m ≡ Ok x → FillsSpot c spot x
  fills_spot (whole k id) m x utf8 e = one_read numbers ranges c sound valid k (MessageOf id) m x utf8 e
  fills_spot (part k f) m x utf8 e = (field_read numbers ranges c sound valid k empty_message f m x utf8 e).0
  fills_spot (member k id p f) m x utf8 e = field_read numbers ranges c sound valid k p f m x utf8 e
  fills_spot (entry k s kind es key) m x utf8 e =
      one_read numbers ranges c sound valid (below k) kind m x utf8
      (inner_read numbers ranges c sound valid (below k) kind m x e)
  fills_spot (element a) m x utf8 e =
      one_read numbers ranges c sound valid a.levels a.kind m x utf8
      (inner_read numbers ranges c sound valid a.levels a.kind m x e)

  -- a key
  pub named_spot : (o : OpenObject) (t : List ℕ) (spot : Spot) → IsUtf8 t → IsGoodObject c o → names_spot c o t
      ≡ Ok spot → NamesIn c o spot
  named_spot (of_message k id p) t spot utf8 good e = by_field (field_named t (fields_of c.types id)) refl e
    where
      by_seen : (g : Field) → field_named t (fields_of c.types id) ≡ Some g → (b : Bool) → has_number g.number p.seen
          ≡ b
          → member_at k id p (cond b (Err KeyTwice) (Ok (form_of g))) ≡ Ok spot → NamesIn c (of_message k id p) spot
      by_seen g is true seen q = absurd (cc q)
      by_seen g is false seen q =
          let field = named_field c.types sound id t g is in
          subst (NamesIn c (of_message k id p)) (ok_spot (member k id p (form_of g)) spot q)
          ((g, refl, field, good, seen), λ x h. (put_filled c.types k id p good g field seen x h.0 h.1, λ y w. w))

      by_field : (r : Option Field) → field_named t (fields_of c.types id) ≡ r → member_at k id p (unless_seen p r)
          ≡ Ok spot
          → NamesIn c (of_message k id p) spot
      by_field None is q = absurd (cc q)
      by_field (Some g) is q = by_seen g is (has_number g.number p.seen) refl q
  named_spot (of_map k s kind es) t spot utf8 good e =
      by_text (text_as c.types s t) (text_read numbers ranges c.types s t utf8) e
    where
      by_there : (i : ItemLayer) → IsScalarItem s i → has_room k kind ≡ true → (b : Bool)
          → entry_at k s kind es (cond b (Err KeyTwice) (Ok (as_key i))) ≡ Ok spot → NamesIn c (of_map k s kind es) spot
      by_there i h room true q = absurd (cc q)
      by_there i h room false q =
          let fits = key_read numbers ranges c.types s i good.1 h in
          subst (NamesIn c (of_map k s kind es)) (ok_spot (entry k s kind es (as_key i)) spot q) (
            (good.0, fits, room, good.1),
            λ x one. (
              (
                (
                  keys_put es (as_key i) (roll-Item (item_by x)) good.0.0,
                  entries_put _ es (as_key i)
                      (roll-Item (item_by x)) good.0.1 (entry_valid c k s kind (as_key i) x room fits one),
                ),
                good.1,
              ),
              λ y w. w,
            ),
          )

      by_room : (i : ItemLayer) → IsScalarItem s i → (b : Bool) → has_room k kind ≡ b
          → entry_at k s kind es
          (cond b (cond (is_some (item_at es (as_key i))) (Err KeyTwice) (Ok (as_key i))) (Err TooDeep)) ≡ Ok spot
          → NamesIn c (of_map k s kind es) spot
      by_room i h false room q = absurd (cc q)
      by_room i h true room q = by_there i h room (is_some (item_at es (as_key i))) q

      by_text : (r : Result ItemLayer FieldKind) → IsReadOf s r → entry_at k s kind es (unless_there k kind es r)
          ≡ Ok spot
          → NamesIn c (of_map k s kind es) spot
      by_text (Err f) h q = absurd (cc q)
      by_text (Ok i) h q = by_room i h (has_room k kind) refl q
