-- The texts of lists and of maps are those of trees that are read as their items and entries.
use Rattle.std.proofs.Common.{◌≡◌, ◌∙◌, sym, ap, subst, refl, cond, ℕ, Bool, true, false, List, [], ◌∷◌, ◌++◌, append_assoc, append-nil, Option, Some, None, Ok, Err}
use Rattle.std.specs.Prelude.{is_some}
use Rattle.std.specs.List.{AllByRecursion}
use Rattle.std.specs.Ordering.{is_eq, is_lt}
use Rattle.std.specs.declared.cmp.Ordering.TheVariants.{Less}
use Rattle.message_types.specs.declared.fields.Kind.{Kind}
use Rattle.message_types.specs.declared.fields.Scalar.{Scalar}
use Rattle.message_types.specs.declared.fields.Shape.TheVariants.{Many as ManyOf, Map as MapOf}
use Rattle.schema.specs.KeyOrder.{key_trans}
use Rattle.schema.specs.Layers.{ItemLayer}
use Rattle.schema.specs.Pairs.{KeysRise, KeysRiseFrom, item_at, key_cmp, with_item}
use Rattle.schema.specs.Validity.{key_item}
use Rattle.schema.specs.declared.key.Key.{Key}
use Rattle.schema.specs.declared.key.Key.TheVariants.{Number as NumberKey, Truth as TruthKey, Text as TextKey}
use Rattle.schema.specs.declared.value.Item.{Item, out-Item, roll-Item, roll-out-Item}
use Rattle.schema.proofs.Theorems.{lt_is, rises_on}
use Rattle.json_events.specs.JsonStrings.{IsString}
use Rattle.json_events.specs.JsonTree.{Json, Items, Pairs, array, object, no_items, item, no_pairs, pair}
use Rattle.json_meanings.specs.FaultPlaces.{at_once, behind, onward, size}
use Rattle.json_meanings.specs.JsonDenotes.{array_with, items, members, object_with, value}
use Rattle.json_meanings.specs.JsonScalars.{Schema, text_as}
use Rattle.json_meanings.specs.PartialMessages.{FieldForm, as_key, has_room, unless_there}
use Rattle.json_meanings.specs.ReadingSpots.{Filled, OpenArray, OpenObject, Spot, element, entry, many, of_map, pairs, single}
use Rattle.json_meanings.specs.SpotTables.{array_by, below, entry_at, names_spot, object_in, opens_array}
use Rattle.json_meanings.specs.declared.fault.FieldKind.TheVariants.{KeyTwice, TooDeep}
use Rattle.protojson_write.specs.JsonOutput.{array_text, followers, object_text, separated}
use Rattle.protojson_write.specs.ScalarOutput.{key_text}
use Rattle.protojson_write.proofs.ShownSpots.{HasKindTree, HasTree, IsSpotOf, at_element, at_entry, opened_value}
use Rattle.protojson_write.proofs.TreeTexts.{IsItemsText, IsMoreItemsText, IsMorePairsText, IsPairsText, array_tree, first_item, first_pair, next_item, next_pair, no_items_text, no_more_items, no_more_pairs, no_pairs_text, object_tree}

-- a pair of which key and value are read, and the pairs behind it
pub pair_then : (c : Schema) (o : OpenObject) (t : List ℕ) (j : Json) (ps : Pairs) (spot : Spot) (y x : Filled)
    → names_spot c o t ≡ Ok spot → value c spot j ≡ Ok y → members c (object_with spot y) ps ≡ Ok x
    → members c o (pair t j ps) ≡ Ok x
pair_then c o t j ps spot y x named reads others =
    ap (λ r. onward (at_once r) (λ q. behind 1
    (onward (value c q j) (λ z. behind (size j) (members c (object_with q z) ps))))) named
    ∙ (ap (λ r. behind 1 (onward r (λ z. behind (size j) (members c (object_with spot z) ps)))) reads
    ∙ ap (λ r. behind 1 (behind (size j) r)) others)

module _ (c : Schema) (k : ℕ) (kind : Kind) (show : Item → List ℕ) where
  -- an open array with the items that came
  abbrev open_with : List Item → OpenArray
  open_with done = record { levels = k; kind = kind; items = done }

  item_then : (done : List Item) (i : Item) (j : Json) (js : Items) (x : Filled)
      → value c (element (open_with done)) j ≡ Ok (single (out-Item i)) → items c (open_with (done ++ i ∷ [])) js ≡ Ok x
      → items c (open_with done) (item j js) ≡ Ok x
  item_then done i j js x reads others =
      ap (λ r. onward r (λ y. behind (size j) (items c (array_with (open_with done) y) js))) reads
      ∙ ap (behind (size j)) (ap (λ y. items c (open_with (done ++ y ∷ [])) js) (roll-out-Item i) ∙ others)

  -- items with a tree each
  abbrev pub HaveTrees : List Item → Type 0
  HaveTrees is = AllByRecursion (λ i. HasKindTree c k kind (out-Item i) (show i)) is

  record HasMoreItems (done is : List Item) : Type 0 where
    pub js : Items
    pub text : IsMoreItemsText js (followers show is)
    pub reads : items c (open_with done) js ≡ Ok (many (done ++ is))

  more_items : (is : List Item) → HaveTrees is → (done : List Item) → HasMoreItems done is
  more_items [] h done = record {
    js = no_items;
    text = no_more_items;
    reads = ap (λ x. Ok (many x)) (sym (append-nil done));
  }
  more_items (i ∷ is) h done =
      let first = at_element c (open_with done) (out-Item i) (show i) h.0 in
      let others = more_items is h.1 (done ++ i ∷ []) in
      record {
        js = item first.tree others.js;
        text = next_item first.tree others.js (show i) (followers show is) first.text others.text;
        reads =
            item_then done i first.tree others.js _ first.reads
            (others.reads ∙ ap (λ x. Ok (many x)) (append_assoc done (i ∷ []) is));
      }

  record HasItems (is : List Item) : Type 0 where
    pub js : Items
    pub text : IsItemsText js (separated show is)
    pub reads : items c (open_with []) js ≡ Ok (many is)

  all_items : (is : List Item) → HaveTrees is → HasItems is
  all_items [] h = record { js = no_items; text = no_items_text; reads = refl }
  all_items (i ∷ is) h =
      let first = at_element c (open_with []) (out-Item i) (show i) h.0 in
      let others = more_items is h.1 (i ∷ []) in
      record {
        js = item first.tree others.js;
        text = first_item first.tree others.js (show i) (followers show is) first.text others.text;
        reads = item_then [] i first.tree others.js _ first.reads others.reads;
      }

-- a list at the spot of its field
pub list_shown : (c : Schema) (k : ℕ) (f : FieldForm) (spot : Spot) (show : Item → List ℕ) (is : List Item)
    → IsSpotOf c k f spot → f.shape ≡ ManyOf → HaveTrees c k f.kind show is
    → HasTree c spot (array_text (separated show is)) (many is)
list_shown c k f spot show is at shape h =
    let whole = all_items c k f.kind show is h in
    let opens = at.arrays ∙ ap (array_by k f) shape in
    record {
      tree = array whole.js;
      text = array_tree whole.js (separated show is) whole.text;
      reads = ap (λ r. onward (at_once r) (λ a. behind 1 (items c a whole.js))) opens ∙ ap (behind 1) whole.reads;
    }

-- a key below the others is below the one behind them
above : (low : Key) (done : List (Key × Item)) (e : Key × Item) (es : List (Key × Item))
    → KeysRiseFrom low (done ++ e ∷ es) → key_cmp low e.0 ≡ Less
above low [] e es h = lt_is _ h.0
above low (d ∷ done) e es h = key_trans low d.0 e.0 (lt_is _ h.0) (above d.0 done e es h.1)

-- where keys rise, an entry is put behind those before it
put_last : (done : List (Key × Item)) (e : Key × Item) (es : List (Key × Item)) → KeysRise (done ++ e ∷ es)
    → with_item done e.0 e.1 ≡ done ++ e ∷ []
put_last [] e es h = refl
put_last (d ∷ done) e es h =
    ap (λ o. cond (is_lt o) (d ∷ with_item done e.0 e.1)
    (cond (is_eq o) ((e.0, e.1) ∷ done) ((e.0, e.1) ∷ d ∷ done))) (above d.0 done e es h)
    ∙ ap (λ r. d ∷ r) (put_last done e es (rises_on d.0 (done ++ e ∷ es) h))

-- and its key is none of theirs
not_there : (done : List (Key × Item)) (e : Key × Item) (es : List (Key × Item)) → KeysRise (done ++ e ∷ es)
    → item_at done e.0 ≡ None
not_there [] e es h = refl
not_there (d ∷ done) e es h =
    ap (λ o. cond (is_eq o) (Some d.1) (item_at done e.0)) (above d.0 done e es h)
    ∙ not_there done e es (rises_on d.0 (done ++ e ∷ es) h)

key_again : (key : Key) → as_key (key_item key) ≡ key
key_again (NumberKey z) = refl
key_again (TruthKey b) = refl
key_again (TextKey t) = refl

module _ (c : Schema) (k : ℕ) (s : Scalar) (kind : Kind) (show : Item → List ℕ) where
  -- an entry, whose key and item are read
  pub record HasEntry (e : Key × Item) : Type 0 where
    pub key : List ℕ
    pub spelled : IsString key (key_text e.0)
    pub reads : text_as c.types s key ≡ Ok (key_item e.0)
    pub room : has_room k kind ≡ true
    pub item : HasKindTree c (below k) kind (out-Item e.1) (show e.1)

  -- the text of an entry
  abbrev pub show_entry : Key × Item → List ℕ
  show_entry e = key_text e.0 ++ 58 ∷ show e.1

  named : (done : List (Key × Item)) (e : Key × Item) (es : List (Key × Item)) (h : HasEntry e)
      → KeysRise (done ++ e ∷ es)
      → names_spot c (of_map k s kind done) h.key ≡ Ok (entry k s kind done e.0)
  named done e es h rise =
      ap (λ r. entry_at k s kind done (unless_there k kind done r)) h.reads
      ∙ (ap (λ b. entry_at k s kind done (cond b (cond (is_some (item_at done (as_key (key_item e.0)))) (Err KeyTwice)
      (Ok (as_key (key_item e.0)))) (Err TooDeep))) h.room
      ∙ (ap (λ x. entry_at k s kind done (cond (is_some (item_at done x)) (Err KeyTwice) (Ok x))) (key_again e.0)
      ∙ ap (λ o. entry_at k s kind done (cond (is_some o) (Err KeyTwice) (Ok e.0))) (not_there done e es rise)))

  entry_then : (done : List (Key × Item)) (e : Key × Item) (es : List (Key × Item)) (h : HasEntry e) (j : Json)
      (ps : Pairs) (x : Filled)
      → KeysRise (done ++ e ∷ es) → value c (entry k s kind done e.0) j ≡ Ok (single (out-Item e.1))
      → members c (of_map k s kind (done ++ e ∷ [])) ps ≡ Ok x
      → members c (of_map k s kind done) (pair h.key j ps) ≡ Ok x
  entry_then done e es h j ps x rise reads others =
      pair_then c (of_map k s kind done) h.key j ps (entry k s kind done e.0) (single (out-Item e.1)) x
      (named done e es h rise) reads
      (ap (λ i. members c (of_map k s kind (with_item done e.0 i)) ps) (roll-out-Item e.1)
      ∙ (ap (λ r. members c (of_map k s kind r) ps) (put_last done e es rise) ∙ others))

  record HasMoreEntries (done es : List (Key × Item)) : Type 0 where
    pub ps : Pairs
    pub text : IsMorePairsText ps (followers show_entry es)
    pub reads : members c (of_map k s kind done) ps ≡ Ok (pairs (done ++ es))

  more_entries : (es : List (Key × Item)) → AllByRecursion HasEntry es → (done : List (Key × Item))
      → KeysRise (done ++ es)
      → HasMoreEntries done es
  more_entries [] h done rise = record {
    ps = no_pairs;
    text = no_more_pairs;
    reads = ap (λ x. Ok (pairs x)) (sym (append-nil done));
  }
  more_entries (e ∷ es) h done rise =
      let first = at_entry c k s kind done e.0 (out-Item e.1) (show e.1) h.0.item in
      let others = more_entries es h.1 (done ++ e ∷ []) (subst KeysRise (sym (append_assoc done (e ∷ []) es)) rise) in
      record {
        ps = pair h.0.key first.tree others.ps;
        text =
            next_pair h.0.key first.tree others.ps (key_text e.0) (show e.1) (followers show_entry es) h.0.spelled
            first.text others.text;
        reads =
            entry_then done e es h.0 first.tree others.ps _ rise first.reads
            (others.reads ∙ ap (λ x. Ok (pairs x)) (append_assoc done (e ∷ []) es));
      }

  record HasEntries (es : List (Key × Item)) : Type 0 where
    pub ps : Pairs
    pub text : IsPairsText ps (separated show_entry es)
    pub reads : members c (of_map k s kind []) ps ≡ Ok (pairs es)

  all_entries : (es : List (Key × Item)) → AllByRecursion HasEntry es → KeysRise es → HasEntries es
  all_entries [] h rise = record { ps = no_pairs; text = no_pairs_text; reads = refl }
  all_entries (e ∷ es) h rise =
      let first = at_entry c k s kind [] e.0 (out-Item e.1) (show e.1) h.0.item in
      let others = more_entries es h.1 (e ∷ []) rise in
      record {
        ps = pair h.0.key first.tree others.ps;
        text =
            first_pair h.0.key first.tree others.ps (key_text e.0) (show e.1) (followers show_entry es) h.0.spelled
            first.text others.text;
        reads = entry_then [] e es h.0 first.tree others.ps _ rise first.reads others.reads;
      }

-- a map at the spot of its field
pub map_shown : (c : Schema) (k : ℕ) (f : FieldForm) (s : Scalar) (spot : Spot) (show : Item → List ℕ)
    (es : List (Key × Item)) → IsSpotOf c k f spot → f.shape ≡ MapOf s
    → AllByRecursion (HasEntry c k s f.kind show) es → KeysRise es
    → HasTree c spot (object_text (separated (show_entry c k s f.kind show) es)) (pairs es)
map_shown c k f s spot show es at shape h rise =
    let whole = all_entries c k s f.kind show es h rise in
    record {
      tree = object whole.ps;
      text = object_tree whole.ps (separated (show_entry c k s f.kind show) es) whole.text;
      reads =
          opened_value c spot whole.ps (of_map k s f.kind []) (pairs es) (at.objects ∙ ap (object_in c k f) shape)
          whole.reads;
    }
