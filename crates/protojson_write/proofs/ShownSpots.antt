-- The text of a value of a kind is that of a tree that is read as the value, wherever such a value may stand.
use Rattle.std.proofs.Common.{◌≡◌, ◌∙◌, ◌⊎◌, inl, inr, sym, ap, subst, refl, cond, ℕ, Bool, true, false, List, [], Option, Some, None, Result, Ok, Err}
use Rattle.message_types.specs.Types.{fields_of}
use Rattle.message_types.specs.declared.fields.Kind.{Kind}
use Rattle.message_types.specs.declared.fields.Kind.TheVariants.{Message as MessageOf}
use Rattle.message_types.specs.declared.fields.Scalar.{Scalar}
use Rattle.message_types.specs.declared.fields.Shape.{Shape}
use Rattle.message_types.specs.declared.fields.Shape.TheVariants.{Single, Member, Many as ManyOf, Map as MapOf}
use Rattle.message_types.specs.declared.messages.TypeId.{TypeId}
use Rattle.schema.specs.Layers.{ItemLayer}
use Rattle.schema.specs.declared.key.Key.{Key}
use Rattle.schema.specs.declared.value.Item.{Item}
use Rattle.json_events.specs.JsonTree.{Json, Pairs, object}
use Rattle.json_meanings.specs.FaultPlaces.{Fault, at_once, behind, onward}
use Rattle.json_meanings.specs.JsonDenotes.{members, value}
use Rattle.json_meanings.specs.JsonScalars.{Schema}
use Rattle.json_meanings.specs.PartialMessages.{FieldForm, PartialMessage, empty_message, is_taken}
use Rattle.json_meanings.specs.ReadingSpots.{Filled, OpenArray, OpenObject, Spot, element, entry, member, part, single, whole}
use Rattle.json_meanings.specs.SpotTables.{array_by, as_single, below, field_as, fills, inner_as, kind_as, object_by, object_in, opens_array, opens_object, shape_as, unless_taken}
use Rattle.json_meanings.specs.declared.fault.FieldKind.{FieldKind}
use Rattle.json_meanings.specs.declared.fault.FieldKind.TheVariants.{OneofTwice}
use Rattle.protojson_write.proofs.ShownTokens.{IsLeafText, Leaf, leaf_mark, leaf_text, leaf_tree, number_leaf, text_leaf, truth_leaf}
use Rattle.protojson_write.proofs.TreeTexts.{IsTreeText}

-- the bytes are a text of a tree that comes to this at a spot
pub record HasTree (c : Schema) (spot : Spot) (w : List ℕ) (x : Filled) : Type 0 where
  pub tree : Json
  pub text : IsTreeText tree w
  pub reads : value c spot tree ≡ Ok x

-- the bytes are a text of a token that is read as the item of the kind
pub record HasToken (c : Schema) (k : ℕ) (kind : Kind) (i : ItemLayer) (w : List ℕ) : Type 0 where
  pub leaf : Leaf
  pub text : IsLeafText leaf w
  pub reads : kind_as c k kind (leaf_mark leaf) ≡ Ok i

-- the bytes are a text of an object that is read so
pub record HasObject (c : Schema) (k : ℕ) (kind : Kind) (i : ItemLayer) (w : List ℕ) : Type 0 where
  pub pairs : Pairs
  pub opened : OpenObject
  pub text : IsTreeText (object pairs) w
  pub opens : object_by c k kind ≡ Ok opened
  pub reads : members c opened pairs ≡ Ok (single i)

-- one of both
abbrev pub HasKindTree : Schema → ℕ → Kind → ItemLayer → List ℕ → Type 0
HasKindTree c k kind i w = HasToken c k kind i w ⊎ HasObject c k kind i w

-- a token at a spot
leaf_value : (c : Schema) (spot : Spot) (p : Leaf) → value c spot (leaf_tree p) ≡ at_once (fills c spot (leaf_mark p))
leaf_value c spot (number_leaf t) = refl
leaf_value c spot (text_leaf t) = refl
leaf_value c spot (truth_leaf true) = refl
leaf_value c spot (truth_leaf false) = refl

-- a token is no null
leaf_inner : (c : Schema) (k : ℕ) (kind : Kind) (p : Leaf)
    → inner_as c k kind (leaf_mark p) ≡ as_single (kind_as c k kind (leaf_mark p))
leaf_inner c k kind (number_leaf t) = refl
leaf_inner c k kind (text_leaf t) = refl
leaf_inner c k kind (truth_leaf true) = refl
leaf_inner c k kind (truth_leaf false) = refl

leaf_field : (c : Schema) (k : ℕ) (m : PartialMessage) (f : FieldForm) (p : Leaf)
    → field_as c k m f (leaf_mark p) ≡ unless_taken m f (shape_as c k f f.shape (leaf_mark p))
leaf_field c k m f (number_leaf t) = refl
leaf_field c k m f (text_leaf t) = refl
leaf_field c k m f (truth_leaf true) = refl
leaf_field c k m f (truth_leaf false) = refl

-- an object that opens at a spot
pub opened_value : (c : Schema) (spot : Spot) (ps : Pairs) (o : OpenObject) (x : Filled) → opens_object c spot ≡ Ok o
    → members c o ps ≡ Ok x → value c spot (object ps) ≡ Ok x
opened_value c spot ps o x opens reads =
    ap (λ r. onward (at_once r) (λ q. behind 1 (members c q ps))) opens ∙ ap (behind 1) reads

-- what a kind has it has at each spot that is filled by a token and opened by an object of the kind
pub at_spot : (c : Schema) (k : ℕ) (kind : Kind) (i : ItemLayer) (w : List ℕ) (spot : Spot)
    → ((p : Leaf) → fills c spot (leaf_mark p) ≡ as_single (kind_as c k kind (leaf_mark p)))
    → opens_object c spot ≡ object_by c k kind
    → HasKindTree c k kind i w → HasTree c spot w (single i)
at_spot c k kind i w spot by_token by_object (inl h) = record {
  tree = leaf_tree h.leaf;
  text = leaf_text h.leaf w h.text;
  reads =
      leaf_value c spot h.leaf ∙ ap at_once (by_token h.leaf ∙ ap as_single h.reads);
}
at_spot c k kind i w spot by_token by_object (inr h) = record {
  tree = object h.pairs;
  text = h.text;
  reads = opened_value c spot h.pairs h.opened (single i) (by_object ∙ h.opens) h.reads;
}

-- an item of an array
pub at_element : (c : Schema) (a : OpenArray) (i : ItemLayer) (w : List ℕ) → HasKindTree c a.levels a.kind i w
    → HasTree c (element a) w (single i)
at_element c a i w h =
    at_spot c a.levels a.kind i w (element a) (λ p. leaf_inner c a.levels a.kind p) refl h

-- the value of an entry
pub at_entry : (c : Schema) (k : ℕ) (s : Scalar) (kind : Kind) (es : List (Key × Item)) (key : Key) (i : ItemLayer)
    (w : List ℕ) → HasKindTree c (below k) kind i w
    → HasTree c (entry k s kind es key) w (single i)
at_entry c k s kind es key i w h =
    at_spot c (below k) kind i w (entry k s kind es key) (λ p. leaf_inner c (below k) kind p) refl h

-- a message that stands alone
pub at_whole : (c : Schema) (k : ℕ) (id : TypeId) (i : ItemLayer) (w : List ℕ) → HasKindTree c k (MessageOf id) i w
    → HasTree c (whole k id) w (single i)
at_whole c k id i w h = at_spot c k (MessageOf id) i w (whole k id) (λ p. refl) refl h

-- a spot is that of a field of this form, where nothing hinders its value
pub record IsSpotOf (c : Schema) (k : ℕ) (f : FieldForm) (spot : Spot) : Type 0 where
  pub tokens : (p : Leaf) → fills c spot (leaf_mark p) ≡ shape_as c k f f.shape (leaf_mark p)
  pub arrays : opens_array spot ≡ array_by k f f.shape
  pub objects : opens_object c spot ≡ object_in c k f f.shape

free_is : {A : Type 0} (m : PartialMessage) (f : FieldForm) (r : Result A FieldKind) → is_taken m f.shape ≡ false
    → unless_taken m f r ≡ r
free_is m f r free = ap (λ b. cond b (Err OneofTwice) r) free

none_taken : (shape : Shape) → is_taken empty_message shape ≡ false
none_taken Single = refl
none_taken (Member k) = refl
none_taken ManyOf = refl
none_taken (MapOf s) = refl

-- behind a key, where no other member of its oneof has a value
pub member_spot : (c : Schema) (k : ℕ) (id : TypeId) (m : PartialMessage) (f : FieldForm) → is_taken m f.shape ≡ false
    → IsSpotOf c k f (member k id m f)
member_spot c k id m f free = record {
  tokens = λ p. leaf_field c k m f p ∙ free_is m f (shape_as c k f f.shape (leaf_mark p)) free;
  arrays = free_is m f (array_by k f f.shape) free;
  objects = free_is m f (object_in c k f f.shape) free;
}

-- alone
pub part_spot_of : (c : Schema) (k : ℕ) (f : FieldForm) → IsSpotOf c k f (part k f)
part_spot_of c k f = record {
  tokens = λ p.
      leaf_field c k empty_message f p
      ∙ free_is empty_message f (shape_as c k f f.shape (leaf_mark p)) (none_taken f.shape);
  arrays = refl;
  objects = refl;
}

-- a field with this shape has at most one item: it is single, or a member of a oneof
abbrev pub IsOneItem : Shape → Type 0
IsOneItem shape = (shape ≡ Single) ⊎ ((n : ℕ) × (shape ≡ Member n))

one_token : (c : Schema) (k : ℕ) (f : FieldForm) (shape : Shape) (p : Leaf) → IsOneItem shape
    → shape_as c k f shape (leaf_mark p) ≡ as_single (kind_as c k f.kind (leaf_mark p))
one_token c k f shape p (inl e) = ap (λ x. shape_as c k f x (leaf_mark p)) e
one_token c k f shape p (inr e) = ap (λ x. shape_as c k f x (leaf_mark p)) e.1

one_object : (c : Schema) (k : ℕ) (f : FieldForm) (shape : Shape) → IsOneItem shape
    → object_in c k f shape ≡ object_by c k f.kind
one_object c k f shape (inl e) = ap (object_in c k f) e
one_object c k f shape (inr e) = ap (object_in c k f) e.1

-- the one item of a field
pub at_field : (c : Schema) (k : ℕ) (f : FieldForm) (spot : Spot) (i : ItemLayer) (w : List ℕ) → IsSpotOf c k f spot
    → IsOneItem f.shape → HasKindTree c k f.kind i w
    → HasTree c spot w (single i)
at_field c k f spot i w is one h =
    at_spot c k f.kind i w spot (λ p. is.tokens p ∙ one_token c k f f.shape p one)
    (is.objects ∙ one_object c k f f.shape one) h
