-- Tokens without brackets that are no null, and their texts.
use Rattle.std.proofs.Common.{◌≡◌, sym, subst, ℕ, Bool, true, false, List}
use Rattle.json_events.specs.JsonNumbers.{IsNumber}
use Rattle.json_events.specs.JsonStrings.{IsString}
use Rattle.json_events.specs.JsonTree.{Json, Mark, literal, number, string, digits, text, name}
use Rattle.json_events.specs.declared.state.Name.TheVariants as names
use Rattle.json_meanings.specs.JsonScalars.{truth_text}
use Rattle.protojson_write.proofs.TreeTexts.{IsTreeText, literal_text, number_tree, string_tree}

-- a token without brackets that is no null
pub data Leaf : Type 0 where
  number_leaf : (t : List ℕ) → Leaf
  text_leaf : (t : List ℕ) → Leaf
  truth_leaf : Bool → Leaf

-- its tree
abbrev pub leaf_tree : Leaf → Json
leaf_tree (number_leaf t) = number t
leaf_tree (text_leaf t) = string t
leaf_tree (truth_leaf true) = literal names.True
leaf_tree (truth_leaf false) = literal names.False

-- its mark
abbrev pub leaf_mark : Leaf → Mark
leaf_mark (number_leaf t) = digits t
leaf_mark (text_leaf t) = text t
leaf_mark (truth_leaf true) = name names.True
leaf_mark (truth_leaf false) = name names.False

-- the bytes spell it
abbrev pub IsLeafText : Leaf → List ℕ → Type 0
IsLeafText (number_leaf t) w = (w ≡ t) × IsNumber t
IsLeafText (text_leaf t) w = IsString t w
IsLeafText (truth_leaf b) w = w ≡ truth_text b

-- they are a text of its tree
pub leaf_text : (p : Leaf) (w : List ℕ) → IsLeafText p w → IsTreeText (leaf_tree p) w
leaf_text (number_leaf t) w h = subst (IsTreeText (number t)) (sym h.0) (number_tree t h.1)
leaf_text (text_leaf t) w h = string_tree t w h
leaf_text (truth_leaf true) w h = literal_text names.True w h
leaf_text (truth_leaf false) w h = literal_text names.False w h
