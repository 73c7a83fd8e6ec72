-- What is read piece by piece.
use Rattle.std.proofs.Common.{◌≡◌, ◌&&◌, ◌<◌, suc, length, arith, ℕ, Bool, true, false, cond, List, [], ◌∷◌, ◌++◌, map, Option, Some, None, is_some, option_map, Err, refl, sym, ap, ap₂, ◌∙◌, append_assoc, append-nil}
use Rattle.std.proofs.lemmas.Bool.{false≢true}
use Rattle.std.specs.Borrow.{Bor}
use Rattle.std.specs.List.{list_all, slice_split}
use Rattle.schema.specs.declared.value.Item.TheOpen.{Text}
use Rattle.schema.specs.declared.value.Item.{Item, roll-Item}
use Rattle.mask_texts.specs.MaskTexts.{is_camel_path, is_comma, snake_path, pieces_of, mask_reading}
use Rattle.mask_texts.specs.MaskItems.{IsMaskReading, IsPathReading, path_as_item, paths_as_items, pieces_left}
use Rattle.mask_texts.specs.declared.fault.MaskFault.{MaskFault}
use Rattle.mask_texts.specs.declared.fault.MaskFault.TheVariants.{BadText, NoMemory}

-- the item of the path that a piece stands for
abbrev pub piece_item : List ℕ → Item
piece_item piece = path_as_item (snake_path piece)

-- items with those of the pieces that are left, where each of these is a path in a text
unfoldable pub items_behind : List Item → List (List ℕ) → Option (List Item)
items_behind items pieces =
    cond (list_all is_camel_path pieces) (Some (items ++ map piece_item pieces)) None

-- a piece that is read moves to the items
pub next_read : (items : List Item) (piece : List ℕ) (pieces : List (List ℕ)) → is_camel_path piece ≡ true
    → items_behind (items ++ piece_item piece ∷ []) pieces ≡ items_behind items (piece ∷ pieces)
unfolding items_behind
next_read items piece pieces is =
    ap₂ (λ t (l : List Item). cond t (Some l) None)
    (sym (ap (λ t. t && list_all is_camel_path pieces) is))
    (append_assoc items (piece_item piece ∷ []) (map piece_item pieces))

-- a text with a piece that is none means nothing
pub none_read : (text : List ℕ) (items : List Item) (piece : List ℕ) (pieces : List (List ℕ))
    → is_camel_path piece ≡ false → items_behind items (piece ∷ pieces) ≡ items_behind [] (pieces_of text)
    → mask_reading text ≡ None
unfolding items_behind
none_read text items piece pieces is same =
    by_test (list_all is_camel_path (pieces_of text))
    (sym (ap (λ t. cond (t && list_all is_camel_path pieces) (Some (items ++ map piece_item (piece ∷ pieces))) None) is)
    ∙ same)
  where
    by_test : (t : Bool) → None ≡ cond t (Some (map piece_item (pieces_of text))) None
        → cond t (Some (map snake_path (pieces_of text))) None ≡ None
    by_test true e = absurd (false≢true (ap is_some e))
    by_test false e = refl

-- the items of pieces are those of the paths that they stand for
two_maps : (pieces : List (List ℕ)) → map path_as_item (map snake_path pieces) ≡ map piece_item pieces
two_maps [] = refl
two_maps (p ∷ ps) = ap (λ l. piece_item p ∷ l) (two_maps ps)

-- where no piece is left, the items are those of the paths that the text means
pub all_read : (text : List ℕ) (items : List Item) → items_behind items [] ≡ items_behind [] (pieces_of text)
    → option_map paths_as_items (mask_reading text) ≡ Some items
unfolding items_behind
all_read text items same =
    by_test (list_all is_camel_path (pieces_of text)) ∙ (sym same ∙ ap Some (append-nil items))
  where
    by_test : (t : Bool) → option_map paths_as_items (cond t (Some (map snake_path (pieces_of text))) None)
        ≡ cond t (Some (map piece_item (pieces_of text))) None
    by_test true = ap Some (two_maps (pieces_of text))
    by_test false = refl

-- what is left begins with the piece that is taken
pub taken : (items : List Item) (left : Option (Bor (List ℕ))) (rest : Bor (List ℕ)) (piece : List ℕ)
    (pieces : List (List ℕ)) (all : Option (List Item)) → left ≡ Some rest
    → slice_split is_comma rest.now ≡ piece ∷ pieces → items_behind items (pieces_left left) ≡ all
    → items_behind items (piece ∷ pieces) ≡ all
taken items left rest piece pieces all is split same =
    ap (items_behind items) (sym split ∙ sym (ap pieces_left is)) ∙ same

-- behind it there are fewer
pub fewer : (left : Option (Bor (List ℕ))) (rest : Bor (List ℕ)) (piece : List ℕ) (pieces : List (List ℕ))
    → left ≡ Some rest → slice_split is_comma rest.now ≡ piece ∷ pieces → length pieces < length (pieces_left left)
fewer left rest piece pieces is split =
    let all : length (pieces_left left) ≡ suc (length pieces) = ap (λ l. length (pieces_left l)) is ∙ ap length split in
    omega (arith, all)

-- a path that is pushed moves its piece to the items
pub moved : (items new : List Item) (item : Item) (path piece : List ℕ) (pieces : List (List ℕ))
    (all : Option (List Item)) → new ≡ items ++ item ∷ [] → roll-Item (Text path) ≡ item
    → (is_camel_path piece ≡ true) × (path ≡ snake_path piece)
    → items_behind items (piece ∷ pieces) ≡ all → items_behind new pieces ≡ all
moved items new item path piece pieces all pushed rolled read same =
    ap (λ l. items_behind l pieces)
    (pushed ∙ ap (λ i. items ++ i ∷ []) (sym rolled ∙ ap path_as_item read.1))
    ∙ (next_read items piece pieces read.0 ∙ same)

-- where a piece is none, the text means nothing
pub failed : (text : List ℕ) (items : List Item) (piece : List ℕ) (pieces : List (List ℕ)) (fault : MaskFault)
    → IsPathReading piece (Err fault) → items_behind items (piece ∷ pieces) ≡ items_behind [] (pieces_of text)
    → IsMaskReading text (Err fault)
failed text items piece pieces BadText bad same = none_read text items piece pieces bad same
failed text items piece pieces NoMemory bad same = tt

-- where nothing is left, no piece is
pub ended : (items : List Item) (left : Option (Bor (List ℕ))) (all : Option (List Item)) → left ≡ None
    → items_behind items (pieces_left left) ≡ all → items_behind items [] ≡ all
ended items left all none same = ap (λ l. items_behind items (pieces_left l)) (sym none) ∙ same
