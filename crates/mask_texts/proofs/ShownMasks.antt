-- Paths as items, what is appended for items, and when.
use Rattle.std.proofs.Common.{◌≡◌, ℕ, Bool, true, false, List, [], ◌∷◌, ◌++◌, Some, None, Err, Result, IsSomeAnd, is_some, refl, sym, ap, ap₂, ◌∙◌, subst, append_assoc, append-nil}
use Rattle.std.proofs.lemmas.Bool.{cond-true, cond-false, false≢true}
use Rattle.std.proofs.lemmas.List.Folds.{list_all-map}
use Rattle.std.specs.List.{flat_map, list_all}
use Rattle.schema.specs.declared.value.Item.TheVariants.{outs-Text, rolls-Text}
use Rattle.schema.specs.declared.value.Item.{Item, out-Item}
use Rattle.mask_texts.specs.MaskItems.{item_path, item_paths, path_of_layer, paths_as_items}
use Rattle.mask_texts.specs.MaskTexts.{camel_path, is_printable_path, joined_paths, mask_text}
use Rattle.mask_texts.specs.declared.fault.MaskShowFault.{MaskShowFault}
use Rattle.mask_texts.specs.declared.fault.MaskShowFault.TheVariants.{NoMemory, Unprintable}

-- the paths of paths as items
pub paths_back : (paths : List (List ℕ)) → item_paths (paths_as_items paths) ≡ paths
paths_back [] = refl
paths_back (p ∷ ps) =
    ap₂ (λ (q : List ℕ) qs. q ∷ qs) (ap path_of_layer (ap out-Item (rolls-Text p) ∙ outs-Text p)) (paths_back ps)

-- the first path, and the others each behind a comma
joined_behind : (item : Item) (items : List Item)
    → joined_paths (item_paths (item ∷ items))
    ≡ camel_path (item_path item) ++ flat_map (λ i. 44 ∷ camel_path (item_path i)) items
joined_behind item [] = sym (append-nil (camel_path (item_path item)))
joined_behind item (next ∷ items) = ap (λ l. camel_path (item_path item) ++ (44 ∷ l)) (joined_behind next items)

-- so they are appended
pub appended : (old mid new path : List ℕ) (item : Item) (items all : List Item) → all ≡ item ∷ items
    → path ≡ item_path item → mid ≡ old ++ camel_path path
    → new ≡ mid ++ flat_map (λ i. 44 ∷ camel_path (item_path i)) items → new ≡ old ++ joined_paths (item_paths all)
appended old mid new path item items all are is first others =
    let rest = flat_map (λ i. 44 ∷ camel_path (item_path i)) items in
    others ∙ (ap (λ l. l ++ rest) (first ∙ ap (λ p. old ++ camel_path p) is)
    ∙ (append_assoc old (camel_path (item_path item)) rest
    ∙ ap (λ l. old ++ l) (sym (joined_behind item items) ∙ ap (λ is. joined_paths (item_paths is)) (sym are))))

-- items with one that cannot be written have no text
pub unprintable : (items : List Item) → list_all (λ item. is_printable_path (item_path item)) items ≡ false
    → mask_text (item_paths items) ≡ None
unprintable items h =
    cond-false (list_all is_printable_path (item_paths items)) (Some (joined_paths (item_paths items))) None
    (list_all-map is_printable_path item_path items ∙ h)

-- others have one
pub printable : (items : List Item) → list_all (λ item. is_printable_path (item_path item)) items ≡ true
    → mask_text (item_paths items) ≡ Some (joined_paths (item_paths items))
printable items h =
    cond-true (list_all is_printable_path (item_paths items)) (Some (joined_paths (item_paths items))) None
    (list_all-map is_printable_path item_path items ∙ h)

-- which is what was appended
pub shown : (items : List Item) (old new : List ℕ)
    → list_all (λ item. is_printable_path (item_path item)) items ≡ true
    → new ≡ old ++ joined_paths (item_paths items)
    → IsSomeAnd (mask_text (item_paths items)) (λ text. new ≡ old ++ text)
shown items old new h e = subst (λ o. IsSomeAnd o (λ text. new ≡ old ++ text)) (sym (printable items h)) e

-- they are not without a text
pub has_text : (items : List Item) → list_all (λ item. is_printable_path (item_path item)) items ≡ true
    → mask_text (item_paths items) ≡ None → ⊥
has_text items h none = false≢true (ap is_some (sym none ∙ printable items h))

-- the answer says that there is no text
abbrev says_unprintable : Result (Unit {0}) MaskShowFault → Bool
says_unprintable (Err Unprintable) = true
says_unprintable _ = false

-- out of memory does not say so
pub no_memory_apart : (r : Result (Unit {0}) MaskShowFault) (y : MaskShowFault) → r ≡ Err y → y ≡ NoMemory
    → r ≡ Err Unprintable → ⊥
no_memory_apart r y err is e =
    false≢true (sym (ap says_unprintable (err ∙ ap Err is)) ∙ ap says_unprintable e)

-- nor does success
pub ok_apart : (r : Result (Unit {0}) MaskShowFault) → says_unprintable r ≡ false → r ≡ Err Unprintable → ⊥
ok_apart r ok e = false≢true (sym ok ∙ ap says_unprintable e)
