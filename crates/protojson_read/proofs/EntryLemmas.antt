-- The entries of a map that is open, in a map by the order of keys.
use Rattle.std.proofs.Common.{◌≡◌, ◌∙◌, ap, refl, cond, Bool, List, [], ◌∷◌, Option, Some}
use Rattle.std.specs.BTreeMap.{insert_entry, is_at}
use Rattle.std.specs.List.{AllByRecursion}
use Rattle.std.specs.List.Sorted.{IsStrictlySortedBy}
use Rattle.std.specs.Map.{keys_of, lookup}
use Rattle.std.specs.Ordering.{ordering_reverse, is_lt, is_eq}
use Rattle.std.specs.Prelude.{is_some}
use Rattle.std.specs.declared.cmp.Ordering.{Ordering}
use Rattle.std.specs.declared.cmp.Ordering.TheVariants.{Less, Equal, Greater}
use Rattle.schema.specs.KeyOrder.{key_back, key_same}
use Rattle.schema.specs.Pairs.{KeysRise, KeysRiseFrom, item_at, key_cmp, with_item}
use Rattle.schema.specs.declared.key.Key.{Key}
use Rattle.schema.specs.declared.value.Item.{Item}

-- seen from the other side, the same is equal
eq_back : (o : Ordering) → is_eq (ordering_reverse o) ≡ is_eq o
eq_back Less = refl
eq_back Equal = refl
eq_back Greater = refl

-- the item of a key
looked_up : (es : List (Key × Item)) (k : Key) → lookup (is_at (key_cmp k)) es ≡ item_at es k
looked_up [] k = refl
looked_up (e ∷ es) k =
    let same : is_eq (key_cmp k e.0) ≡ is_eq (key_cmp e.0 k) = ap is_eq (key_back k e.0) ∙ eq_back (key_cmp e.0 k) in
    ap (λ (t : Bool). cond t (Some e.1) (lookup (is_at (key_cmp k)) es)) same
    ∙ ap (λ (r : Option Item). cond (is_eq (key_cmp e.0 k)) (Some e.1) r) (looked_up es k)

-- whether a key is there
pub found : (es : List (Key × Item)) (k : Key) → is_some (lookup (is_at (key_cmp k)) es) ≡ is_some (item_at es k)
found es k = ap is_some (looked_up es k)

-- inserting into a map by the order of keys is putting an item under its key
pub inserted : (es : List (Key × Item)) (k : Key) (i : Item) → insert_entry key_cmp es k i ≡ with_item es k i
inserted [] k i = refl
inserted (e ∷ es) k i = by_order (key_cmp e.0 k) refl (key_back k e.0) (inserted es k i)
  where
    by_order : (o : Ordering) → key_cmp e.0 k ≡ o → key_cmp k e.0 ≡ ordering_reverse (key_cmp e.0 k)
        → insert_entry key_cmp es k i ≡ with_item es k i
        → insert_entry key_cmp (e ∷ es) k i ≡ with_item (e ∷ es) k i
    by_order Less p q h =
        let r : key_cmp k e.0 ≡ Greater = q ∙ ap ordering_reverse p in
        simp (p, r) (ap (λ (zs : List (Key × Item)). e ∷ zs) h)
    by_order Equal p q h =
        let r : key_cmp k e.0 ≡ Equal = q ∙ ap ordering_reverse p in
        simp (p, r) (ap (λ (x : Key). (x, i) ∷ es) (key_same e.0 k p))
    by_order Greater p q h = let r : key_cmp k e.0 ≡ Less = q ∙ ap ordering_reverse p in simp (p, r) refl

rise_from : (k : Key) (es : List (Key × Item)) → AllByRecursion (λ y. key_cmp k y ≡ Less) (keys_of es)
    → IsStrictlySortedBy key_cmp (keys_of es)
    → KeysRiseFrom k es
unfolding IsStrictlySortedBy
rise_from k [] h s = tt
rise_from k (e ∷ es) h s = (ap is_lt h.0, rise_from e.0 es s.0 s.1)

-- keys that are sorted rise
pub keys_rise : (es : List (Key × Item)) → IsStrictlySortedBy key_cmp (keys_of es) → KeysRise es
unfolding IsStrictlySortedBy
keys_rise [] s = tt
keys_rise (e ∷ es) s = rise_from e.0 es s.0 s.1
