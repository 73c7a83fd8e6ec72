-- Maps that have the same item at every key are the same.
use Rattle.std.proofs.Common.{◌≡◌, Bool, true, false, List, [], ◌∷◌, Option, Some, None, refl, ap, ap₂, sym, subst, ◌∙◌}
use Rattle.std.specs.declared.cmp.Ordering.{Ordering}
use Rattle.std.specs.declared.cmp.Ordering.TheVariants.{Less, Equal, Greater}
use Rattle.std.specs.Ordering.{is_lt, is_eq, ordering_reverse}
use Rattle.schema.specs.declared.key.Key.{Key}
use Rattle.schema.specs.declared.value.Item.{Item}
use Rattle.schema.specs.Pairs.{key_cmp, item_at, KeysRise, KeysRiseFrom}
use Rattle.schema.proofs.ItemLemmas.{eq_is}
use Rattle.schema.proofs.Theorems.{lt_is, rises_on}
use Rattle.schema.specs.KeyOrder.{key_back, key_trans, key_same}

own_back : (x : Ordering) → x ≡ ordering_reverse x → x ≡ Equal
own_back Less h = absurd cc
own_back Equal h = refl
own_back Greater h = absurd cc

-- a key stands where it stands
key_refl : (x : Key) → key_cmp x x ≡ Equal
key_refl x = own_back (key_cmp x x) (key_back x x)

lt_trans : (x y z : Key) → is_lt (key_cmp x y) ≡ true → is_lt (key_cmp y z) ≡ true → is_lt (key_cmp x z) ≡ true
lt_trans x y z p q = ap is_lt (key_trans x y z (lt_is _ p) (lt_is _ q))

-- keys that rise from a key rise from those below it
rise_lower : (es : List (Key × Item)) (low q : Key) → is_lt (key_cmp q low) ≡ true → KeysRiseFrom low es
    → KeysRiseFrom q es
rise_lower [] low q l h = tt
rise_lower (e ∷ es) low q l h = (lt_trans q low e.0 l h.0, h.1)

not_eq : (x y : Key) → is_lt (key_cmp y x) ≡ true → is_eq (key_cmp x y) ≡ false
not_eq x y l = ap is_eq (key_back x y ∙ ap ordering_reverse (lt_is _ l))

-- among keys that rise from one that one has no item
item_none : (es : List (Key × Item)) (q : Key) → KeysRiseFrom q es → item_at es q ≡ None
item_none [] q h = refl
item_none (e ∷ es) q h = rw (not_eq e.0 q h.0) (item_none es q (rise_lower es e.0 q h.0 h.1))

head_at : (e : Key × Item) (es : List (Key × Item)) → item_at (e ∷ es) e.0 ≡ Some e.1
head_at e es = rw (key_refl e.0) refl

-- a key below the first of keys that rise has no item
below_none : (d : Key × Item) (ds : List (Key × Item)) (q : Key) → is_lt (key_cmp q d.0) ≡ true → KeysRiseFrom d.0 ds
    → item_at (d ∷ ds) q ≡ None
below_none d ds q l h = item_none (d ∷ ds) q (l, h)

not_some : (o : Option Item) (i : Item) → o ≡ None → o ≡ Some i → ⊥
not_some o i p q = cc

same_pair : (e d : Key × Item) → e.0 ≡ d.0 → Some e.1 ≡ Some d.1 → e ≡ d
same_pair e d p q = let r : e.1 ≡ d.1 = cc in ap₂ (λ (x : Key) (y : Item). (x, y)) p r

tail_at : (e : Key × Item) (es : List (Key × Item)) (q : Key) → is_eq (key_cmp e.0 q) ≡ false
    → item_at (e ∷ es) q ≡ item_at es q
tail_at e es q ne = rw ne refl

rest_at : (e d : Key × Item) (es ds : List (Key × Item)) → e.0 ≡ d.0 → KeysRiseFrom e.0 es → KeysRiseFrom d.0 ds
    → ((k : Key) → item_at (e ∷ es) k ≡ item_at (d ∷ ds) k)
    → (q : Key) (b : Bool) → is_eq (key_cmp e.0 q) ≡ b → item_at es q ≡ item_at ds q
rest_at e d es ds same p r h q true t =
    let k : e.0 ≡ q = key_same e.0 q (eq_is _ t) in
    item_none es q (subst (λ (x : Key). KeysRiseFrom x es) k p)
    ∙ sym (item_none ds q (subst (λ (x : Key). KeysRiseFrom x ds) (sym same ∙ k) r))
rest_at e d es ds same p r h q false t =
    sym (tail_at e es q t) ∙ h q ∙ tail_at d ds q (ap (λ (x : Key). is_eq (key_cmp x q)) (sym same) ∙ t)

first_same : (e d : Key × Item) (es ds : List (Key × Item)) → KeysRiseFrom e.0 es → KeysRiseFrom d.0 ds
    → ((k : Key) → item_at (e ∷ es) k ≡ item_at (d ∷ ds) k)
    → (c : Ordering) → key_cmp e.0 d.0 ≡ c → e.0 ≡ d.0
first_same e d es ds p r h Less t = absurd
    (not_some (item_at (e ∷ es) e.0) e.1 (h e.0 ∙ below_none d ds e.0 (ap is_lt t) r) (head_at e es))
first_same e d es ds p r h Equal t = key_same e.0 d.0 t
first_same e d es ds p r h Greater t =
    absurd
    (not_some (item_at (d ∷ ds) d.0) d.1
    (sym (h d.0) ∙ below_none e es d.0 (ap is_lt (key_back d.0 e.0 ∙ ap ordering_reverse t)) p) (head_at d ds))

-- two lists of entries whose keys rise and which have the same item at each key are the same
pub same_items : (xs ys : List (Key × Item)) → KeysRise xs → KeysRise ys → ((k : Key) → item_at xs k ≡ item_at ys k)
    → xs ≡ ys
same_items [] [] p r h = refl
same_items [] (d ∷ ds) p r h = absurd (not_some (item_at (d ∷ ds) d.0) d.1 (sym (h d.0)) (head_at d ds))
same_items (e ∷ es) [] p r h = absurd (not_some (item_at (e ∷ es) e.0) e.1 (h e.0) (head_at e es))
same_items (e ∷ es) (d ∷ ds) p r h =
    let same : e.0 ≡ d.0 = first_same e d es ds p r h (key_cmp e.0 d.0) refl in
    let first : e ≡ d = same_pair e d same (sym (head_at e es) ∙ h e.0 ∙ ap (item_at (d ∷ ds)) same ∙ head_at d ds) in
    ap₂ (λ (x : Key × Item) (xs : List (Key × Item)). x ∷ xs) first
    (same_items es ds (rises_on e.0 es p) (rises_on d.0 ds r)
    (λ q. rest_at e d es ds same p r h q (is_eq (key_cmp e.0 q)) refl))
