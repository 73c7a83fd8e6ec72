-- What the entries of a map have after one was put.
use Rattle.std.proofs.Common.{◌≡◌, Bool, true, false, List, [], ◌∷◌, cond, Option, Some, refl, ap, sym, subst, ◌∙◌}
use Rattle.std.specs.declared.cmp.Ordering.{Ordering}
use Rattle.std.specs.declared.cmp.Ordering.TheVariants.{Less, Equal, Greater}
use Rattle.std.specs.Ordering.{is_lt, is_eq, ordering_reverse}
use Rattle.schema.specs.declared.key.Key.{Key}
use Rattle.schema.specs.declared.value.Item.{Item}
use Rattle.schema.specs.Pairs.{key_cmp, item_at, with_item, KeysRise, KeysRiseFrom}
use Rattle.schema.specs.KeyOrder.{key_back, key_congr}

-- what is equal is so
pub eq_is : (x : Ordering) → is_eq x ≡ true → x ≡ Equal
eq_is Less h = absurd (cc)
eq_is Equal h = refl
eq_is Greater h = absurd (cc)

apart : (b c : Bool) (x y z : Option Item) → (b ≡ true → c ≡ true → ⊥) → cond b x (cond c y z) ≡ cond c y (cond b x z)
apart true true x y z h = absurd (h refl refl)
apart true false x y z h = refl
apart false true x y z h = refl
apart false false x y z h = refl

twice : (t u : Bool) (x y z : Option Item) → u ≡ t → cond t x z ≡ cond t x (cond u y z)
twice true u x y z h = refl
twice false true x y z h = absurd (cc)
twice false false x y z h = refl

-- no key is equal to two of which one is below the other
not_both : (x y q : Key) → key_cmp x y ≡ Less → is_eq (key_cmp x q) ≡ true → is_eq (key_cmp y q) ≡ true → ⊥
not_both x y q l a b =
    let e : key_cmp x y ≡ key_cmp q y = key_congr x q y (eq_is _ a) in
    let f : key_cmp q y ≡ Equal = key_back q y ∙ ap ordering_reverse (eq_is _ b) in
    let g : Less ≡ Equal = sym l ∙ e ∙ f in
    absurd (cc)

item_step : (e : Key × Item) (es after : List (Key × Item)) (k q : Key) (i : Item) (c : Ordering) → key_cmp e.0 k ≡ c
    → item_at after q ≡ cond (is_eq (key_cmp k q)) (Some i) (item_at es q)
    → item_at (cond (is_lt c) (e ∷ after) (cond (is_eq c) ((k, i) ∷ es) ((k, i) ∷ e ∷ es))) q ≡ cond (is_eq (key_cmp k q)) (Some i) (item_at (e ∷ es) q)
item_step e es after k q i Less p h =
    ap (λ x. cond (is_eq (key_cmp e.0 q)) (Some e.1) x) h
    ∙ apart (is_eq (key_cmp e.0 q)) (is_eq (key_cmp k q)) (Some e.1) (Some i) (item_at es q) (not_both e.0 k q p)
item_step e es after k q i Equal p h = twice (is_eq (key_cmp k q)) (is_eq (key_cmp e.0 q)) (Some i) (Some e.1) (item_at es q) (ap is_eq (key_congr e.0 k q p))
item_step e es after k q i Greater p h = refl

-- the key has the new item, and each other key what it had
pub item_at-with_item : (es : List (Key × Item)) (k : Key) (i : Item) (q : Key) → item_at (with_item es k i) q ≡ cond (is_eq (key_cmp k q)) (Some i) (item_at es q)
item_at-with_item [] k i q = refl
item_at-with_item (e ∷ es) k i q = item_step e es (with_item es k i) k q i (key_cmp e.0 k) refl (item_at-with_item es k i q)

lower : (x y : Key) (es : List (Key × Item)) → key_cmp x y ≡ Equal → KeysRiseFrom x es → KeysRiseFrom y es
lower x y [] h r = tt
lower x y (e ∷ es) h r = (subst (λ (o : Ordering). is_lt o ≡ true) (key_congr x y e.0 h) r.0, r.1)

rise_step : (e : Key × Item) (es after : List (Key × Item)) (low k : Key) (i : Item) (c : Ordering) → key_cmp e.0 k ≡ c → is_lt (key_cmp low k) ≡ true → KeysRiseFrom low (e ∷ es)
    → (c ≡ Less → KeysRiseFrom e.0 after) → KeysRiseFrom low (cond (is_lt c) (e ∷ after) (cond (is_eq c) ((k, i) ∷ es) ((k, i) ∷ e ∷ es)))
rise_step e es after low k i Less p l r h = (r.0, h refl)
rise_step e es after low k i Equal p l r h = (l, lower e.0 k es p r.1)
rise_step e es after low k i Greater p l r h = (l, (ap is_lt (key_back k e.0 ∙ ap ordering_reverse p), r.1))

lt_of : (x c : Ordering) → x ≡ c → c ≡ Less → is_lt x ≡ true
lt_of x c h e = ap is_lt (h ∙ e)

-- keys that rise from a key still do with an item under a later one
pub KeysRiseFrom-with_item : (es : List (Key × Item)) (low k : Key) (i : Item) → is_lt (key_cmp low k) ≡ true → KeysRiseFrom low es → KeysRiseFrom low (with_item es k i)
KeysRiseFrom-with_item [] low k i l r = (l, tt)
KeysRiseFrom-with_item (e ∷ es) low k i l r =
    rise_step e es (with_item es k i) low k i (key_cmp e.0 k) refl l r (λ m. KeysRiseFrom-with_item es e.0 k i (ap is_lt m) r.1)

first_step : (e : Key × Item) (es after : List (Key × Item)) (k : Key) (i : Item) (c : Ordering) → key_cmp e.0 k ≡ c → KeysRiseFrom e.0 es
    → (c ≡ Less → KeysRiseFrom e.0 after) → KeysRise (cond (is_lt c) (e ∷ after) (cond (is_eq c) ((k, i) ∷ es) ((k, i) ∷ e ∷ es)))
first_step e es after k i Less p r h = h refl
first_step e es after k i Equal p r h = lower e.0 k es p r
first_step e es after k i Greater p r h = (ap is_lt (key_back k e.0 ∙ ap ordering_reverse p), r)

-- keys that rise still do
pub KeysRise-with_item : (es : List (Key × Item)) (k : Key) (i : Item) → KeysRise es → KeysRise (with_item es k i)
KeysRise-with_item [] k i r = tt
KeysRise-with_item (e ∷ es) k i r = first_step e es (with_item es k i) k i (key_cmp e.0 k) refl r (λ m. KeysRiseFrom-with_item es e.0 k i (ap is_lt m) r)
