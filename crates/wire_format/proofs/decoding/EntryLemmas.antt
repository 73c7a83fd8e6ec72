-- The last entry of each key, put one after another.
use Rattle.std.proofs.Common.{◌≡◌, ◌≤◌, ℕ, cond, List, [], ◌∷◌, ◌++◌, length, drop, refl, ap, sym, subst, ◌∙◌, append_assoc, append-nil}
use Rattle.std.proofs.lemmas.List.{drop_all}
use Rattle.std.specs.declared.cmp.Ordering.{Ordering}
use Rattle.std.specs.declared.cmp.Ordering.TheVariants.{Less, Equal, Greater}
use Rattle.std.specs.BTreeMap.{insert_entry}
use Rattle.std.specs.Ordering.{ordering_reverse, match_ordering, is_lt, is_eq}
use Rattle.schema.specs.Pairs.{key_cmp, with_item, KeysRise}
use Rattle.schema.specs.declared.key.Key.{Key}
use Rattle.schema.specs.declared.value.Item.{Item}
use Rattle.schema.specs.KeyOrder.{key_back, key_trans, key_congr, key_same}
use Rattle.wire_format.specs.FieldValues.{if_new, last_entries}
use Rattle.wire_format.proofs.validity.DecodedItemLemmas.{entries_rise}

-- an entry put in its place
abbrev pub put_pair : Key × Item → List (Key × Item) → List (Key × Item)
put_pair e xs = with_item xs e.0 e.1

-- entries put, one after another
abbrev pub puts : List (Key × Item) → List (Key × Item) → List (Key × Item)
puts xs [] = xs
puts xs (e ∷ es) = puts (put_pair e xs) es

alone : (d e : Key × Item) (c : Ordering) → key_cmp e.0 d.0 ≡ c → key_cmp d.0 e.0 ≡ ordering_reverse c → if_new d (e ∷ []) ≡ put_pair e (d ∷ [])
alone d e Less r s = simp (r, s) refl
alone d e Equal r s = simp (r, s) refl
alone d e Greater r s = simp (r, s) refl

module _ (d e x : Key × Item) (xs : List (Key × Item)) (ih : if_new d (put_pair e xs) ≡ put_pair e (if_new d xs)) where
  abbrev Swaps : Type 0
  Swaps = if_new d (put_pair e (x ∷ xs)) ≡ put_pair e (if_new d (x ∷ xs))

  both_differ : (c : Ordering) → key_cmp x.0 d.0 ≡ Greater → key_cmp x.0 e.0 ≡ Greater → key_cmp e.0 d.0 ≡ c → key_cmp d.0 e.0 ≡ ordering_reverse c → Swaps
  both_differ Less p q r s = simp (p, q, r, s) refl
  both_differ Equal p q r s = simp (p, q, r, s) refl
  both_differ Greater p q r s = simp (p, q, r, s) refl

  swap : (a b c : Ordering) → key_cmp x.0 d.0 ≡ a → key_cmp x.0 e.0 ≡ b → key_cmp e.0 d.0 ≡ c → key_cmp d.0 e.0 ≡ ordering_reverse c
      → (b ≡ Equal → a ≡ c) → (a ≡ Equal → b ≡ ordering_reverse c) → (a ≡ Less → b ≡ Greater → c ≡ Less) → (a ≡ Greater → b ≡ Less → c ≡ Greater) → Swaps
  swap Less Less c p q r s h1 h2 h3 h4 = simp (p, q) (ap (λ (ys : List (Key × Item)). x ∷ ys) ih)
  swap Less Equal c p q r s h1 h2 h3 h4 = let t : key_cmp e.0 d.0 ≡ Less = r ∙ sym (h1 refl) in simp (p, q, t) refl
  swap Less Greater c p q r s h1 h2 h3 h4 = let t : key_cmp e.0 d.0 ≡ Less = r ∙ h3 refl refl in simp (p, q, t) refl
  swap Equal Less c p q r s h1 h2 h3 h4 = simp (p, q) refl
  swap Equal Equal c p q r s h1 h2 h3 h4 = let t : key_cmp e.0 d.0 ≡ Equal = r ∙ sym (h1 refl) in simp (p, q, t) refl
  swap Equal Greater Less p q r s h1 h2 h3 h4 = simp (p, q, r) refl
  swap Equal Greater Equal p q r s h1 h2 h3 h4 = let t : Greater ≡ Equal = h2 refl in absurd cc
  swap Equal Greater Greater p q r s h1 h2 h3 h4 = let t : Greater ≡ Less = h2 refl in absurd cc
  swap Greater Less c p q r s h1 h2 h3 h4 = let t : key_cmp d.0 e.0 ≡ Less = s ∙ ap ordering_reverse (h4 refl refl) in simp (p, q, t) refl
  swap Greater Equal c p q r s h1 h2 h3 h4 =
      let t : key_cmp e.0 d.0 ≡ Greater = r ∙ sym (h1 refl) in
      let u : key_cmp d.0 e.0 ≡ Less = key_back d.0 e.0 ∙ ap ordering_reverse t in simp (p, q, t, u) refl
  swap Greater Greater c p q r s h1 h2 h3 h4 = both_differ c p q r s

swapped : (d e : Key × Item) (xs : List (Key × Item)) → if_new d (put_pair e xs) ≡ put_pair e (if_new d xs)
swapped d e [] = alone d e (key_cmp e.0 d.0) refl (key_back d.0 e.0)
swapped d e (x ∷ xs) =
    swap d e x xs (swapped d e xs) (key_cmp x.0 d.0) (key_cmp x.0 e.0) (key_cmp e.0 d.0) refl refl refl (key_back d.0 e.0)
    (λ b. key_congr x.0 e.0 d.0 b)
    (λ a. key_congr x.0 d.0 e.0 a ∙ key_back d.0 e.0)
    (λ a b. key_trans e.0 x.0 d.0 (key_back e.0 x.0 ∙ ap ordering_reverse b) a)
    (λ a b. key_back e.0 d.0 ∙ ap ordering_reverse (key_trans d.0 x.0 e.0 (key_back d.0 x.0 ∙ ap ordering_reverse a) b))

-- one entry more takes the place of its key
entries_more : (es : List (Key × Item)) (e : Key × Item) → last_entries (es ++ e ∷ []) ≡ put_pair e (last_entries es)
entries_more [] e = refl
entries_more (d ∷ es) e = ap (if_new d) (entries_more es e) ∙ swapped d e (last_entries es)

puts_after : (xs ys : List (Key × Item)) → puts (last_entries xs) ys ≡ last_entries (xs ++ ys)
puts_after xs [] = ap last_entries (sym (append-nil xs))
puts_after xs (y ∷ ys) = ap (λ (es : List (Key × Item)). puts es ys) (sym (entries_more xs y)) ∙ puts_after (xs ++ y ∷ []) ys ∙ ap last_entries (append_assoc xs (y ∷ []) ys)

-- all entries, put one after another, are the last of each key
pub puts_all : (es : List (Key × Item)) → puts [] es ≡ last_entries es
puts_all es = puts_after [] es

-- an entry that is inserted stands where it is put
inserted_step : (e : Key × Item) (es xs ys : List (Key × Item)) (k : Key) (i : Item) (c : Ordering) → key_cmp e.0 k ≡ c → key_cmp k e.0 ≡ ordering_reverse c → (c ≡ Equal → e.0 ≡ k) → xs ≡ ys
    → match_ordering (key_cmp k e.0) ((k, i) ∷ e ∷ es) ((e.0, i) ∷ es) (e ∷ xs) ≡ cond (is_lt (key_cmp e.0 k)) (e ∷ ys) (cond (is_eq (key_cmp e.0 k)) ((k, i) ∷ es) ((k, i) ∷ e ∷ es))
inserted_step e es xs ys k i Less p q s h = simp (p, q) (ap (λ zs. e ∷ zs) h)
inserted_step e es xs ys k i Equal p q s h = simp (p, q) (ap (λ (x : Key). (x, i) ∷ es) (s refl))
inserted_step e es xs ys k i Greater p q s h = simp (p, q) refl

-- inserting into a map by the order of keys is putting an item under its key
pub inserted : (es : List (Key × Item)) (k : Key) (i : Item) → insert_entry key_cmp es k i ≡ with_item es k i
inserted [] k i = refl
inserted (e ∷ es) k i = inserted_step e es (insert_entry key_cmp es k i) (with_item es k i) k i (key_cmp e.0 k) refl (key_back k e.0) (key_same e.0 k) (inserted es k i)

-- where all entries were put, their keys rise
pub puts_rise : {A : Type 0} (f : List A → List (Key × Item)) (es : List (Key × Item)) (i : ℕ) (xs : List A) → length xs ≤ i → f [] ≡ [] → puts es (f (drop i xs)) ≡ last_entries (f xs) → KeysRise es
puts_rise f es i xs le none told =
    let is : es ≡ last_entries (f xs) = sym (ap (puts es) (ap f (drop_all i xs le) ∙ none)) ∙ told in
    subst KeysRise (sym is) (entries_rise (f xs))
