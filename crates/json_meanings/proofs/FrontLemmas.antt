-- Fronts of lists of tokens: the first tokens of a tree stay the same whatever follows it.
use Rattle.std.proofs.Common.{◌≡◌, ◌∙◌, ◌≤◌, ◌+◌, sym, ap, subst, refl, arith, append_assoc, ℕ, zero, suc, List, [], ◌∷◌, ◌++◌, length, take}
use Rattle.json_events.specs.JsonTree.{Json, Items, Pairs, Mark, literal, number, string, array, object, no_items, item, no_pairs, pair, opens, key}
use Rattle.json_events.specs.declared.state.Bracket.TheVariants.{Array, Object}
use Rattle.json_meanings.specs.FaultPlaces.{items_size, pairs_size, size}
use Rattle.json_meanings.proofs.TokenLemmas.{item_tokens, pair_tokens, with_tokens}

-- two lists begin with the same marks, so many
abbrev pub ShareFront : ℕ → List Mark → List Mark → Type 0
ShareFront zero us vs = Unit {0}
ShareFront (suc n) [] vs = ⊥
ShareFront (suc n) (u ∷ us) [] = ⊥
ShareFront (suc n) (u ∷ us) (v ∷ vs) = (u ≡ v) × ShareFront n us vs

mutual
  -- what follows a tree follows its tokens
  pub tokens_then : (j : Json) (ms : List Mark) → with_tokens j ms ≡ with_tokens j [] ++ ms
  tokens_then (literal n) ms = refl
  tokens_then (number s) ms = refl
  tokens_then (string s) ms = refl
  tokens_then (array js) ms = ap (λ l. opens Array ∷ l) (items_then js ms)
  tokens_then (object ps) ms = ap (λ l. opens Object ∷ l) (pairs_then ps ms)

  items_then : (js : Items) (ms : List Mark) → item_tokens js ms ≡ item_tokens js [] ++ ms
  items_then no_items ms = refl
  items_then (item j js) ms =
      ap (with_tokens j) (items_then js ms)
      ∙ (tokens_then j (item_tokens js [] ++ ms)
      ∙ (sym (append_assoc (with_tokens j []) (item_tokens js []) ms)
      ∙ ap (λ l. l ++ ms) (sym (tokens_then j (item_tokens js [])))))

  pairs_then : (ps : Pairs) (ms : List Mark) → pair_tokens ps ms ≡ pair_tokens ps [] ++ ms
  pairs_then no_pairs ms = refl
  pairs_then (pair k j ps) ms =
      ap (λ l. key k ∷ l)
      (ap (with_tokens j) (pairs_then ps ms)
      ∙ (tokens_then j (pair_tokens ps [] ++ ms)
      ∙ (sym (append_assoc (with_tokens j []) (pair_tokens ps []) ms)
      ∙ ap (λ l. l ++ ms) (sym (tokens_then j (pair_tokens ps []))))))

mutual
  -- a tree has as many tokens as are counted
  tokens_size : (j : Json) (ms : List Mark) → length (with_tokens j ms) ≡ size j + length ms
  tokens_size (literal n) ms = omega arith
  tokens_size (number s) ms = omega arith
  tokens_size (string s) ms = omega arith
  tokens_size (array js) ms = omega (arith, items_count js ms)
  tokens_size (object ps) ms = omega (arith, pairs_count ps ms)

  items_count : (js : Items) (ms : List Mark) → length (item_tokens js ms) ≡ items_size js + length ms
  items_count no_items ms = omega arith
  items_count (item j js) ms = omega (arith, tokens_size j (item_tokens js ms), items_count js ms)

  pairs_count : (ps : Pairs) (ms : List Mark) → length (pair_tokens ps ms) ≡ pairs_size ps + length ms
  pairs_count no_pairs ms = omega arith
  pairs_count (pair k j ps) ms = omega (arith, tokens_size j (pair_tokens ps ms), pairs_count ps ms)

-- a tree has so many tokens
pub size_of_tokens : (j : Json) → length (with_tokens j []) ≡ size j
size_of_tokens j = omega (arith, tokens_size j [])

share_within : (n : ℕ) (us ls ms : List Mark) → n ≤ length us → ShareFront n (us ++ ls) (us ++ ms)
share_within zero us ls ms h = tt
share_within (suc n) [] ls ms h = absurd (omega (arith, h))
share_within (suc n) (u ∷ us) ls ms h = (refl, share_within n us ls ms (omega (arith, h)))

share_past : (k n : ℕ) (us ls ms : List Mark) → k ≡ length us + n → ShareFront n ls ms
    → ShareFront k (us ++ ls) (us ++ ms)
share_past k n [] ls ms is h = let same : n ≡ k = omega (arith, is) in subst (λ m. ShareFront m ls ms) same h
share_past zero n (u ∷ us) ls ms is h = absurd (omega (arith, is))
share_past (suc k) n (u ∷ us) ls ms is h = (refl, share_past k n us ls ms (omega (arith, is)) h)

-- within a tree's own tokens nothing depends on what follows
pub share_tree : (n : ℕ) (j : Json) (ls ms : List Mark) → n ≤ size j
    → ShareFront n (with_tokens j ls) (with_tokens j ms)
share_tree n j ls ms h =
    subst (λ l. ShareFront n l (with_tokens j ms)) (sym (tokens_then j ls))
    (subst (λ l. ShareFront n (with_tokens j [] ++ ls) l) (sym (tokens_then j ms))
    (share_within n (with_tokens j []) ls ms (omega (arith, h, size_of_tokens j))))

-- past a tree what follows is to begin alike
pub share_behind : (n m : ℕ) (j : Json) (ls ms : List Mark) → n ≡ size j + m → ShareFront m ls ms
    → ShareFront n (with_tokens j ls) (with_tokens j ms)
share_behind n m j ls ms is h =
    subst (λ l. ShareFront n l (with_tokens j ms)) (sym (tokens_then j ls))
    (subst (λ l. ShareFront n (with_tokens j [] ++ ls) l) (sym (tokens_then j ms))
    (share_past n m (with_tokens j []) ls ms (omega (arith, is, size_of_tokens j)) h))

-- a list that begins as another does begins with the first marks of it
pub front_taken : (n : ℕ) (us vs : List Mark) → ShareFront n us vs → (more : List Mark) × (us ≡ take n vs ++ more)
front_taken zero us vs h = (us, refl)
front_taken (suc n) (u ∷ us) (v ∷ vs) h =
    let rest = front_taken n us vs h.1 in (rest.0, ap (λ l. u ∷ l) rest.1 ∙ ap (λ w. w ∷ (take n vs ++ rest.0)) h.0)
front_taken (suc n) [] vs h = absurd h
front_taken (suc n) (u ∷ us) [] h = absurd h

-- the first marks, past those of a list
pub take_past : (k n : ℕ) (us vs : List Mark) → k ≡ length us + n → take k (us ++ vs) ≡ us ++ take n vs
take_past k n [] vs is = let same : k ≡ n = omega (arith, is) in ap (λ m. take m vs) same
take_past zero n (u ∷ us) vs is = absurd (omega (arith, is))
take_past (suc k) n (u ∷ us) vs is = ap (λ l. u ∷ l) (take_past k n us vs (omega (arith, is)))

-- the first marks, past those of a tree
pub take_behind : (k n : ℕ) (j : Json) (ms : List Mark) → k ≡ size j + n
    → take k (with_tokens j ms) ≡ with_tokens j (take n ms)
take_behind k n j ms is =
    ap (take k) (tokens_then j ms)
    ∙ (take_past k n (with_tokens j []) ms (omega (arith, is, size_of_tokens j)) ∙ sym (tokens_then j (take n ms)))
