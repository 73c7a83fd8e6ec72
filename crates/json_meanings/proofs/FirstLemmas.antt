-- The tokens before a tree's first fault begin an accepted value: what has begun is closed there, and a key that has no
-- value yet is given one.
use Rattle.std.proofs.Common.{◌≡◌, ◌∙◌, ◌≤◌, ◌<◌, ◌+◌, ◌-◌, ◌⊎◌, inl, inr, sym, ap, subst, refl, arith, ℕ, zero, suc, List, [], ◌∷◌, take, Result, Ok, Err}
use Rattle.std.proofs.lemmas.Bool.{cases_lt}
use Rattle.json_events.specs.JsonTree.{Json, Items, Pairs, Mark, literal, number, string, array, object, no_items, item, no_pairs, pair, closes, digits, text, name}
use Rattle.json_events.specs.declared.state.Bracket.TheVariants.{Array, Object}
use Rattle.json_meanings.specs.FaultPlaces.{Fault, at_once, behind, items_size, onward, pairs_size, size}
use Rattle.json_meanings.specs.JsonDenotes.{array_with, items, members, object_value, object_with, value}
use Rattle.json_meanings.specs.JsonScalars.{Schema}
use Rattle.json_meanings.specs.ReadingSpots.{Filled, OpenArray, OpenObject, Spot, element, many}
use Rattle.json_meanings.specs.SpotTables.{fills, names_spot, opens_array, opens_object}
use Rattle.json_meanings.specs.declared.fault.FieldKind.{FieldKind}
use Rattle.json_meanings.proofs.FaultLemmas.{value_within}
use Rattle.json_meanings.proofs.FrontLemmas.{ShareFront, share_behind, share_tree, take_behind}
use Rattle.json_meanings.proofs.ReadyLemmas.{IsReady}
use Rattle.json_meanings.proofs.TokenLemmas.{item_tokens, pair_tokens, with_tokens}
use Rattle.json_meanings.proofs.WordLemmas.{AreSpellable, IsSpellableTree, spellable_parts, spellable_then}

-- there is no fault at the first tokens, so many
abbrev pub IsClean : {A : Type 0} → ℕ → Result A Fault → Type 0
IsClean n (Ok a) = Unit {0}
IsClean n (Err f) = n ≤ f.0

-- nor behind some tokens, so many fewer
clean_behind : {A : Type 0} (m n k : ℕ) (r : Result A Fault) → k ≡ m + n → IsClean k (behind m r) → IsClean n r
clean_behind m n k (Ok a) is h = tt
clean_behind m n k (Err f) is h = omega (arith, is, h)

one_more : (n : ℕ) → suc n ≡ 1 + n
one_more n = omega arith

-- what is spelled of a tree and behind it
words_behind : (k m : ℕ) (j : Json) (ms us : List Mark) → k ≡ size j + m → AreSpellable (take k (with_tokens j ms))
    → (AreSpellable (take m ms) → AreSpellable us) → AreSpellable (with_tokens j us)
words_behind k m j ms us is w then =
    let parts = spellable_parts j (take m ms) (subst AreSpellable (take_behind k m j ms is) w) in
    spellable_then j us parts.0 (then parts.1)

module _ (c : Schema) where
  -- a tree that is accepted at a spot, and whose tokens begin as those of another do; it has a text, if they do
  abbrev pub HasFront : Spot → ℕ → Json → Type 0
  HasFront spot n j =
      (k : Json) × (x : Filled) × (value c spot k ≡ Ok x)
      × ((ls ms : List Mark) → ShareFront n (with_tokens k ls) (with_tokens j ms))
      × ((ms : List Mark) → AreSpellable (take n (with_tokens j ms)) → IsSpellableTree k)

  abbrev HasItems : OpenArray → ℕ → Items → Type 0
  HasItems a n js =
      (ks : Items) × (x : Filled) × (items c a ks ≡ Ok x)
      × ((ls ms : List Mark) → ShareFront n (item_tokens ks ls) (item_tokens js ms))
      × ((ms : List Mark) → AreSpellable (take n (item_tokens js ms)) → AreSpellable (item_tokens ks []))

  abbrev HasMembers : OpenObject → ℕ → Pairs → Type 0
  HasMembers o n ps =
      (qs : Pairs) × (x : Filled) × (members c o qs ≡ Ok x)
      × ((ls ms : List Mark) → ShareFront n (pair_tokens qs ls) (pair_tokens ps ms))
      × ((ms : List Mark) → AreSpellable (take n (pair_tokens ps ms)) → AreSpellable (pair_tokens qs []))

  -- a token without brackets
  leaf_front : (spot : Spot) (j : Json) (n : ℕ) (r : Result Filled FieldKind) → value c spot j ≡ at_once r → n < size j
      → IsClean (suc n) (value c spot j)
      → ((ms : List Mark) → AreSpellable (take (suc n) (with_tokens j ms)) → IsSpellableTree j)
      → HasFront spot (suc n) j
  leaf_front spot j n (Ok x) is low clean words = (j, x, is, (λ ls ms. share_tree (suc n) j ls ms low), words)
  leaf_front spot j n (Err k) is low clean words =
      let h : suc n ≤ 0 = subst (IsClean (suc n)) is clean in absurd (omega (arith, h))

  array_is : (spot : Spot) (js : Items) (a : OpenArray) → opens_array spot ≡ Ok a
      → value c spot (array js) ≡ behind 1 (items c a js)
  array_is spot js a e = ap (λ r. onward (at_once r) (λ b. behind 1 (items c b js))) e

  object_is : (spot : Spot) (ps : Pairs) (o : OpenObject) → opens_object c spot ≡ Ok o
      → value c spot (object ps) ≡ behind 1 (members c o ps)
  object_is spot ps o e = ap (λ r. onward (at_once r) (λ b. behind 1 (members c b ps))) e

  item_is : (a : OpenArray) (j : Json) (js : Items) (r : Result Filled Fault) → value c (element a) j ≡ r
      → items c a (item j js) ≡ onward r (λ x. behind (size j) (items c (array_with a x) js))
  item_is a j js r e = ap (λ q. onward q (λ x. behind (size j) (items c (array_with a x) js))) e

  pair_is : (o : OpenObject) (t : List ℕ) (j : Json) (ps : Pairs) (spot : Spot) (r : Result Filled Fault)
      → names_spot c o t ≡ Ok spot → value c spot j ≡ r
      → members c o (pair t j ps) ≡ behind 1 (onward r (λ x. behind (size j) (members c (object_with spot x) ps)))
  pair_is o t j ps spot r e is =
      ap (λ q. onward (at_once q)
      (λ s. behind 1 (onward (value c s j) (λ x. behind (size j) (members c (object_with s x) ps))))) e
      ∙ ap (λ q. behind 1 (onward q (λ x. behind (size j) (members c (object_with spot x) ps)))) is

module _ (c : Schema)
    (ready : (o : OpenObject) (t : List ℕ) (spot : Spot) → names_spot c o t ≡ Ok spot → IsReady c spot) where
  mutual
    -- the first tokens of a tree, where there is no fault at them
    pub value_front : (spot : Spot) (j : Json) (n : ℕ) → n < size j → IsClean (suc n) (value c spot j)
        → HasFront c spot (suc n) j
    value_front spot (literal m) n low clean = leaf_front c spot (literal m) n (fills c spot (name m)) refl low clean
        (λ ms h. (h.0, tt))
    value_front spot (number t) n low clean = leaf_front c spot (number t) n (fills c spot (digits t)) refl low clean
        (λ ms h. (h.0, tt))
    value_front spot (string t) n low clean = leaf_front c spot (string t) n (fills c spot (text t)) refl low clean
        (λ ms h. (h.0, tt))
    value_front spot (array js) n low clean =
        by_array (opens_array spot) refl (λ a h. items_front a js n (omega (arith, low)) h)
      where
        by_array : (r : Result OpenArray FieldKind) → opens_array spot ≡ r
            → ((a : OpenArray) → IsClean n (items c a js) → HasItems c a n js) → HasFront c spot (suc n) (array js)
        by_array (Err k) e ih =
            let h : suc n ≤ 0 =
            subst (IsClean (suc n)) (ap (λ r. onward (at_once r) (λ b. behind 1 (items c b js))) e) clean in
            absurd (omega (arith, h))
        by_array (Ok a) e ih =
            let h = ih a
            (clean_behind 1 n (suc n) (items c a js) (one_more n)
            (subst (IsClean (suc n)) (array_is c spot js a e) clean)) in (
              array h.0,
              h.1,
              array_is c spot h.0 a e ∙ ap (behind 1) h.2,
              (λ ls ms. (refl, h.3 ls ms)),
              λ ms w. (tt, h.4 ms w.1),
            )
    value_front spot (object ps) n low clean =
        by_object (opens_object c spot) refl (λ o h. members_front o ps n (omega (arith, low)) h)
      where
        by_object : (r : Result OpenObject FieldKind) → opens_object c spot ≡ r
            → ((o : OpenObject) → IsClean n (members c o ps) → HasMembers c o n ps)
            → HasFront c spot (suc n) (object ps)
        by_object (Err k) e ih =
            let h : suc n ≤ 0 =
            subst (IsClean (suc n)) (ap (λ r. onward (at_once r) (λ b. behind 1 (members c b ps))) e) clean in
            absurd (omega (arith, h))
        by_object (Ok o) e ih =
            let h = ih o
            (clean_behind 1 n (suc n) (members c o ps) (one_more n)
            (subst (IsClean (suc n)) (object_is c spot ps o e) clean)) in (
              object h.0,
              h.1,
              object_is c spot h.0 o e ∙ ap (behind 1) h.2,
              (λ ls ms. (refl, h.3 ls ms)),
              λ ms w. (tt, h.4 ms w.1),
            )

    items_front : (a : OpenArray) (js : Items) (n : ℕ) → n ≤ items_size js → IsClean n (items c a js)
        → HasItems c a n js
    items_front a js zero low clean = (no_items, many a.items, refl, (λ ls ms. tt), λ ms w. (tt, tt))
    items_front a no_items (suc zero) low clean = (no_items, many a.items, refl, (λ ls ms. (refl, tt)), λ ms w. (tt, tt))
    items_front a no_items (suc (suc n)) low clean = absurd (omega (arith, low))
    items_front a (item j js) (suc n) low clean =
        by_value (value c (element a) j) refl (λ less h. value_front (element a) j n less h)
        (λ b m few h. items_front b js m few h)
      where
        by_value : (r : Result Filled Fault) → value c (element a) j ≡ r
            → (n < size j → IsClean (suc n) (value c (element a) j) → HasFront c (element a) (suc n) j)
            → ((b : OpenArray) (m : ℕ) → m ≤ items_size js → IsClean m (items c b js) → HasItems c b m js)
            → HasItems c a (suc n) (item j js)
        by_value (Err f) e first others =
            let late : suc n ≤ f.0 = subst (IsClean (suc n)) (item_is c a j js (Err f) e) clean in
            let within : f.0 < size j = value_within c (element a) j f e in
            let h = first (omega (arith, late, within)) (subst (IsClean (suc n)) (sym e) late) in (
              item h.0 no_items,
              many (array_with a h.1).items,
              item_is c a h.0 no_items (Ok h.1) h.2,
              (λ ls ms. h.3 (closes Array ∷ ls) (item_tokens js ms)),
              λ ms w. spellable_then h.0 (closes Array ∷ []) (h.4 (item_tokens js ms) w) (tt, tt),
            )
        by_value (Ok x) e first others = by_place (cases_lt n (size j))
          where
            by_place : ((n < size j) ⊎ (size j ≤ n)) → HasItems c a (suc n) (item j js)
            by_place (inl less) =
                let h = first less (subst (IsClean (suc n)) (sym e) tt) in (
                  item h.0 no_items,
                  many (array_with a h.1).items,
                  item_is c a h.0 no_items (Ok h.1) h.2,
                  (λ ls ms. h.3 (closes Array ∷ ls) (item_tokens js ms)),
                  λ ms w. spellable_then h.0 (closes Array ∷ []) (h.4 (item_tokens js ms) w) (tt, tt),
                )
            by_place (inr past) =
                let m : ℕ = suc n - size j in
                let is : suc n ≡ size j + m = omega (arith, past) in
                let h = others (array_with a x) m (omega (arith, is, low))
                (clean_behind (size j) m (suc n) (items c (array_with a x) js) is
                (subst (IsClean (suc n)) (item_is c a j js (Ok x) e) clean)) in (
                  item j h.0,
                  h.1,
                  item_is c a j h.0 (Ok x) e
                      ∙ ap (behind (size j)) h.2,
                  (λ ls ms. share_behind (suc n) m j (item_tokens h.0 ls) (item_tokens js ms) is (h.3 ls ms)),
                  λ ms w. words_behind (suc n) m j (item_tokens js ms) (item_tokens h.0 []) is w (h.4 ms),
                )

    members_front : (o : OpenObject) (ps : Pairs) (n : ℕ) → n ≤ pairs_size ps → IsClean n (members c o ps)
        → HasMembers c o n ps
    members_front o ps zero low clean = (no_pairs, object_value o, refl, (λ ls ms. tt), λ ms w. (tt, tt))
    members_front o no_pairs (suc zero) low clean = (no_pairs, object_value o, refl, (λ ls ms. (refl, tt)), λ ms w. (tt, tt))
    members_front o no_pairs (suc (suc n)) low clean = absurd (omega (arith, low))
    members_front o (pair t j ps) (suc zero) low clean = by_key (names_spot c o t) refl
      where
        by_key : (r : Result Spot FieldKind) → names_spot c o t ≡ r → HasMembers c o 1 (pair t j ps)
        by_key (Err k) e =
            let h : 1 ≤ 0 =
            subst (IsClean 1)
            (ap (λ q. onward (at_once q)
            (λ s. behind 1 (onward (value c s j) (λ x. behind (size j) (members c (object_with s x) ps))))) e)
            clean in
            absurd (omega (arith, h))
        by_key (Ok spot) e =
            let h = ready o t spot e in (
              pair t h.0 no_pairs,
              object_value (object_with spot h.1),
              pair_is c o t h.0 no_pairs spot (Ok h.1) e h.2,
              (λ ls ms. (refl, tt)),
              λ ms w. (w.0, spellable_then h.0 (closes Object ∷ []) h.3 (tt, tt)),
            )
    members_front o (pair t j ps) (suc (suc n)) low clean =
        by_key (names_spot c o t) refl (λ spot less h. value_front spot j n less h)
        (λ b m few h. members_front b ps m few h)
      where
        by_key : (r : Result Spot FieldKind) → names_spot c o t ≡ r
            → ((spot : Spot) → n < size j → IsClean (suc n) (value c spot j) → HasFront c spot (suc n) j)
            → ((b : OpenObject) (m : ℕ) → m ≤ pairs_size ps → IsClean m (members c b ps) → HasMembers c b m ps)
            → HasMembers c o (suc (suc n)) (pair t j ps)
        by_key (Err k) e first others =
            let h : suc (suc n) ≤ 0 =
            subst (IsClean (suc (suc n)))
            (ap (λ q. onward (at_once q)
            (λ s. behind 1 (onward (value c s j) (λ x. behind (size j) (members c (object_with s x) ps))))) e)
            clean in
            absurd (omega (arith, h))
        by_key (Ok spot) e first others = by_value (value c spot j) refl
          where
            inside : (r : Result Filled Fault) → value c spot j ≡ r
                → IsClean (suc n) (onward r (λ x. behind (size j) (members c (object_with spot x) ps)))
            inside r is =
                clean_behind 1 (suc n) (suc (suc n)) _ (one_more (suc n))
                (subst (IsClean (suc (suc n))) (pair_is c o t j ps spot r e is) clean)

            by_value : (r : Result Filled Fault) → value c spot j ≡ r → HasMembers c o (suc (suc n)) (pair t j ps)
            by_value (Err f) is =
                let late : suc n ≤ f.0 = inside (Err f) is in
                let within : f.0 < size j = value_within c spot j f is in
                let h = first spot (omega (arith, late, within)) (subst (IsClean (suc n)) (sym is) late) in (
                  pair t h.0 no_pairs,
                  object_value (object_with spot h.1),
                  pair_is c o t h.0 no_pairs spot (Ok h.1) e h.2,
                  (λ ls ms. (refl, h.3 (closes Object ∷ ls) (pair_tokens ps ms))),
                  λ ms w. (w.0, spellable_then h.0 (closes Object ∷ []) (h.4 (pair_tokens ps ms) w.1) (tt, tt)),
                )
            by_value (Ok x) is = by_place (cases_lt n (size j))
              where
                by_place : ((n < size j) ⊎ (size j ≤ n)) → HasMembers c o (suc (suc n)) (pair t j ps)
                by_place (inl less) =
                    let h = first spot less (subst (IsClean (suc n)) (sym is) tt) in (
                      pair t h.0 no_pairs,
                      object_value (object_with spot h.1),
                      pair_is c o t h.0 no_pairs spot (Ok h.1) e h.2,
                      (λ ls ms. (refl, h.3 (closes Object ∷ ls) (pair_tokens ps ms))),
                      λ ms w. (w.0, spellable_then h.0 (closes Object ∷ []) (h.4 (pair_tokens ps ms) w.1) (tt, tt)),
                    )
                by_place (inr past) =
                    let m : ℕ = suc n - size j in
                    let sum : suc n ≡ size j + m = omega (arith, past) in
                    let h = others (object_with spot x) m (omega (arith, sum, low))
                    (clean_behind (size j) m (suc n) (members c (object_with spot x) ps) sum (inside (Ok x) is)) in (
                      pair t j h.0,
                      h.1,
                      pair_is c o t j h.0 spot (Ok x) e is
                          ∙ ap (λ r. behind 1 (behind (size j) r)) h.2,
                      (λ ls ms.
                          (refl, share_behind (suc n) m j (pair_tokens h.0 ls) (pair_tokens ps ms) sum (h.3 ls ms))),
                      λ ms w.
                          (w.0, words_behind (suc n) m j (pair_tokens ps ms) (pair_tokens h.0 []) sum w.1 (h.4 ms)),
                    )
