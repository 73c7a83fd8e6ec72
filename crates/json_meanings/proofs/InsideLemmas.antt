-- Before the last token of a tree no value has ended.
use Rattle.std.proofs.Common.{◌≡◌, ◌<◌, ◌≤◌, ◌+◌, ◌-◌, ◌⊎◌, inl, inr, sym, subst, refl, arith, ℕ, zero, suc, List, ◌∷◌, take, Result, Ok, Err}
use Rattle.std.proofs.lemmas.Bool.{cases_lt}
use Rattle.message_types.specs.Types.{fields_of}
use Rattle.schema.specs.declared.key.Key.{Key}
use Rattle.json_events.specs.JsonTree.{Json, Items, Pairs, Mark, literal, number, string, array, object, no_items, item, no_pairs, pair}
use Rattle.json_meanings.specs.FaultPlaces.{Fault, at_once, behind, items_size, onward, pairs_size, size}
use Rattle.json_meanings.specs.JsonDenotes.{array_with, object_with, value}
use Rattle.json_meanings.specs.JsonScalars.{Schema}
use Rattle.json_meanings.specs.PartialMessages.{FieldForm, entry_key, key_of}
use Rattle.json_meanings.specs.ReadingSpots.{Filled, OpenArray, OpenObject, Spot, element, entry, member, of_map, of_message}
use Rattle.json_meanings.specs.ReadingTurns.{Levels, array_opened, at_turn, has_ended, in_array, in_object, named, object_opened, run, wants_value}
use Rattle.json_meanings.specs.SpotTables.{entry_at, member_at, names_spot, opens_array, opens_object}
use Rattle.json_meanings.specs.declared.fault.FieldKind.{FieldKind}
use Rattle.json_meanings.proofs.FrontLemmas.{take_behind}
use Rattle.json_meanings.proofs.TokenLemmas.{item_tokens, pair_tokens, with_tokens}
use Rattle.json_meanings.proofs.TurnLemmas.{IsNamed, after, item_turn, value_run}

-- no value has ended there, or there was a fault before
abbrev pub IsInside : Result Levels Fault → Type 0
IsInside (Ok l) = (x : Filled) → l.turn ≡ has_ended x → ⊥
IsInside (Err f) = Unit {0}

inside_behind : (n : ℕ) (r : Result Levels Fault) → IsInside r → IsInside (behind n r)
inside_behind n (Ok l) h = h
inside_behind n (Err f) h = tt

inside_onward : {A : Type 0} (r : Result A Fault) (f : A → Result Levels Fault) → ((a : A) → IsInside (f a))
    → IsInside (onward r f)
inside_onward (Ok a) f h = h a
inside_onward (Err e) f h = tt

-- in an array the first tokens of an item are taken as at the item's spot
item_front : (c : Schema) (a : OpenArray) (st : List Spot) (j : Json) (ms : List Mark) (n : ℕ)
    → run c (at_turn (in_array a) st) (take (suc n) (with_tokens j ms))
    ≡ run c (at_turn (wants_value (element a)) st) (take (suc n) (with_tokens j ms))
item_front c a st (literal m) ms n = refl
item_front c a st (number t) ms n = refl
item_front c a st (string t) ms n = refl
item_front c a st (array js) ms n = refl
item_front c a st (object ps) ms n = refl

spot_is : (a b : Spot) → ◌≡◌ {A = Result Spot FieldKind} (Ok a) (Ok b) → a ≡ b
spot_is a b e = cc e

-- a spot behind a key
is_named : (c : Schema) (o : OpenObject) (t : List ℕ) (s : Spot) → names_spot c o t ≡ Ok s → IsNamed s
is_named c (of_message k id p) t s e = by_key (key_of (fields_of c.types id) p t) e
  where
    by_key : (r : Result FieldForm FieldKind) → member_at k id p r ≡ Ok s → IsNamed s
    by_key (Ok f) q = subst IsNamed (spot_is (member k id p f) s q) (λ x st. refl)
    by_key (Err k) q = absurd (cc q)
is_named c (of_map k sc kind es) t s e = by_key (entry_key c.types k sc kind es t) e
  where
    by_key : (r : Result Key FieldKind) → entry_at k sc kind es r ≡ Ok s → IsNamed s
    by_key (Ok key) q = subst IsNamed (spot_is (entry k sc kind es key) s q) (λ x st. refl)
    by_key (Err k) q = absurd (cc q)

module _ (c : Schema) where
  -- past a whole value
  past_value : (spot : Spot) (st : List Spot) (j : Json) (ms : List Mark)
      → ((x : Filled) → IsInside (after c spot st (size j) ms x))
      → IsInside (run c (at_turn (wants_value spot) st) (with_tokens j ms))
  past_value spot st j ms h =
      subst IsInside (sym (value_run c spot st j ms)) (inside_onward (value c spot j) (after c spot st (size j) ms) h)

  mutual
    pub value_inside : (spot : Spot) (st : List Spot) (j : Json) (ms : List Mark) (n : ℕ) → n < size j
        → IsInside (run c (at_turn (wants_value spot) st) (take n (with_tokens j ms)))
    value_inside spot st j ms zero low = λ x e. absurd (cc e)
    value_inside spot st (literal m) ms (suc n) low = absurd (omega (arith, low))
    value_inside spot st (number t) ms (suc n) low = absurd (omega (arith, low))
    value_inside spot st (string t) ms (suc n) low = absurd (omega (arith, low))
    value_inside spot st (array js) ms (suc n) low =
        by_array (opens_array spot) (λ a. inside_behind 1 _ (items_inside a spot st js ms n (omega (arith, low))))
      where
        by_array : (r : Result OpenArray FieldKind)
            → ((a : OpenArray)
            → IsInside (behind 1 (run c (at_turn (in_array a) (spot ∷ st)) (take n (item_tokens js ms)))))
            → IsInside (onward (at_once (array_opened spot st r))
            (λ l. behind 1 (run c l (take n (item_tokens js ms)))))
        by_array (Ok a) h = h a
        by_array (Err e) h = tt
    value_inside spot st (object ps) ms (suc n) low =
        by_object (opens_object c spot) (λ o. inside_behind 1 _ (members_inside o spot st ps ms n (omega (arith, low))))
      where
        by_object : (r : Result OpenObject FieldKind)
            → ((o : OpenObject)
            → IsInside (behind 1 (run c (at_turn (in_object o) (spot ∷ st)) (take n (pair_tokens ps ms)))))
            → IsInside (onward (at_once (object_opened spot st r))
            (λ l. behind 1 (run c l (take n (pair_tokens ps ms)))))
        by_object (Ok o) h = h o
        by_object (Err e) h = tt

    items_inside : (a : OpenArray) (spot : Spot) (st : List Spot) (js : Items) (ms : List Mark) (n : ℕ)
        → n < items_size js
        → IsInside (run c (at_turn (in_array a) (spot ∷ st)) (take n (item_tokens js ms)))
    items_inside a spot st js ms zero low = λ x e. absurd (cc e)
    items_inside a spot st no_items ms (suc n) low = absurd (omega (arith, low))
    items_inside a spot st (item j js) ms (suc n) low =
        by_place (cases_lt (suc n) (size j))
        (λ less. value_inside (element a) (spot ∷ st) j (item_tokens js ms) (suc n) less)
        (λ b m few. items_inside b spot st js ms m few)
      where
        by_place : ((suc n < size j) ⊎ (size j ≤ suc n))
            → (suc n < size j
            → IsInside (run c (at_turn (wants_value (element a)) (spot ∷ st))
            (take (suc n) (with_tokens j (item_tokens js ms)))))
            → ((b : OpenArray) (m : ℕ) → m < items_size js
            → IsInside (run c (at_turn (in_array b) (spot ∷ st)) (take m (item_tokens js ms))))
            → IsInside (run c (at_turn (in_array a) (spot ∷ st)) (take (suc n) (with_tokens j (item_tokens js ms))))
        by_place (inl less) first others =
            subst IsInside (sym (item_front c a (spot ∷ st) j (item_tokens js ms) n)) (first less)
        by_place (inr past) first others =
            let m : ℕ = suc n - size j in
            let is : suc n ≡ size j + m = omega (arith, past) in
            subst (λ ts. IsInside (run c (at_turn (in_array a) (spot ∷ st)) ts))
            (sym (take_behind (suc n) m j (item_tokens js ms) is))
            (subst IsInside (sym (item_turn c a (spot ∷ st) j (take m (item_tokens js ms))))
            (past_value (element a) (spot ∷ st) j (take m (item_tokens js ms))
            (λ x. inside_behind (size j) _ (others (array_with a x) m (omega (arith, is, low))))))

    members_inside : (o : OpenObject) (spot : Spot) (st : List Spot) (ps : Pairs) (ms : List Mark) (n : ℕ)
        → n < pairs_size ps
        → IsInside (run c (at_turn (in_object o) (spot ∷ st)) (take n (pair_tokens ps ms)))
    members_inside o spot st ps ms zero low = λ x e. absurd (cc e)
    members_inside o spot st no_pairs ms (suc n) low = absurd (omega (arith, low))
    members_inside o spot st (pair t j ps) ms (suc n) low =
        by_key (names_spot c o t) refl (λ s less. value_inside s (spot ∷ st) j (pair_tokens ps ms) n less)
        (λ b m few. members_inside b spot st ps ms m few)
      where
        by_key : (r : Result Spot FieldKind) → names_spot c o t ≡ r
            → ((s : Spot) → n < size j
            → IsInside (run c (at_turn (wants_value s) (spot ∷ st)) (take n (with_tokens j (pair_tokens ps ms)))))
            → ((b : OpenObject) (m : ℕ) → m < pairs_size ps
            → IsInside (run c (at_turn (in_object b) (spot ∷ st)) (take m (pair_tokens ps ms))))
            → IsInside (onward (at_once (named (spot ∷ st) r))
            (λ l. behind 1 (run c l (take n (with_tokens j (pair_tokens ps ms))))))
        by_key (Err k) e first others = tt
        by_key (Ok s) e first others = inside_behind 1 _ (by_place (cases_lt n (size j)))
          where
            by_place : ((n < size j) ⊎ (size j ≤ n))
                → IsInside (run c (at_turn (wants_value s) (spot ∷ st)) (take n (with_tokens j (pair_tokens ps ms))))
            by_place (inl less) = first s less
            by_place (inr past) =
                let m : ℕ = n - size j in
                let is : n ≡ size j + m = omega (arith, past) in
                subst (λ ts. IsInside (run c (at_turn (wants_value s) (spot ∷ st)) ts))
                (sym (take_behind n m j (pair_tokens ps ms) is))
                (past_value s (spot ∷ st) j (take m (pair_tokens ps ms))
                (λ x. inside_behind (size j) _
                (subst (λ l. IsInside (run c l (take m (pair_tokens ps ms)))) (sym (is_named c o t s e x (spot ∷ st)))
                (others (object_with s x) m (omega (arith, is, low))))))
