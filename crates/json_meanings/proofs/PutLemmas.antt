-- A field that is put into a message of which no slot has its number, and of whose oneof no other member has one.
use Rattle.std.proofs.Common.{◌≡◌, ◌≢◌, ◌∙◌, ◌||◌, ◌==◌, sym, ap, subst, refl, arith, cond, nat_eq, ℕ, Bool, true, false, List, [], ◌∷◌, ◌++◌, Option, Some, None}
use Rattle.std.specs.Prelude.{nat_lt}
use Rattle.std.specs.List.{AllByRecursion, cons_option}
use Rattle.std.proofs.lemmas.Bool.{ne_eqb}
use Rattle.std.proofs.lemmas.Bool.Decides.{nat_tests}
use Rattle.std.proofs.lemmas.List.Elements.{filter_map-append}
use Rattle.base.proofs.EachLemmas.{each_joined, each_part}
use Rattle.message_types.specs.Types.{field_in}
use Rattle.message_types.specs.declared.fields.Field.{Field}
use Rattle.schema.specs.Apart.{AreApart}
use Rattle.schema.specs.Validity.{oneof_of, oneofs_in}
use Rattle.schema.specs.Value.{with_slot}
use Rattle.schema.specs.declared.value.Slot.{Slot}
use Rattle.json_meanings.specs.PartialMessages.{has_number}

-- a list of slots with one put between two parts of it
pub record IsPutBetween (es : List (ℕ × Slot)) (n : ℕ) (s : Slot) (after : List (ℕ × Slot)) : Type 0 where
  pub front : List (ℕ × Slot)
  pub back : List (ℕ × Slot)
  pub whole : es ≡ front ++ back
  pub put : after ≡ front ++ (n, s) ∷ back

-- a slot of a number that no other has is put between others
pub put_between : (es : List (ℕ × Slot)) (n : ℕ) (s : Slot) → AllByRecursion (λ (e : ℕ × Slot). e.0 ≢ n) es
    → IsPutBetween es n s (with_slot es n s)
put_between [] n s fresh = record { front = []; back = []; whole = refl; put = refl }
put_between (e ∷ es) n s fresh = by_order (nat_lt e.0 n) (put_between es n s fresh.1)
  where
    by_order : (t : Bool) → IsPutBetween es n s (with_slot es n s)
        → IsPutBetween (e ∷ es) n s (cond t (e ∷ with_slot es n s) (cond (e.0 == n) ((n, s) ∷ es) ((n, s) ∷ e ∷ es)))
    by_order true ih = record {
      front = e ∷ ih.front;
      back = ih.back;
      whole = ap (λ l. e ∷ l) ih.whole;
      put = ap (λ l. e ∷ l) ih.put;
    }
    by_order false ih = record {
      front = [];
      back = e ∷ es;
      whole = refl;
      put = ap (λ t. cond t ((n, s) ∷ es) ((n, s) ∷ e ∷ es)) (ne_eqb e.0 n fresh.0);
    }

-- what holds of the slots and of the one that is put holds of all
pub each_put : (P : ℕ × Slot → Type 0) (es : List (ℕ × Slot)) (n : ℕ) (s : Slot) (after : List (ℕ × Slot))
    → IsPutBetween es n s after → AllByRecursion P es → P (n, s) → AllByRecursion P after
each_put P es n s after between all one =
    let parts = each_part P between.front between.back (subst (AllByRecursion P) between.whole all) in
    subst (AllByRecursion P) (sym between.put)
    (each_joined P between.front ((n, s) ∷ between.back) parts.0 (one, parts.1))

apart_put : (xs ys : List ℕ) (k : ℕ) → AreApart nat_eq (xs ++ ys) → AllByRecursion (λ j. nat_eq k j ≡ false) (xs ++ ys)
    → AreApart nat_eq (xs ++ k ∷ ys)
apart_put [] ys k apart free = (free, apart)
apart_put (x ∷ xs) ys k apart free =
    let parts = each_part (λ j. nat_eq x j ≡ false) xs ys apart.0 in (
      each_joined (λ j. nat_eq x j ≡ false) xs (k ∷ ys) parts.0
          (swap x k free.0, parts.1),
      apart_put xs ys k apart.1 free.1,
    )
  where
    swap : (x k : ℕ) → nat_eq k x ≡ false → nat_eq x k ≡ false
    swap x k h = grind (arith, nat_tests)

module _ (fields : List Field) (es : List (ℕ × Slot)) (n : ℕ) (s : Slot) (after : List (ℕ × Slot))
    (between : IsPutBetween es n s after) where
  oneofs_split : oneofs_in fields es ≡ oneofs_in fields between.front ++ oneofs_in fields between.back
  oneofs_split = ap (oneofs_in fields) between.whole ∙ filter_map-append _ between.front between.back

  oneofs_after : oneofs_in fields after ≡ oneofs_in fields between.front ++ oneofs_in fields ((n, s) ∷ between.back)
  oneofs_after = ap (oneofs_in fields) between.put ∙ filter_map-append _ between.front ((n, s) ∷ between.back)

  -- the oneofs stay apart
  pub oneofs_apart_put : AreApart nat_eq (oneofs_in fields es)
      → ((k : ℕ) → oneof_of (field_in fields n) ≡ Some k
      → AllByRecursion (λ j. nat_eq k j ≡ false) (oneofs_in fields es))
      → AreApart nat_eq (oneofs_in fields after)
  oneofs_apart_put apart free =
      subst (AreApart nat_eq) (sym oneofs_after) (by_oneof (oneof_of (field_in fields n)) refl)
    where
      old : AreApart nat_eq (oneofs_in fields between.front ++ oneofs_in fields between.back)
      old = subst (AreApart nat_eq) oneofs_split apart

      by_oneof : (o : Option ℕ) → oneof_of (field_in fields n) ≡ o
          → AreApart nat_eq (oneofs_in fields between.front ++ oneofs_in fields ((n, s) ∷ between.back))
      by_oneof None e =
          subst (λ w. AreApart nat_eq
          (oneofs_in fields between.front ++ cons_option w (oneofs_in fields between.back))) (sym e) old
      by_oneof (Some k) e =
          subst (λ w. AreApart nat_eq
          (oneofs_in fields between.front ++ cons_option w (oneofs_in fields between.back))) (sym e)
          (apart_put (oneofs_in fields between.front) (oneofs_in fields between.back) k old
          (subst (AllByRecursion (λ j. nat_eq k j ≡ false)) oneofs_split (free k e)))

  -- what holds of each oneof and of that which is put holds of all
  pub each_oneof_put : (P : ℕ → Type 0) → AllByRecursion P (oneofs_in fields es)
      → ((k : ℕ) → oneof_of (field_in fields n) ≡ Some k → P k) → AllByRecursion P (oneofs_in fields after)
  each_oneof_put P all one = subst (AllByRecursion P) (sym oneofs_after) (by_oneof (oneof_of (field_in fields n)) refl)
    where
      parts : AllByRecursion P (oneofs_in fields between.front) × AllByRecursion P (oneofs_in fields between.back)
      parts = each_part P (oneofs_in fields between.front) (oneofs_in fields between.back)
          (subst (AllByRecursion P) oneofs_split all)

      by_oneof : (o : Option ℕ) → oneof_of (field_in fields n) ≡ o
          → AllByRecursion P (oneofs_in fields between.front ++ oneofs_in fields ((n, s) ∷ between.back))
      by_oneof None e =
          subst (λ w. AllByRecursion P
          (oneofs_in fields between.front ++ cons_option w (oneofs_in fields between.back))) (sym e)
          (each_joined P (oneofs_in fields between.front) (oneofs_in fields between.back) parts.0 parts.1)
      by_oneof (Some k) e =
          subst (λ w. AllByRecursion P
          (oneofs_in fields between.front ++ cons_option w (oneofs_in fields between.back))) (sym e)
          (each_joined P (oneofs_in fields between.front) (k ∷ oneofs_in fields between.back) parts.0
          (one k e, parts.1))

-- a number that is in a list is in a longer one
pub still_has : (n : ℕ) (ns ms : List ℕ) → has_number n ns ≡ true → has_number n (ns ++ ms) ≡ true
still_has n [] ms h = absurd cc
still_has n (m ∷ ns) ms h = by_test (n == m) h (still_has n ns ms)
  where
    by_test : (t : Bool) → (t || has_number n ns) ≡ true → (has_number n ns ≡ true → has_number n (ns ++ ms) ≡ true)
        → (t || has_number n (ns ++ ms)) ≡ true
    by_test true h ih = refl
    by_test false h ih = ih h

-- a number is in a list of which it is the last
pub has_last : (n : ℕ) (ns : List ℕ) → has_number n (ns ++ n ∷ []) ≡ true
has_last n [] = let e : (n == n) ≡ true = grind (arith, nat_tests) in ap (λ t. t || false) e
has_last n (m ∷ ns) = by_test (n == m) (has_last n ns)
  where
    by_test : (t : Bool) → has_number n (ns ++ n ∷ []) ≡ true → (t || has_number n (ns ++ n ∷ [])) ≡ true
    by_test true h = refl
    by_test false h = h
