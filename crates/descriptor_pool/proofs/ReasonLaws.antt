-- Each message that is reached is so by a method, or by a message that is reached before it.
use Rattle.std.proofs.Common.{◌≡◌, ◌<◌, ◌≤◌, ◌+◌, ◌⊎◌, ◌++◌, ℕ, zero, suc, Bool, true, false, cond, List, [], ◌∷◌, length, take, drop, fold, Option, Some, None, refl, sym, ap, subst, inl, inr, ◌∙◌, arith, add-one}
use Rattle.std.proofs.Math.Seq.{take-append_seam, take-append-add}
use Rattle.std.proofs.lemmas.Bool.{cases_lt}
use Rattle.std.proofs.lemmas.List.{length-append, length-take, take-append-drop}
use Rattle.std.specs.List.{AllByRecursion, Contains, flat_map, list_any}
use Rattle.descriptors.specs.declared.file_set.FieldInfo.{FieldInfo}
use Rattle.base.proofs.EachLemmas.{each_flat, each_joined, each_part, each_weaker}
use Rattle.descriptor_pool.specs.DeclaredTypes.{SetTypes, message_named}
use Rattle.descriptor_pool.specs.FieldTypes.{field_message, value_field}
use Rattle.descriptor_pool.specs.ReachableTypes.{Joined, field_joins, fields_at, is_of, joins, method_roots, next, once, queue, reachable, taken, with_joined}
use Rattle.descriptor_pool.specs.ReachedReasons.{HasReasons, IsOfField, IsOfMethod}
use Rattle.descriptor_pool.specs.SetMethods.{BoundMethod}
use Rattle.descriptor_pool.proofs.QueueLemmas.{front_more}
use Rattle.descriptor_pool.proofs.QueueLaws.{steps, worked}
use Rattle.descriptor_pool.proofs.ReachedLaws.{each_itself}

-- ---- fronts of a list

take_none : {X : Type 0} (xs : List X) → take 0 xs ≡ []
take_none [] = refl
take_none (x ∷ xs) = refl

-- a front of a front is a front of the list
take_shorter : {X : Type 0} (k n : ℕ) (xs : List X) → k ≤ n → take k (take n xs) ≡ take k xs
take_shorter zero n xs l = take_none (take n xs) ∙ sym (take_none xs)
take_shorter (suc k) zero xs l = absurd (omega (arith, l))
take_shorter (suc k) (suc n) [] l = refl
take_shorter (suc k) (suc n) (x ∷ xs) l = ap (λ z. x ∷ z) (take_shorter k n xs (omega (arith, l)))

-- what holds of each item of a list holds of those of its front
each_taken : {X : Type 0} (P : X → Type 0) (n : ℕ) (xs : List X) → AllByRecursion P xs → AllByRecursion P (take n xs)
each_taken P n xs a = (each_part P (take n xs) (drop n xs) (subst (AllByRecursion P) (sym (take-append-drop n xs)) a)).0

-- ---- items that are gathered

one_gathered : (P : Joined → Type 0) (js : List Joined) (j : Joined) → AllByRecursion P js → P j
    → AllByRecursion P (with_joined js j)
one_gathered P js j a p = pick (list_any (is_of j.message) js)
  where
    pick : (b : Bool) → AllByRecursion P (cond b js (js ++ j ∷ []))
    pick true = a
    pick false = each_joined P js (j ∷ []) a (p, tt)

-- what holds of each item holds of those that are gathered
items_gathered : (P : Joined → Type 0) (js xs : List Joined) → AllByRecursion P js → AllByRecursion P xs
    → AllByRecursion P (fold with_joined js xs)
items_gathered P js [] a b = a
items_gathered P js (x ∷ xs) a b = items_gathered P (with_joined js x) xs (one_gathered P js x a b.0) b.1

joins_have : (P : Joined → Type 0) (path : List ℕ) (o : Option ℕ)
    → ((i : ℕ) → o ≡ Some i → P (record { message = i; path = path })) → AllByRecursion P (joins path o)
joins_have P path None h = tt
joins_have P path (Some i) h = (h i refl, tt)

module _ (types : SetTypes) (ms : List BoundMethod) where
  abbrev HasReason : List Joined → Joined → Type 0
  HasReason before j = IsOfMethod types ms j ⊎ IsOfField types before j

  -- the inputs and outputs of a method are of that method
  of_method : (before : List Joined) (m : BoundMethod) → Contains ms m
      → AllByRecursion (HasReason before) (method_roots types m)
  of_method before m among =
      each_joined (HasReason before)
      (joins m.path (message_named types m.input)) (joins m.path (message_named types m.output))
      (joins_have (HasReason before) m.path (message_named types m.input)
      (λ i h. inl (record { method = m; among = among; names = inl h; path = refl })))
      (joins_have (HasReason before) m.path (message_named types m.output)
      (λ i h. inl (record { method = m; among = among; names = inr h; path = refl })))

  -- what the fields of a message name is of these fields
  of_item : (before : List Joined) (j : Joined) → Contains before j → AllByRecursion (HasReason before) (next types j)
  of_item before j among =
      each_flat (field_joins types j.path) (HasReason before) (fields_at types j.message)
      (each_weaker (Contains (fields_at types j.message))
      (λ f. AllByRecursion (HasReason before) (field_joins types j.path f))
      (λ (f : FieldInfo) inside. joins_have (HasReason before) j.path (field_message types (value_field types f))
      (λ i h. inr (record { item = j; among = among; field = f; inside = inside; names = h; path = refl })))
      (fields_at types j.message) (each_itself (fields_at types j.message)))

  -- each item of a queue has a reason
  queue_reasons : (before : List Joined) → AllByRecursion (HasReason before) (queue types ms before)
  queue_reasons before =
      each_joined (HasReason before) (flat_map (method_roots types) ms) (flat_map (next types) before)
      (each_flat (method_roots types) (HasReason before) ms
      (each_weaker (Contains ms) (λ m. AllByRecursion (HasReason before) (method_roots types m))
      (of_method before) ms (each_itself ms)))
      (each_flat (next types) (HasReason before) before
      (each_weaker (Contains before) (λ j. AllByRecursion (HasReason before) (next types j))
      (of_item before) before (each_itself before)))

  taken_reasons : (k : ℕ) → AllByRecursion (HasReason (taken types ms k)) (taken types ms (suc k))
  taken_reasons k =
      each_taken (HasReason (taken types ms k)) (suc k) (once (queue types ms (taken types ms k)))
      (items_gathered (HasReason (taken types ms k)) [] (queue types ms (taken types ms k)) tt
      (queue_reasons (taken types ms k)))

  -- ---- what was taken stays in front

  one_kept : (n : ℕ) → taken types ms n ≡ take n (taken types ms (suc n))
  one_kept n =
      let w = worked types ms n in
      let js = steps types ms n in
      sym w.front ∙ sym (take_shorter n (suc n) js (omega arith)) ∙ ap (take n) (front_more types ms js n w)

  kept : (n k : ℕ) → k ≤ n → taken types ms k ≡ take k (taken types ms n)
  kept zero k l =
      let none : k ≡ 0 = omega (arith, l) in
      subst (λ (m : ℕ). taken types ms m ≡ take m (taken types ms 0)) (sym none) (sym (take_none (taken types ms 0)))
  kept (suc n) k l = pick (cases_lt n k) (kept n k)
    where
      pick : (n < k) ⊎ (k ≤ n) → (k ≤ n → taken types ms k ≡ take k (taken types ms n))
          → taken types ms k ≡ take k (taken types ms (suc n))
      pick (inl more) r =
          let all : k ≡ suc n = omega (arith, l, more) in
          subst (λ (m : ℕ). taken types ms m ≡ take m (taken types ms (suc n))) (sym all)
          (sym (take_shorter (suc n) (suc n) (once (queue types ms (taken types ms n))) (omega arith)))
      pick (inr less) r = r less ∙ ap (take k) (one_kept n) ∙ take_shorter k n (taken types ms (suc n)) less

  taken_few : (n : ℕ) → length (taken types ms n) ≤ n
  taken_few zero = omega arith
  taken_few (suc n) = omega (arith, length-take (suc n) (once (queue types ms (taken types ms n))))

  -- each message that is reached has a reason
  pub has_reasons : HasReasons types ms
  has_reasons before after j e =
      let k = length before in
      let bound = length types.messages in
      let long : length (reachable types ms) ≡ k + (1 + length after) =
      ap length e ∙ length-append before (j ∷ after) ∙ ap (λ z. k + z) (omega arith) in
      let fits : suc k ≤ bound = omega (arith, long, taken_few bound) in
      let front : taken types ms k ≡ before =
      kept bound k (omega (arith, fits)) ∙ ap (take k) e ∙ take-append_seam before (j ∷ after) in
      let more : taken types ms (suc k) ≡ before ++ j ∷ [] =
      kept bound (suc k) fits ∙ ap (take (suc k)) e ∙ ap (λ z. take z (before ++ j ∷ after)) (sym (add-one k))
      ∙ take-append-add before (j ∷ after) 1 ∙ ap (λ z. before ++ j ∷ z) (take_none after) in
      let reasons = subst (AllByRecursion (HasReason (taken types ms k))) more (taken_reasons k) in
      let last = each_part (HasReason (taken types ms k)) before (j ∷ []) reasons in
      subst (λ (js : List Joined). HasReason js j) front last.1.0
