-- What is reached is closed: the messages and enums that its fields name are reached, and are of the set.
use Rattle.std.proofs.Common.{◌≡◌, ◌<◌, ◌++◌, ◌||◌, ℕ, Bool, true, false, cond, List, [], ◌∷◌, length, fold, nat_eq, Option, Some, None, refl, sym, ap, subst, ◌∙◌}
use Rattle.std.proofs.lemmas.Bool.{eq-eqb, or_left, or_right}
use Rattle.std.proofs.lemmas.List.Folds.{list_any-append}
use Rattle.std.proofs.lemmas.List.Elements.{All-contains_itself, recursion_from_All}
use Rattle.std.specs.List.{AllByRecursion, Contains, IsDistinct, flat_map, list_any}
use Rattle.std.specs.Option.{option_map_or}
use Rattle.descriptor_pool.specs.DeclaredTypes.{SetTypes, enum_named, message_named}
use Rattle.descriptor_pool.specs.FieldTypes.{field_enum, field_message, has_type, value_field}
use Rattle.descriptor_pool.specs.ReachableTypes.{Joined, field_joins, fields_at, joins, message_enums, messages_of, method_roots, named_enum, next, queue, reachable, reached_enums, with_index}
use Rattle.descriptor_pool.specs.ReachedClosure.{HaveEnums, HaveMessages, HaveRoots, IsNamedBy, IsReachClosed}
use Rattle.descriptor_pool.specs.SetMethods.{BoundMethod}
use Rattle.base.proofs.EachLemmas.{each_always, each_flat, each_image, each_joined, each_of_flat, each_part, each_weaker}
use Rattle.descriptor_pool.proofs.QueueLaws.{chosen, enum_below, enums_whole, folded_index, gathered_once, indexes_below, nothing_distinct, queue_whole}

-- ---- indexes that are gathered

stays : (k : ℕ) (is : List ℕ) (i : ℕ) → list_any (nat_eq k) is ≡ true → list_any (nat_eq k) (with_index is i) ≡ true
stays k is i h = pick (list_any (nat_eq i) is)
  where
    pick : (b : Bool) → list_any (nat_eq k) (cond b is (is ++ i ∷ [])) ≡ true
    pick true = h
    pick false = list_any-append (nat_eq k) is (i ∷ []) ∙ or_left (list_any (nat_eq k) is) (nat_eq k i || false) h

joined : (is : List ℕ) (i : ℕ) → list_any (nat_eq i) (with_index is i) ≡ true
joined is i = pick (list_any (nat_eq i) is) refl
  where
    pick : (b : Bool) → list_any (nat_eq i) is ≡ b → list_any (nat_eq i) (cond b is (is ++ i ∷ [])) ≡ true
    pick true e = e
    pick false e = list_any-append (nat_eq i) is (i ∷ []) ∙ or_right (list_any (nat_eq i) is) (nat_eq i i || false) (or_left (nat_eq i i) false (eq-eqb i i refl))

all_stay : (k : ℕ) (is xs : List ℕ) → list_any (nat_eq k) is ≡ true → list_any (nat_eq k) (fold with_index is xs) ≡ true
all_stay k is [] h = h
all_stay k is (x ∷ xs) h = all_stay k (with_index is x) xs (stays k is x h)

-- each index is among those that are gathered
all_gathered : (is xs : List ℕ) → AllByRecursion (λ k. list_any (nat_eq k) (fold with_index is xs) ≡ true) xs
all_gathered is [] = tt
all_gathered is (x ∷ xs) = (all_stay x (with_index is x) xs (joined is x), all_gathered (with_index is x) xs)

one_more : (P : ℕ → Type 0) (is : List ℕ) (i : ℕ) → AllByRecursion P is → P i → AllByRecursion P (with_index is i)
one_more P is i a p = pick (list_any (nat_eq i) is)
  where
    pick : (b : Bool) → AllByRecursion P (cond b is (is ++ i ∷ []))
    pick true = a
    pick false = each_joined P is (i ∷ []) a (p, tt)

-- what holds of each index holds of those that are gathered
each_gathered : (P : ℕ → Type 0) (is xs : List ℕ) → AllByRecursion P is → AllByRecursion P xs → AllByRecursion P (fold with_index is xs)
each_gathered P is [] a b = a
each_gathered P is (x ∷ xs) a b = each_gathered P (with_index is x) xs (one_more P is x a b.0) b.1

-- ---- messages

one_joined : (P : ℕ → Type 0) (path : List ℕ) (o : Option ℕ) → AllByRecursion (λ (j : Joined). P j.message) (joins path o) → (i : ℕ) → o ≡ Some i → P i
one_joined P path None a i h = absurd (cc h)
one_joined P path (Some k) a i h = let same : k ≡ i = cc h in subst P same a.0

module _ (types : SetTypes) (ms : List BoundMethod) where
  reached_is : messages_of (reachable types ms) ≡ fold with_index [] (messages_of (queue types ms (reachable types ms)))
  reached_is = ap messages_of (queue_whole types ms) ∙ folded_index [] (queue types ms (reachable types ms))

  -- the messages of the queue are among those that are reached
  queue_reached : AllByRecursion (λ (j : Joined). list_any (nat_eq j.message) (messages_of (reachable types ms)) ≡ true) (queue types ms (reachable types ms))
  queue_reached =
      let js = reachable types ms in
      let P : ℕ → Type 0 = λ i. list_any (nat_eq i) (messages_of js) ≡ true in
      let gathered : AllByRecursion P (messages_of (queue types ms js)) =
      subst (λ is. AllByRecursion (λ k. list_any (nat_eq k) is ≡ true) (messages_of (queue types ms js))) (sym reached_is) (all_gathered [] (messages_of (queue types ms js))) in
      each_image (λ (j : Joined). j.message) P (queue types ms js) gathered

  -- the inputs and outputs of methods are reached
  pub roots_reached : AllByRecursion (HaveRoots types (λ i. list_any (nat_eq i) (messages_of (reachable types ms)) ≡ true)) ms
  roots_reached =
      let js = reachable types ms in
      let P : ℕ → Type 0 = λ i. list_any (nat_eq i) (messages_of js) ≡ true in
      let before = (each_part (λ (j : Joined). P j.message) (flat_map (method_roots types) ms) (flat_map (next types) js) queue_reached).0 in
      each_weaker (λ (m : BoundMethod). AllByRecursion (λ (k : Joined). P k.message) (method_roots types m)) (HaveRoots types P)
      (λ (m : BoundMethod) a. let both = each_part (λ (k : Joined). P k.message) (joins m.path (message_named types m.input)) (joins m.path (message_named types m.output)) a in
      (one_joined P m.path (message_named types m.input) both.0, one_joined P m.path (message_named types m.output) both.1))
      ms (each_of_flat (method_roots types) (λ (k : Joined). P k.message) ms before)

  -- each message is reached once
  pub messages_once : IsDistinct nat_eq (messages_of (reachable types ms))
  messages_once = subst (IsDistinct nat_eq) (sym reached_is) (gathered_once [] (messages_of (queue types ms (reachable types ms))) nothing_distinct)

  -- the messages that fields of messages reached name are reached
  pub messages_closed : AllByRecursion (λ (j : Joined). HaveMessages types (λ i. list_any (nat_eq i) (messages_of (reachable types ms)) ≡ true) (fields_at types j.message)) (reachable types ms)
  messages_closed =
      let js = reachable types ms in
      let P : ℕ → Type 0 = λ i. list_any (nat_eq i) (messages_of js) ≡ true in
      let after = (each_part (λ (j : Joined). P j.message) (flat_map (method_roots types) ms) (flat_map (next types) js) queue_reached).1 in
      each_weaker (λ (j : Joined). AllByRecursion (λ (k : Joined). P k.message) (next types j)) (λ (j : Joined). HaveMessages types P (fields_at types j.message))
      (λ (j : Joined) a. each_weaker (λ f. AllByRecursion (λ (k : Joined). P k.message) (field_joins types j.path f))
      (λ f. (i : ℕ) → field_message types (value_field types f) ≡ Some i → P i)
      (λ f b. one_joined P j.path (field_message types (value_field types f)) b)
      (fields_at types j.message) (each_of_flat (field_joins types j.path) (λ (k : Joined). P k.message) (fields_at types j.message) a))
      js (each_of_flat (next types) (λ (k : Joined). P k.message) js after)

  -- what is reached is of the set
  pub messages_below : AllByRecursion (λ i. i < length types.messages) (messages_of (reachable types ms))
  messages_below =
      let js = reachable types ms in
      subst (AllByRecursion (λ i. i < length types.messages)) (sym reached_is)
      (each_gathered (λ i. i < length types.messages) [] (messages_of (queue types ms js)) tt (indexes_below types ms js))

-- ---- enums

one_named : (P : ℕ → Type 0) (o : Option ℕ) → AllByRecursion P (option_map_or (λ i. i ∷ []) o []) → (i : ℕ) → o ≡ Some i → P i
one_named P None a i h = absurd (cc h)
one_named P (Some k) a i h = let same : k ≡ i = cc h in subst P same a.0

named_one : (P : ℕ → Type 0) (o : Option ℕ) → ((i : ℕ) → o ≡ Some i → P i) → AllByRecursion P (option_map_or (λ i. i ∷ []) o [])
named_one P None h = tt
named_one P (Some i) h = (h i refl, tt)

module _ (types : SetTypes) where
  -- the enums that fields of some messages name are among those reached from these
  pub enums_closed : (js : List Joined) → AllByRecursion (λ (j : Joined). HaveEnums types (λ i. list_any (nat_eq i) (reached_enums types js) ≡ true) (fields_at types j.message)) js
  enums_closed js =
      let P : ℕ → Type 0 = λ i. list_any (nat_eq i) (reached_enums types js) ≡ true in
      let gathered : AllByRecursion P (flat_map (message_enums types) js) =
      subst (λ is. AllByRecursion (λ k. list_any (nat_eq k) is ≡ true) (flat_map (message_enums types) js)) (sym (enums_whole types js)) (all_gathered [] (flat_map (message_enums types) js)) in
      each_weaker (λ (j : Joined). AllByRecursion P (message_enums types j)) (λ (j : Joined). HaveEnums types P (fields_at types j.message))
      (λ (j : Joined) a. each_weaker (λ f. AllByRecursion P (named_enum types f))
      (λ f. (i : ℕ) → field_enum types (value_field types f) ≡ Some i → P i)
      (λ f b. one_named P (field_enum types (value_field types f)) b)
      (fields_at types j.message) (each_of_flat (named_enum types) P (fields_at types j.message) a))
      js (each_of_flat (message_enums types) P js gathered)

  -- what holds of the enums that fields name holds of those that are reached
  pub enums_have : (P : ℕ → Type 0) (js : List Joined) → AllByRecursion (λ (j : Joined). HaveEnums types P (fields_at types j.message)) js → AllByRecursion P (reached_enums types js)
  enums_have P js a =
      let named : AllByRecursion (λ (j : Joined). AllByRecursion P (message_enums types j)) js =
      each_weaker (λ (j : Joined). HaveEnums types P (fields_at types j.message)) (λ (j : Joined). AllByRecursion P (message_enums types j))
      (λ (j : Joined) b. each_flat (named_enum types) P (fields_at types j.message)
      (each_weaker (λ f. (i : ℕ) → field_enum types (value_field types f) ≡ Some i → P i) (λ f. AllByRecursion P (named_enum types f))
      (λ f c. named_one P (field_enum types (value_field types f)) c) (fields_at types j.message) b))
      js a in
      subst (AllByRecursion P) (sym (enums_whole types js)) (each_gathered P [] (flat_map (message_enums types) js) tt (each_flat (message_enums types) P js named))

  -- the enums that are reached are of the set
  pub enums_below : (js : List Joined) → AllByRecursion (λ i. i < length types.enums) (reached_enums types js)
  enums_below js =
      let P : ℕ → Type 0 = λ i. i < length types.enums in
      enums_have P js
      (each_always (λ (j : Joined). HaveEnums types P (fields_at types j.message))
      (λ (j : Joined). each_always (λ f. (i : ℕ) → field_enum types (value_field types f) ≡ Some i → P i)
      (λ f i h. let v = value_field types f in enum_below types v.type_name i (chosen (has_type 14 v) (enum_named types v.type_name) i h))
      (fields_at types j.message))
      js)

-- each item of a list is one of it
pub each_itself : {X : Type 0} (xs : List X) → AllByRecursion (Contains xs) xs
each_itself xs = recursion_from_All (Contains xs) xs (All-contains_itself xs)

-- each enum that is reached is one that a field names
pub enums_named : (types : SetTypes) (js : List Joined) → AllByRecursion (IsNamedBy types js) (reached_enums types js)
enums_named types js =
    enums_have types (IsNamedBy types js) js
    (each_weaker (Contains js) (λ (j : Joined). HaveEnums types (IsNamedBy types js) (fields_at types j.message))
    (λ (j : Joined) a. each_weaker (Contains (fields_at types j.message)) (λ f. (i : ℕ) → field_enum types (value_field types f) ≡ Some i → IsNamedBy types js i)
    (λ f b i h. record { item = j; among = a; field = f; inside = b; names = h })
    (fields_at types j.message) (each_itself (fields_at types j.message)))
    js (each_itself js))

-- each enum is reached once
pub enums_once : (types : SetTypes) (js : List Joined) → IsDistinct nat_eq (reached_enums types js)
enums_once types js = subst (IsDistinct nat_eq) (sym (enums_whole types js)) (gathered_once [] (flat_map (message_enums types) js) nothing_distinct)

-- what methods reach is closed
pub reach_closed : (types : SetTypes) (ms : List BoundMethod) → IsReachClosed types ms
reach_closed types ms = record {
  roots = roots_reached types ms;
  messages = messages_closed types ms;
  enums = enums_closed types (reachable types ms);
  messages_below = messages_below types ms;
  enums_below = enums_below types (reachable types ms);
  enums_named = enums_named types (reachable types ms);
  messages_once = messages_once types ms;
  enums_once = enums_once types (reachable types ms);
}
