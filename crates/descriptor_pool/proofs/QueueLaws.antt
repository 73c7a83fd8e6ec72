-- The queue has each message once, and no more messages than the set: so nothing of it is cut.
use Rattle.std.proofs.Common.{◌≡◌, ◌<◌, ◌≤◌, ◌+◌, ◌||◌, ℕ, zero, suc, Bool, true, false, cond, List, [], ◌∷◌, ◌++◌, length, map, take, fold, nat_eq, Option, Some, None, refl, sym, ap, ◌∙◌, arith}
use Rattle.std.proofs.lemmas.Bool.{eqb-true}
use Rattle.std.proofs.lemmas.List.{length-map, map_push, take_all}
use Rattle.std.proofs.lemmas.Map.Keys.{IsDistinct-push}
use Rattle.std.proofs.lemmas.Map.Steps.{length-le_from_distinct_below}
use Rattle.std.specs.Cmp.{nat_eq_equiv}
use Rattle.std.specs.List.{AllByRecursion, IsDistinct, flat_map, list_any}
use Rattle.std.specs.Option.{option_and_then, option_map_or}
use Rattle.std.specs.Str.{bytes_eq}
use Rattle.descriptors.specs.declared.file_set.FieldInfo.{FieldInfo}
use Rattle.base.proofs.EachLemmas.{each_always, each_flat, each_joined, each_mapped}
use Rattle.descriptor_pool.specs.DeclaredNames.{DeclaredEnum, DeclaredMessage}
use Rattle.descriptor_pool.specs.DeclaredTypes.{SetTypes, bare, enum_named, first_from, message_named}
use Rattle.descriptor_pool.specs.FieldTypes.{field_enum, field_message, has_type, value_field}
use Rattle.descriptor_pool.specs.QueueSteps.{taken_one}
use Rattle.descriptor_pool.specs.ReachableTypes.{Joined, field_joins, fields_at, is_of, joins, messages_of, method_roots, next, once, queue, reachable, with_joined, message_enums, named_enum, reached_enums, with_index}
use Rattle.descriptor_pool.specs.SetMethods.{BoundMethod}
use Rattle.descriptor_pool.proofs.QueueLemmas.{IsWorkedOff, worked_off_more, worked_off_none}

-- ---- names give indexes of the set

first_below : (k : ℕ) (names : List (List ℕ)) (q : List ℕ) (i : ℕ) → first_from k names q ≡ Some i → i < k + length names
first_below k [] q i h = absurd (cc (h))
first_below k (n ∷ ns) q i h = pick (bytes_eq q n) h (first_below (k + 1) ns q i)
  where
    pick : (b : Bool) → cond b (Some k) (first_from (k + 1) ns q) ≡ Some i → (first_from (k + 1) ns q ≡ Some i → i < (k + 1) + length ns) → i < k + length (n ∷ ns)
    pick true e r = let same : k ≡ i = cc (e) in omega arith
    pick false e r = omega (arith, r e)

named_below : (names : List (List ℕ)) (o : Option (List ℕ)) (i : ℕ) → option_and_then (first_from 0 names) o ≡ Some i → i < length names
named_below names None i h = absurd (cc (h))
named_below names (Some q) i h = omega (arith, first_below 0 names q i h)

message_below : (types : SetTypes) (name : List ℕ) (i : ℕ) → message_named types name ≡ Some i → i < length types.messages
message_below types name i h =
    omega (arith, named_below (map (λ (m : DeclaredMessage). m.name) types.messages) (bare name) i h, length-map types.messages (λ (m : DeclaredMessage). m.name))

-- an enum that a type name names is of the set
pub enum_below : (types : SetTypes) (name : List ℕ) (i : ℕ) → enum_named types name ≡ Some i → i < length types.enums
enum_below types name i h =
    omega (arith, named_below (map (λ (e : DeclaredEnum). e.name) types.enums) (bare name) i h, length-map types.enums (λ (e : DeclaredEnum). e.name))

-- where something is chosen by a test, it is that
pub chosen : (b : Bool) (o : Option ℕ) (i : ℕ) → cond b o None ≡ Some i → o ≡ Some i
chosen true o i h = h
chosen false o i h = absurd (cc (h))

-- ---- indexes below a bound, each once

-- indexes below a bound
abbrev pub AreBelow : ℕ → List ℕ → Type 0
AreBelow n is = AllByRecursion (λ (i : ℕ). i < n) is

below_any : (n : ℕ) (xs : List ℕ) → AreBelow n xs → (q : ℕ) → list_any (nat_eq q) xs ≡ true → q < n
below_any n [] a q h = absurd (cc (h))
below_any n (x ∷ xs) a q h = pick (nat_eq q x) (eqb-true q x) h (below_any n xs a.1 q)
  where
    pick : (b : Bool) → (b ≡ true → q ≡ x) → (b || list_any (nat_eq q) xs) ≡ true → (list_any (nat_eq q) xs ≡ true → q < n) → q < n
    pick true s e r = let same = s refl in let first = a.0 in omega arith
    pick false s e r = r e

-- distinct indexes below a bound are no more than it
few : (n : ℕ) (xs : List ℕ) → IsDistinct nat_eq xs → AreBelow n xs → length xs ≤ n
few n xs d a = length-le_from_distinct_below xs n d (below_any n xs a)

-- nothing is distinct
pub nothing_distinct : IsDistinct nat_eq []
unfolding IsDistinct
nothing_distinct = tt

index_distinct : (xs : List ℕ) (i : ℕ) → IsDistinct nat_eq xs → IsDistinct nat_eq (with_index xs i)
index_distinct xs i d = pick (list_any (nat_eq i) xs) refl
  where
    pick : (b : Bool) → list_any (nat_eq i) xs ≡ b → IsDistinct nat_eq (cond b xs (xs ++ i ∷ []))
    pick true e = d
    pick false e = IsDistinct-push nat_eq_equiv xs i d e

-- each index is gathered once
pub gathered_once : (xs is : List ℕ) → IsDistinct nat_eq xs → IsDistinct nat_eq (fold with_index xs is)
gathered_once xs [] d = d
gathered_once xs (i ∷ is) d = gathered_once (with_index xs i) is (index_distinct xs i d)

index_below : (n : ℕ) (xs : List ℕ) (i : ℕ) → AreBelow n xs → i < n → AreBelow n (with_index xs i)
index_below n xs i a l = pick (list_any (nat_eq i) xs)
  where
    pick : (b : Bool) → AreBelow n (cond b xs (xs ++ i ∷ []))
    pick true = a
    pick false = each_joined (λ (k : ℕ). k < n) xs (i ∷ []) a (l, tt)

indexes_few : (n : ℕ) (xs is : List ℕ) → IsDistinct nat_eq xs → AreBelow n xs → AreBelow n is → length (fold with_index xs is) ≤ n
indexes_few n xs [] d a b = few n xs d a
indexes_few n xs (i ∷ is) d a b = indexes_few n (with_index xs i) is (index_distinct xs i d) (index_below n xs i a b.0) b.1

-- ---- enums

below_flat : {X : Type 0} (n : ℕ) (f : X → List ℕ) → ((x : X) → AreBelow n (f x)) → (xs : List X) → AreBelow n (flat_map f xs)
below_flat n f h xs = each_flat f (λ (i : ℕ). i < n) xs (each_always (λ x. AreBelow n (f x)) h xs)

one_below : (n : ℕ) (o : Option ℕ) → ((i : ℕ) → o ≡ Some i → i < n) → AreBelow n (option_map_or (λ i. i ∷ []) o [])
one_below n None h = tt
one_below n (Some i) h = (h i refl, tt)

-- the enums that are reached are not cut
pub enums_whole : (types : SetTypes) (js : List Joined) → reached_enums types js ≡ fold with_index [] (flat_map (message_enums types) js)
enums_whole types js =
    let n = length types.enums in
    let named : (f : FieldInfo) → AreBelow n (named_enum types f) =
    λ f. one_below n (field_enum types (value_field types f))
    (λ i h. enum_below types (value_field types f).type_name i (chosen (has_type 14 (value_field types f)) (enum_named types (value_field types f).type_name) i h)) in
    let all : AreBelow n (flat_map (message_enums types) js) =
    below_flat n (message_enums types) (λ (j : Joined). below_flat n (named_enum types) named (fields_at types j.message)) js in
    take_all n (fold with_index [] (flat_map (message_enums types) js)) (indexes_few n [] (flat_map (message_enums types) js) nothing_distinct tt all)

-- ---- messages

any_of : (i : ℕ) (js : List Joined) → list_any (nat_eq i) (messages_of js) ≡ list_any (is_of i) js
any_of i [] = refl
any_of i (j ∷ js) = ap (λ b. nat_eq i j.message || b) (any_of i js)

-- the indexes of a queue are gathered as those of enums are
joined_index : (js : List Joined) (j : Joined) → messages_of (with_joined js j) ≡ with_index (messages_of js) j.message
joined_index js j = pick (list_any (is_of j.message) js) (list_any (nat_eq j.message) (messages_of js)) (any_of j.message js)
  where
    pick : (b c : Bool) → c ≡ b → messages_of (cond b js (js ++ j ∷ [])) ≡ cond c (messages_of js) (messages_of js ++ j.message ∷ [])
    pick true true e = refl
    pick true false e = absurd (cc (e))
    pick false true e = absurd (cc (e))
    pick false false e = map_push (λ (k : Joined). k.message) js j

-- a queue that is gathered has the indexes that are gathered
pub folded_index : (js xs : List Joined) → messages_of (fold with_joined js xs) ≡ fold with_index (messages_of js) (messages_of xs)
folded_index js [] = refl
folded_index js (x ∷ xs) = folded_index (with_joined js x) xs ∙ ap (λ z. fold with_index z (messages_of xs)) (joined_index js x)

-- the messages of items are below a bound
abbrev pub AllBelow : ℕ → List Joined → Type 0
AllBelow n js = AllByRecursion (λ (j : Joined). j.message < n) js

all_append : (n : ℕ) (xs ys : List Joined) → AllBelow n xs → AllBelow n ys → AllBelow n (xs ++ ys)
all_append n xs ys a b = each_joined (λ (j : Joined). j.message < n) xs ys a b

all_flat : {X : Type 0} (n : ℕ) (f : X → List Joined) → ((x : X) → AllBelow n (f x)) → (xs : List X) → AllBelow n (flat_map f xs)
all_flat n f h xs = each_flat f (λ (j : Joined). j.message < n) xs (each_always (λ x. AllBelow n (f x)) h xs)

join_below : (n : ℕ) (path : List ℕ) (o : Option ℕ) → ((i : ℕ) → o ≡ Some i → i < n) → AllBelow n (joins path o)
join_below n path None h = tt
join_below n path (Some i) h = (h i refl, tt)

module _ (types : SetTypes) (ms : List BoundMethod) where
  abbrev bound : ℕ
  bound = length types.messages

  roots_below : AllBelow bound (flat_map (method_roots types) ms)
  roots_below =
      all_flat bound (method_roots types)
      (λ (m : BoundMethod). all_append bound (joins m.path (message_named types m.input)) (joins m.path (message_named types m.output))
      (join_below bound m.path (message_named types m.input) (message_below types m.input))
      (join_below bound m.path (message_named types m.output) (message_below types m.output)))
      ms

  next_below : (j : Joined) → AllBelow bound (next types j)
  next_below j =
      all_flat bound (field_joins types j.path)
      (λ (f : FieldInfo). let v = value_field types f in
      join_below bound j.path (field_message types v) (λ i h. message_below types v.type_name i (chosen (has_type 11 v) (message_named types v.type_name) i h)))
      (fields_at types j.message)

  -- the messages of a queue are of the set
  pub queue_below : (js : List Joined) → AllBelow bound (queue types ms js)
  queue_below js = all_append bound (flat_map (method_roots types) ms) (flat_map (next types) js) roots_below (all_flat bound (next types) next_below js)

  -- and so are the indexes of these
  pub indexes_below : (js : List Joined) → AreBelow bound (messages_of (queue types ms js))
  indexes_below js = each_mapped (λ (j : Joined). j.message) (λ (i : ℕ). i < bound) (queue types ms js) (queue_below js)

  once_few : (js : List Joined) → length (once (queue types ms js)) ≤ bound
  once_few js =
      let many = indexes_few bound [] (messages_of (queue types ms js)) nothing_distinct tt (indexes_below js) in
      let same = ap length (folded_index [] (queue types ms js)) in
      omega (arith, many, same, length-map (once (queue types ms js)) (λ (j : Joined). j.message))

  -- the queue when so many were taken
  abbrev pub steps : ℕ → List Joined
  steps zero = once (flat_map (method_roots types) ms)
  steps (suc n) = taken_one types (steps n) n

  -- and it is worked off
  pub worked : (n : ℕ) → IsWorkedOff types ms (steps n) n
  worked zero = worked_off_none types ms
  worked (suc n) = worked_off_more types ms (steps n) n (worked n)

  -- what is reached is all that its own queue has, each message once
  pub queue_whole : reachable types ms ≡ once (queue types ms (reachable types ms))
  queue_whole =
      let js = steps bound in
      let w = worked bound in
      let short : length js ≤ bound = omega (arith, ap length w.stands, once_few (take bound js)) in
      let all = take_all bound js short in
      let is : js ≡ reachable types ms = sym all ∙ w.front in
      sym is ∙ w.stands ∙ ap (λ z. once (queue types ms z)) (all ∙ is)
