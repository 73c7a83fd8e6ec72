-- The turns over the tokens of a tree come to what the tree means, or to its first fault.
use Rattle.std.proofs.Common.{◌≡◌, ◌∙◌, sym, ap, refl, add_assoc, ℕ, ◌+◌, List, ◌∷◌, Result, Ok, Err}
use Rattle.message_types.specs.Types.{fields_of}
use Rattle.message_types.specs.declared.fields.Kind.{Kind}
use Rattle.message_types.specs.declared.fields.Scalar.{Scalar}
use Rattle.message_types.specs.declared.messages.TypeId.{TypeId}
use Rattle.schema.specs.declared.key.Key.{Key}
use Rattle.schema.specs.declared.value.Item.{Item}
use Rattle.json_events.specs.JsonTree.{Json, Items, Pairs, Mark, literal, number, string, array, object, no_items, item, no_pairs, pair, text, digits, name}
use Rattle.json_meanings.specs.FaultPlaces.{Fault, at_once, behind, items_size, onward, pairs_size, size}
use Rattle.json_meanings.specs.JsonDenotes.{array_with, items, members, object_with, value}
use Rattle.json_meanings.specs.JsonScalars.{Schema}
use Rattle.json_meanings.specs.PartialMessages.{FieldForm, PartialMessage, entry_key, key_of}
use Rattle.json_meanings.specs.ReadingSpots.{Filled, OpenArray, OpenObject, Spot, element, entry, member, of_map, of_message}
use Rattle.json_meanings.specs.ReadingTurns.{Levels, array_opened, at_turn, give, given, in_array, in_object, named, object_opened, run, wants_value}
use Rattle.json_meanings.specs.SpotTables.{entry_at, fills, member_at, names_spot, opens_array, opens_object}
use Rattle.json_meanings.specs.declared.fault.FieldKind.{FieldKind}
use Rattle.json_meanings.proofs.TokenLemmas.{with_tokens, item_tokens, pair_tokens}

-- faults count from further left
pub behind_behind : {A : Type 0} (m n : ℕ) (r : Result A Fault) → behind m (behind n r) ≡ behind (m + n) r
behind_behind m n (Ok a) = refl
behind_behind m n (Err f) = ap (λ k. Err (k, f.1)) (sym (add_assoc m n f.0))

behind_onward : {A B : Type 0} (n : ℕ) (r : Result A Fault) (f : A → Result B Fault) → behind n (onward r f)
    ≡ onward (behind n r) (λ a. behind n (f a))
behind_onward n (Ok a) f = refl
behind_onward n (Err e) f = refl

onward_onward : {A B C : Type 0} (r : Result A Fault) (f : A → Result B Fault) (g : B → Result C Fault)
    → onward (onward r f) g ≡ onward r (λ a. onward (f a) g)
onward_onward (Ok a) f g = refl
onward_onward (Err e) f g = refl

onward_same : {A B : Type 0} (r : Result A Fault) (f g : A → Result B Fault) → ((a : A) → f a ≡ g a) → onward r f
    ≡ onward r g
onward_same (Ok a) f g same = same a
onward_same (Err e) f g same = refl

-- what is read behind so many tokens goes on from there
more : {A B : Type 0} (m : ℕ) (r : Result A Fault) (n : ℕ) (f : A → Result B Fault)
    → behind m (onward r (λ a. behind n (f a))) ≡ onward (behind m r) (λ a. behind (m + n) (f a))
more m (Ok a) n f = behind_behind m n (f a)
more m (Err e) n f = refl

-- a turn that can fail at its token alone
turn_given : {B : Type 0} (r : Result Filled FieldKind) (spot : Spot) (st : List Spot) (f : Levels → Result B Fault)
    → onward (at_once (given spot st r)) f ≡ onward (at_once r) (λ x. f (give x spot st))
turn_given (Ok x) spot st f = refl
turn_given (Err e) spot st f = refl

turn_array : {B : Type 0} (r : Result OpenArray FieldKind) (spot : Spot) (st : List Spot)
    (f : Levels → Result B Fault) → onward (at_once (array_opened spot st r)) f
    ≡ onward (at_once r) (λ a. f (at_turn (in_array a) (spot ∷ st)))
turn_array (Ok x) spot st f = refl
turn_array (Err e) spot st f = refl

turn_object : {B : Type 0} (r : Result OpenObject FieldKind) (spot : Spot) (st : List Spot)
    (f : Levels → Result B Fault) → onward (at_once (object_opened spot st r)) f
    ≡ onward (at_once r) (λ o. f (at_turn (in_object o) (spot ∷ st)))
turn_object (Ok x) spot st f = refl
turn_object (Err e) spot st f = refl

turn_named : {B : Type 0} (r : Result Spot FieldKind) (st : List Spot) (f : Levels → Result B Fault)
    → onward (at_once (named st r)) f ≡ onward (at_once r) (λ s. f (at_turn (wants_value s) st))
turn_named (Ok x) st f = refl
turn_named (Err e) st f = refl

-- a spot behind a key
abbrev pub IsNamed : Spot → Type 0
IsNamed s = (x : Filled) (st : List Spot) → give x s st ≡ at_turn (in_object (object_with s x)) st

member_same : {B : Type 0} (k : ℕ) (id : TypeId) (p : PartialMessage) (r : Result FieldForm FieldKind)
    (f g : Spot → Result B Fault) → ((s : Spot) → IsNamed s → f s ≡ g s) → onward (at_once (member_at k id p r)) f
    ≡ onward (at_once (member_at k id p r)) g
member_same k id p (Ok x) f g same = same (member k id p x) (λ y st. refl)
member_same k id p (Err e) f g same = refl

entry_same : {B : Type 0} (k : ℕ) (s : Scalar) (kind : Kind) (es : List (Key × Item)) (r : Result Key FieldKind)
    (f g : Spot → Result B Fault) → ((s : Spot) → IsNamed s → f s ≡ g s) → onward (at_once (entry_at k s kind es r)) f
    ≡ onward (at_once (entry_at k s kind es r)) g
entry_same k s kind es (Ok x) f g same = same (entry k s kind es x) (λ y st. refl)
entry_same k s kind es (Err e) f g same = refl

named_same : {B : Type 0} (c : Schema) (o : OpenObject) (t : List ℕ) (f g : Spot → Result B Fault)
    → ((s : Spot) → IsNamed s → f s ≡ g s) → onward (at_once (names_spot c o t)) f
    ≡ onward (at_once (names_spot c o t)) g
named_same c (of_message k id p) t f g same = member_same k id p (key_of (fields_of c.types id) p t) f g same
named_same c (of_map k s kind es) t f g same = entry_same k s kind es (entry_key c.types k s kind es t) f g same

-- in an array the first token of an item is taken as at the item's spot
pub item_turn : (c : Schema) (a : OpenArray) (st : List Spot) (j : Json) (ms : List Mark)
    → run c (at_turn (in_array a) st) (with_tokens j ms)
    ≡ run c (at_turn (wants_value (element a)) st) (with_tokens j ms)
item_turn c a st (literal n) ms = refl
item_turn c a st (number t) ms = refl
item_turn c a st (string t) ms = refl
item_turn c a st (array js) ms = refl
item_turn c a st (object ps) ms = refl

-- what follows a value of so many tokens that fills a spot
abbrev pub after : Schema → Spot → List Spot → ℕ → List Mark → Filled → Result Levels Fault
after c spot st n ms x = behind n (run c (give x spot st) ms)

mutual
  pub value_run : (c : Schema) (spot : Spot) (st : List Spot) (j : Json) (ms : List Mark)
      → run c (at_turn (wants_value spot) st) (with_tokens j ms) ≡ onward (value c spot j) (after c spot st (size j) ms)
  value_run c spot st (literal n) ms = turn_given (fills c spot (name n)) spot st _
  value_run c spot st (number t) ms = turn_given (fills c spot (digits t)) spot st _
  value_run c spot st (string t) ms = turn_given (fills c spot (text t)) spot st _
  value_run c spot st (array js) ms =
      turn_array (opens_array spot) spot st _
      ∙ (onward_same (at_once (opens_array spot)) _
      (λ a. onward (behind 1 (items c a js)) (after c spot st (size (array js)) ms))
      (λ a. ap (behind 1) (items_run c a spot st js ms)
      ∙ more 1 (items c a js) (items_size js) (λ x. run c (give x spot st) ms))
      ∙ sym (onward_onward (at_once (opens_array spot)) (λ a. behind 1 (items c a js))
      (after c spot st (size (array js)) ms)))
  value_run c spot st (object ps) ms =
      turn_object (opens_object c spot) spot st _
      ∙ (onward_same (at_once (opens_object c spot)) _
      (λ o. onward (behind 1 (members c o ps)) (after c spot st (size (object ps)) ms))
      (λ o. ap (behind 1) (members_run c o spot st ps ms)
      ∙ more 1 (members c o ps) (pairs_size ps) (λ x. run c (give x spot st) ms))
      ∙ sym (onward_onward (at_once (opens_object c spot)) (λ o. behind 1 (members c o ps))
      (after c spot st (size (object ps)) ms)))

  items_run : (c : Schema) (a : OpenArray) (spot : Spot) (st : List Spot) (js : Items) (ms : List Mark)
      → run c (at_turn (in_array a) (spot ∷ st)) (item_tokens js ms)
      ≡ onward (items c a js) (after c spot st (items_size js) ms)
  items_run c a spot st no_items ms = refl
  items_run c a spot st (item j js) ms =
      item_turn c a (spot ∷ st) j (item_tokens js ms)
      ∙ (value_run c (element a) (spot ∷ st) j (item_tokens js ms)
      ∙ (onward_same (value c (element a) j) _
      (λ x. onward (behind (size j) (items c (array_with a x) js)) (after c spot st (size j + items_size js) ms))
      (λ x. ap (behind (size j)) (items_run c (array_with a x) spot st js ms)
      ∙ more (size j) (items c (array_with a x) js) (items_size js) (λ y. run c (give y spot st) ms))
      ∙ sym (onward_onward (value c (element a) j) (λ x. behind (size j) (items c (array_with a x) js))
      (after c spot st (size j + items_size js) ms))))

  members_run : (c : Schema) (o : OpenObject) (spot : Spot) (st : List Spot) (ps : Pairs) (ms : List Mark)
      → run c (at_turn (in_object o) (spot ∷ st)) (pair_tokens ps ms)
      ≡ onward (members c o ps) (after c spot st (pairs_size ps) ms)
  members_run c o spot st no_pairs ms = refl
  members_run c o spot st (pair t j ps) ms =
      turn_named (names_spot c o t) (spot ∷ st) _
      ∙ (named_same c o t _
      (λ s. onward (behind 1 (onward (value c s j) (λ x. behind (size j) (members c (object_with s x) ps))))
      (after c spot st (pairs_size (pair t j ps)) ms))
      (λ s is. ap (behind 1)
      (value_run c s (spot ∷ st) j (pair_tokens ps ms)
      ∙ (onward_same (value c s j) _
      (λ x. onward (behind (size j) (members c (object_with s x) ps)) (after c spot st (size j + pairs_size ps) ms))
      (λ x. ap (behind (size j))
      (ap (λ l. run c l (pair_tokens ps ms)) (is x (spot ∷ st)) ∙ members_run c (object_with s x) spot st ps ms)
      ∙ more (size j) (members c (object_with s x) ps) (pairs_size ps) (λ y. run c (give y spot st) ms))
      ∙ sym (onward_onward (value c s j) (λ x. behind (size j) (members c (object_with s x) ps))
      (after c spot st (size j + pairs_size ps) ms))))
      ∙ more 1 (onward (value c s j) (λ x. behind (size j) (members c (object_with s x) ps))) (size j + pairs_size ps)
      (λ y. run c (give y spot st) ms))
      ∙ sym (onward_onward (at_once (names_spot c o t))
      (λ s. behind 1 (onward (value c s j) (λ x. behind (size j) (members c (object_with s x) ps))))
      (after c spot st (pairs_size (pair t j ps)) ms)))
