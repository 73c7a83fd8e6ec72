-- The inputs and outputs of bound methods have ids of linked messages.
use Rattle.std.proofs.Common.{◌≡◌, ℕ, List, Some, IsSome, ap, ◌∙◌, option_and_then, option_map}
use Rattle.std.proofs.lemmas.Option.{slice_get_within}
use Rattle.std.specs.List.{AllByRecursion}
use Rattle.base.proofs.EachLemmas.{each_weaker}
use Rattle.descriptor_pool.specs.DeclaredTypes.{SetTypes, message_named}
use Rattle.descriptor_pool.specs.ReachableTypes.{messages_of, reachable}
use Rattle.descriptor_pool.specs.ReachedClosure.{HaveRoots, IsAmong, IsReachClosed}
use Rattle.descriptor_pool.specs.SetMethods.{BoundMethod}
use Rattle.message_types.specs.declared.messages.TypeId.{TypeId}
use Rattle.message_types.specs.declared.messages.Types.{Types}
use Rattle.linked_types.specs.FoundNames.{HasIdIn, HasIds}
use Rattle.linked_types.specs.LinkedTypes.{linked_types, message_id}
use Rattle.linked_types.proofs.EachSomeLemmas.{some_value}
use Rattle.linked_types.proofs.IndexLemmas.{index_some}
use Rattle.linked_types.proofs.LinkedParts.{message_place}
use Rattle.linked_types.proofs.NamedTypes.{names_found}

module _ (types : SetTypes) (ms : List BoundMethod) (t : Types)
    (linked : linked_types types (reachable types ms) ≡ Some t) where
  has_id : (type_name : List ℕ) → ((i : ℕ) → message_named types type_name ≡ Some i
      → IsAmong (messages_of (reachable types ms)) i)
      → IsSome (message_named types type_name) → HasIdIn types (reachable types ms) t type_name
  has_id type_name among some =
      let js = reachable types ms in
      let index = some_value (message_named types type_name) some in
      let place = some_value (message_place js index.0)
      (index_some 0 (messages_of js) index.0 (among index.0 index.1)) in
      let id : TypeId = record { 0 = place.0 } in
      let is : message_id types js type_name ≡ Some id =
      ap (λ o. option_map (λ i. record { 0 = i }) (option_and_then (message_place js) o)) index.1
      ∙ ap (λ o. option_map (λ i. record { 0 = i }) o) place.1 in
      let found = (names_found types js t linked).ids type_name id is in
      record {
        id = id;
        id_is = is;
        within = slice_get_within t.messages id.0 found.message found.message_is;
      }

  -- where they name messages
  pub ids_in : IsReachClosed types ms → AllByRecursion (HasIds types (reachable types ms) t) ms
  ids_in closed =
      each_weaker (HaveRoots types (IsAmong (messages_of (reachable types ms)))) (HasIds types (reachable types ms) t)
      (λ (m : BoundMethod) roots. record { input = has_id m.input roots.0; output = has_id m.output roots.1 })
      ms closed.roots
