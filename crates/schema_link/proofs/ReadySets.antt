-- No look-up fails in linking where a set is lawful.
use Rattle.std.proofs.Common.{◌≡◌, ◌≤◌, ◌+◌, ℕ, zero, suc, cond, List, [], ◌∷◌, length, map, Some, IsSome, count_by, length-append, refl, sym, arith, rules}
use Rattle.std.proofs.lemmas.List.{length-take}
use Rattle.std.proofs.lemmas.List.Sums.{sum_by-cons}
use Rattle.std.specs.List.{AllByRecursion, flat_map}
use Rattle.base.proofs.EachLemmas.{each_both, each_weaker}
use Rattle.descriptor_pool.specs.DeclaredNames.{Declaration, File, Message, Enum, Service, Extension, is_type}
use Rattle.descriptor_pool.specs.DeclaredTypes.{SetTypes, enum_in, message_in, types_in}
use Rattle.descriptor_pool.specs.ReachableTypes.{once, queue, reachable, taken}
use Rattle.descriptor_pool.specs.SetMethods.{BoundMethod, additional_rules, all_rules, method_rules}
use Rattle.linked_types.specs.FoundNames.{HasIds}
use Rattle.linked_types.specs.LinkableTypes.{AreLinkable}
use Rattle.linked_types.specs.LinkedTypes.{linked_types}
use Rattle.message_types.specs.declared.messages.Types.{Types}
use Rattle.schema_link.specs.LinkSteps.{IsReady}
use Rattle.schema_link.specs.SetApi.{linked_method}
use Rattle.set_faults.specs.LawfulSets.{IsLawfulMethod, IsLawfulSet}
use Rattle.set_faults.specs.MessageFaults.{reached_faults}
use Rattle.set_faults.specs.MethodFaults.{methods_faults, rule_template, templates_of}
use Rattle.set_faults.specs.NameFaults.{double_names, no_route, too_many}
use Rattle.set_faults.specs.SetFaults.{all_faults}
use Rattle.schema_link.proofs.LawfulTypes.{lawful_linkable, there}
use Rattle.schema_link.proofs.LinkedSets.{method_there}
use Rattle.set_faults.proofs.Theorems.{none_parts}

-- as many messages and enums are declared as there are
pub types_len : (ds : List Declaration) → count_by is_type ds
    ≡ length (flat_map message_in ds) + length (flat_map enum_in ds)
types_len [] = refl
types_len (File n ∷ ds) = types_len ds
types_len (Message m ∷ ds) =
    let h = types_len ds in
    let one : count_by is_type (Message m ∷ ds)
    ≡ 1 + count_by is_type ds = sum_by-cons (λ x. cond (is_type x) 1 0) (Message m) ds in
    let more : length (flat_map message_in (Message m ∷ ds)) ≡ length (flat_map message_in ds) + 1 = search rules in
    let same : length (flat_map enum_in (Message m ∷ ds)) ≡ length (flat_map enum_in ds) = refl in
    omega (arith, h, one, more, same)
types_len (Enum e ∷ ds) =
    let h = types_len ds in
    let one : count_by is_type (Enum e ∷ ds)
    ≡ 1 + count_by is_type ds = sum_by-cons (λ x. cond (is_type x) 1 0) (Enum e) ds in
    let more : length (flat_map enum_in (Enum e ∷ ds)) ≡ length (flat_map enum_in ds) + 1 = search rules in
    let same : length (flat_map message_in (Enum e ∷ ds)) ≡ length (flat_map message_in ds) = refl in
    omega (arith, h, one, more, same)
types_len (Service n ∷ ds) = types_len ds
types_len (Extension n ∷ ds) = types_len ds

-- no more are taken than asked for
pub taken_len : (types : SetTypes) (ms : List BoundMethod) (n : ℕ) → length (taken types ms n) ≤ n
taken_len types ms zero = omega arith
taken_len types ms (suc n) = omega (arith, length-take (suc n) (once (queue types ms (taken types ms n))))

-- each method has a rule
rules_len : (ms : List BoundMethod) → length ms ≤ length (all_rules ms)
rules_len [] = omega arith
rules_len (m ∷ ms) =
    let h = rules_len ms in
    let more : length (all_rules (m ∷ ms))
    ≡ length (method_rules m) + length (all_rules ms) = length-append (method_rules m) (all_rules ms) in
    let one : length (method_rules m) ≡ suc (length (additional_rules m.rule)) = refl in
    omega (arith, h, more, one)

-- methods of a set without faults have none
pub methods_none : (ds : List Declaration) (ms : List BoundMethod) → all_faults ds ms ≡ []
    → methods_faults (types_in ds) ms ≡ []
methods_none ds ms h =
    let size = none_parts (too_many ds ms) _ h in
    let names = none_parts (double_names ds) _ size.1 in
    let route = none_parts (no_route ms) _ names.1 in
    (none_parts (methods_faults (types_in ds) ms) (reached_faults (types_in ds) (reachable (types_in ds) ms)) route.1).0

-- no look-up fails in linking of a lawful set whose rules have templates, by the laws of the crates below
pub set_ready : ((types : SetTypes) (ms : List BoundMethod) → AreLinkable types (reachable types ms)
    → IsSome (linked_types types (reachable types ms)))
    → ((types : SetTypes) (ms : List BoundMethod) (t : Types) → linked_types types (reachable types ms) ≡ Some t
    → AllByRecursion (HasIds types (reachable types ms) t) ms)
    → (ds : List Declaration) (ms : List BoundMethod) → IsLawfulSet ds ms
    → map rule_template (all_rules ms) ≡ map (λ t. Some t) (templates_of (all_rules ms)) → IsReady (types_in ds) ms
set_ready linkable ids ds ms lawful templates =
    let types = types_in ds in
    let js = reachable types ms in
    let split = types_len ds in
    let reach = taken_len types ms (length (flat_map message_in ds)) in
    let few = lawful.few_types in
    let bindings = lawful.few_bindings in
    let methods = rules_len ms in
    let some = linkable types ms (lawful_linkable types js lawful.messages) in
    let linked = there (linked_types types js) some in
    record {
      few_messages = omega (arith, few, split, reach);
      few_enums = omega (arith, few, split);
      few_methods = omega (arith, bindings, methods);
      types_linked = some;
      methods_linked = each_weaker (λ m. IsLawfulMethod types m × HasIds types js linked.0 m)
          (λ m. IsSome (linked_method types js m))
          (method_there types js linked.0) ms
          (each_both (IsLawfulMethod types) (HasIds types js linked.0) ms lawful.methods
          (ids types ms linked.0 linked.1));
      templates = sym templates;
    }
