-- A set without faults is lawful.
use Rattle.std.proofs.Common.{◌≡◌, ◌≢◌, ◌≤◌, ℕ, List, [], ◌∷◌, length, map, count_by, nat_lt, codes, refl}
use Rattle.std.proofs.lemmas.Bool.{ltb-false}
use Rattle.std.specs.Set.{distinct_count}
use Rattle.std.specs.Str.{bytes_eq}
use Rattle.descriptor_pool.specs.DeclaredNames.{Declaration, is_type, name_of}
use Rattle.descriptor_pool.specs.DeclaredTypes.{types_in}
use Rattle.descriptor_pool.specs.ReachableTypes.{reachable}
use Rattle.descriptor_pool.specs.SetMethods.{BoundMethod, all_rules, rule_methods}
use Rattle.set_faults.specs.LawfulSets.{IsLawfulSet}
use Rattle.set_faults.specs.LinkFaults.{fault_if}
use Rattle.set_faults.specs.MessageFaults.{reached_faults}
use Rattle.set_faults.specs.MethodFaults.{methods_faults}
use Rattle.set_faults.specs.NameFaults.{double_names, doubled, no_route, too_many}
use Rattle.set_faults.specs.SetFaults.{all_faults, reaching_faults}
use Rattle.set_faults.specs.declared.fault.LinkFault.TheVariants.{At}
use Rattle.set_faults.specs.declared.fault.LinkKind.TheVariants.{DoubleName, TooMany}
use Rattle.set_faults.proofs.LawfulMessages.{reached_lawful}
use Rattle.set_faults.proofs.LawfulMethods.{HttpLaws, methods_lawful}
use Rattle.set_faults.proofs.LawfulNames.{names_apart}
use Rattle.set_faults.proofs.Theorems.{none_parts, test_fails}

nothing_named : {X Y : Type 0} (f : X → Y) (xs : List X) → map f xs ≡ [] → xs ≡ []
nothing_named f [] h = refl
nothing_named f (x ∷ xs) h = absurd (cc h)

some_method : (ms : List BoundMethod) → no_route ms ≡ [] → ms ≢ []
some_method [] h e = absurd (cc h)
some_method (m ∷ ms) h e = cc e

-- where a number is not over a bound, it is at most that
at_most : (bound n : ℕ) (name : List ℕ) → fault_if (nat_lt bound n) (At TooMany name []) ≡ [] → n ≤ bound
at_most bound n name h = ltb-false bound n (test_fails (nat_lt bound n) (At TooMany name []) h)

-- a set without faults is lawful
pub set_lawful : HttpLaws → (ds : List Declaration) (ms : List BoundMethod) → all_faults ds ms ≡ [] → IsLawfulSet ds ms
set_lawful law ds ms h =
    let types = types_in ds in
    let rules = all_rules ms in
    let size = none_parts (too_many ds ms) _ h in
    let counted = none_parts (fault_if (nat_lt 10000 (count_by is_type ds)) (At TooMany (codes "types") [])) _ size.0 in
    let distinct = distinct_count bytes_eq (rule_methods rules) in
    let methods = fault_if (nat_lt 64 distinct) (At TooMany (codes "methods") []) in
    let few = fault_if (nat_lt 10000 (length rules)) (At TooMany (codes "bindings") []) in
    let bound = none_parts few methods counted.1 in
    let names = none_parts (double_names ds) (reaching_faults types ms) size.1 in
    let apart = names_apart ds (nothing_named (λ d. At DoubleName (name_of d) []) (doubled [] ds) names.0) in
    let route = none_parts (no_route ms) _ names.1 in
    let reaching = none_parts (methods_faults types ms) (reached_faults types (reachable types ms)) route.1 in
    record {
      few_types = at_most 10000 (count_by is_type ds) (codes "types") counted.0;
      few_bindings = at_most 10000 (length rules) (codes "bindings") bound.0;
      few_methods = at_most 64 distinct (codes "methods") bound.1;
      files = apart.0;
      names = apart.1;
      some_method = some_method ms route.0;
      methods = methods_lawful law types ms reaching.0;
      messages = reached_lawful types (reachable types ms) reaching.1;
    }
