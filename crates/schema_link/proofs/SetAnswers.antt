-- What is answered to a set whose size and names have no fault.
use Rattle.std.proofs.Common.{false, ◌≡◌, ◌<◌, ◌≤◌, ◌++◌, ◌^◌, List, [], length, nat_lt, count_by, IfOk, Result, Ok, Err, sym, ap, subst, ◌∙◌, arith}
use Rattle.std.proofs.lemmas.Bool.Decides.{nat_tests}
use Rattle.std.specs.List.{flat_map}
use Rattle.descriptors.specs.declared.file_set.FileSet.{FileSet}
use Rattle.descriptor_pool.specs.DeclaredNames.{Declaration, declarations, is_type}
use Rattle.descriptor_pool.specs.DeclaredTypes.{SetTypes, message_in, types_in}
use Rattle.descriptor_pool.specs.ReachableTypes.{reachable}
use Rattle.descriptor_pool.specs.SetMethods.{BoundMethod, bound_methods}
use Rattle.linked_api.specs.declared.api.Api.{Api}
use Rattle.schema_link.specs.LinkAnswers.{IsLinkOf, faults, late_faults}
use Rattle.schema_link.specs.SetApi.{IsApiOf}
use Rattle.set_faults.proofs.Theorems.{none_parts, test_fails}
use Rattle.set_faults.specs.LinkFaults.{IsFirstOf}
use Rattle.set_faults.specs.NameFaults.{double_names, too_many}
use Rattle.set_faults.specs.SetFaults.{all_faults, reaching_faults}
use Rattle.set_faults.specs.declared.fault.LinkFault.{LinkFault}
use Rattle.schema_link.proofs.ReadySets.{taken_len, types_len}

-- few messages are reached of a set of a lawful size
pub few_reached : (ds : List Declaration) (ms : List BoundMethod) → too_many ds ms ≡ []
    → length (reachable (types_in ds) ms) < 2 ^ 32
few_reached ds ms h =
    let test : nat_lt 10000 (count_by is_type ds)
    ≡ false = test_fails (nat_lt 10000 (count_by is_type ds)) _ (none_parts _ _ h).0 in
    let count : count_by is_type ds ≤ 10000 = grind (arith, nat_tests, test) in
    let split = types_len ds in
    let reach = taken_len (types_in ds) ms (length (flat_map message_in ds)) in
    omega (arith, count, split, reach)

-- declarations whose size and names have no fault have those of their methods and of what these reach
pub rest_is : (ds : List Declaration) (ms : List BoundMethod) → too_many ds ms ≡ [] → double_names ds ≡ []
    → all_faults ds ms ≡ reaching_faults (types_in ds) ms
rest_is ds ms size names =
    ap (λ z. z ++ (double_names ds ++ reaching_faults (types_in ds) ms)) size
    ∙ ap (λ z. z ++ reaching_faults (types_in ds) ms) names

-- the answer to declarations with methods and types is that to their set
pub set_answer : (set : FileSet) (ds : List Declaration) (ms : List BoundMethod) (types : SetTypes)
    (r : Result Api LinkFault)
    → ds ≡ declarations set → ms ≡ bound_methods set → types ≡ types_in ds → too_many ds ms ≡ [] → double_names ds ≡ []
    → IsFirstOf r (reaching_faults types ms ++ late_faults types ms) → IfOk r (IsApiOf types ms) → IsLinkOf set r
set_answer set ds ms types r declared bound typed size names first api = pick r moved own
  where
    here : reaching_faults types ms ++ late_faults types ms ≡ faults set
    here =
        ap (λ t. reaching_faults t ms ++ late_faults t ms) typed
        ∙ ap (λ z. z ++ late_faults (types_in ds) ms) (sym (rest_is ds ms size names))
        ∙ ap (λ z. all_faults z ms ++ late_faults (types_in z) ms) declared
        ∙ ap (λ z. all_faults (declarations set) z ++ late_faults (types_in (declarations set)) z) bound

    moved : IsFirstOf r (faults set)
    moved = subst (IsFirstOf r) here first

    own : IfOk r (IsApiOf (types_in (declarations set)) (bound_methods set))
    own = subst (λ t. IfOk r (IsApiOf t (bound_methods set))) (typed ∙ ap types_in declared)
        (subst (λ z. IfOk r (IsApiOf types z)) bound api)

    pick : (s : Result Api LinkFault) → IsFirstOf s (faults set)
        → IfOk s (IsApiOf (types_in (declarations set)) (bound_methods set)) → IsLinkOf set s
    pick (Ok a) f g = (f, g)
    pick (Err e) f g = f
