-- A lawful set has no faults.
use Rattle.std.proofs.Common.{◌≡◌, ◌≢◌, ◌≤◌, ℕ, List, [], ◌∷◌, length, map, count_by, nat_lt, codes, refl, ap}
use Rattle.std.proofs.lemmas.Bool.{le-ltb}
use Rattle.std.specs.Set.{distinct_count}
use Rattle.std.specs.Str.{bytes_eq}
use Rattle.descriptor_pool.specs.DeclaredNames.{Declaration, is_type, name_of}
use Rattle.descriptor_pool.specs.DeclaredTypes.{types_in}
use Rattle.descriptor_pool.specs.ReachableTypes.{reachable}
use Rattle.descriptor_pool.specs.SetMethods.{BoundMethod, all_rules, rule_methods}
use Rattle.set_faults.specs.LawfulSets.{IsLawfulSet}
use Rattle.set_faults.specs.LinkFaults.{fault_if}
use Rattle.set_faults.specs.NameFaults.{no_route}
use Rattle.set_faults.specs.SetFaults.{all_faults}
use Rattle.set_faults.specs.declared.fault.LinkFault.TheVariants.{At}
use Rattle.set_faults.specs.declared.fault.LinkKind.TheVariants.{DoubleName, TooMany}
use Rattle.set_faults.proofs.FaultlessMessages.{no_reached_faults}
use Rattle.set_faults.proofs.FaultlessMethods.{no_methods_faults}
use Rattle.set_faults.proofs.LawfulNames.{undoubled}
use Rattle.set_faults.proofs.NoFaultLemmas.{no_fault, none_both}

has_method : (ms : List BoundMethod) → ms ≢ [] → no_route ms ≡ []
has_method [] h = absurd (h refl)
has_method (m ∷ ms) h = refl

not_over : (bound n : ℕ) (name : List ℕ) → n ≤ bound → fault_if (nat_lt bound n) (At TooMany name []) ≡ []
not_over bound n name h = no_fault (nat_lt bound n) (At TooMany name []) (le-ltb bound n h)

-- a lawful set has no faults
pub no_set_faults : (ds : List Declaration) (ms : List BoundMethod) → IsLawfulSet ds ms → all_faults ds ms ≡ []
no_set_faults ds ms l =
    let types = types_in ds in
    let rules = all_rules ms in
    let distinct = distinct_count bytes_eq (rule_methods rules) in
    let size = none_both (not_over 10000 (count_by is_type ds) (codes "types") l.few_types)
    (none_both (not_over 10000 (length rules) (codes "bindings") l.few_bindings)
    (not_over 64 distinct (codes "methods") l.few_methods)) in
    let reached = no_reached_faults types (reachable types ms) l.messages in
    none_both size
    (none_both (ap (map (λ d. At DoubleName (name_of d) [])) (undoubled ds l.files l.names))
    (none_both (has_method ms l.some_method) (none_both (no_methods_faults types ms l.methods) reached)))
