-- The faults of a set, in the order in which they count, and what is answered to it.
use Rattle.std.specs.Prelude.{◌≡◌, ◌++◌, List, [], ◌∷◌, Option, Some, None, Result, Ok, Err, slice_get}
use Rattle.std.specs.List.{flat_map}
use Rattle.descriptors.specs.declared.file_set.FileSet.{FileSet}
use Rattle.descriptor_pool.specs.DeclaredNames.{declarations}
use Rattle.descriptor_pool.specs.DeclaredTypes.{SetTypes, types_in}
use Rattle.descriptor_pool.specs.ReachableTypes.{reachable}
use Rattle.descriptor_pool.specs.SetMethods.{BoundMethod, bound_methods}
use Rattle.descriptors.specs.declared.file_set.HttpInfo.{HttpInfo}
use Rattle.http_rules.specs.Routes.{repeated_routes}
use Rattle.http_rules.specs.declared.template.Binding.{Binding}
use Rattle.http_rules.specs.declared.template.Template.{Template}
use Rattle.linked_api.specs.declared.api.Api.{Api}
use Rattle.linked_api.specs.declared.api.MethodInfo.{MethodInfo}
use Rattle.linked_bindings.specs.BindingFaults.{binding_faults}
use Rattle.linked_types.specs.EachSome.{each_some}
use Rattle.linked_types.specs.LinkedTypes.{linked_types}
use Rattle.message_types.specs.declared.messages.Types.{Types}
use Rattle.schema_link.specs.SetApi.{IsSetApi, NumberedRule, linked_method, numbered_rules, rule_binding}
use Rattle.set_faults.specs.LinkFaults.{IsFirst}
use Rattle.set_faults.specs.MethodFaults.{rule_template}
use Rattle.set_faults.specs.SetFaults.{faults as declared_faults}
use Rattle.set_faults.specs.declared.fault.LinkFault.{LinkFault}
use Rattle.set_faults.specs.declared.fault.LinkFault.TheVariants.{At}
use Rattle.set_faults.specs.declared.fault.LinkKind.TheVariants.{SameRoute}

-- the faults of a rule that has a template, beside the linked types of its method
abbrev pub faults_of : Types → HttpInfo → Option MethodInfo → Option Template → List LinkFault
faults_of linked rule (Some method) (Some template) = binding_faults linked method rule template
faults_of linked rule _ _ = []

-- the faults of a rule of one of these methods
abbrev pub linked_rule_faults : Types → List MethodInfo → NumberedRule → List LinkFault
linked_rule_faults linked methods r = faults_of linked r.rule (slice_get methods r.call) (rule_template r.rule)

-- the faults of rules, in order
abbrev pub bindings_faults : Types → List MethodInfo → List NumberedRule → List LinkFault
bindings_faults linked methods rules = flat_map (linked_rule_faults linked methods) rules

-- the fault of a binding that is the route of an earlier one: the gRPC paths of both
abbrev pub route_fault : Option MethodInfo → Option MethodInfo → List LinkFault
route_fault (Some earlier) (Some later) = At SameRoute earlier.path later.path ∷ []
route_fault _ _ = []

-- the faults of bindings that are the routes of earlier ones, in order: each beside the earliest
abbrev pub route_faults : List MethodInfo → List Binding → List LinkFault
route_faults methods bs =
    flat_map (λ p. route_fault (slice_get methods p.0.call) (slice_get methods p.1.call)) (repeated_routes bs)

-- the faults of bindings beside one another, where each rule is linked
abbrev pub equal_routes : List MethodInfo → Option (List Binding) → List LinkFault
equal_routes methods None = []
equal_routes methods (Some bs) = route_faults methods bs

-- the faults that are seen once types and methods are linked: of each binding, then of bindings beside one another
abbrev pub linked_faults : List MethodInfo → List NumberedRule → Types → List LinkFault
linked_faults methods rules linked =
    bindings_faults linked methods rules ++ equal_routes methods (each_some (rule_binding linked methods) rules)

-- the same, where types and methods are linked
abbrev pub late_of : List NumberedRule → Option Types → Option (List MethodInfo) → List LinkFault
late_of rules (Some linked) (Some methods) = linked_faults methods rules linked
late_of rules _ _ = []

-- the same of the types and methods that are linked of bound ones
abbrev pub late_faults : SetTypes → List BoundMethod → List LinkFault
late_faults types ms =
    late_of (numbered_rules 0 ms) (linked_types types (reachable types ms))
    (each_some (linked_method types (reachable types ms)) ms)

-- the faults of a set: of what is declared, then of what is linked of it
abbrev pub faults : FileSet → List LinkFault
faults set = declared_faults set ++ late_faults (types_in (declarations set)) (bound_methods set)

-- an answer for a set: what is linked of it, where it has no fault; else its first fault
abbrev pub IsLinkOf : FileSet → Result Api LinkFault → Type 0
IsLinkOf set (Ok api) = (faults set ≡ []) × IsSetApi set api
IsLinkOf set (Err fault) = IsFirst fault (faults set)
