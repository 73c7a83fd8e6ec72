-- What is linked of a set (descriptor.proto, google/api/http.proto).
use Rattle.std.specs.Prelude.{◌≡◌, ◌+◌, ◌++◌, ℕ, List, [], ◌∷◌, map, Option, Some, None, slice_get}
use Rattle.descriptors.specs.declared.file_set.FileSet.{FileSet}
use Rattle.descriptors.specs.declared.file_set.HttpInfo.{HttpInfo, out-HttpInfo}
use Rattle.descriptors.specs.declared.file_set.PatternInfo.{PatternInfo}
use Rattle.descriptor_pool.specs.DeclaredNames.{declarations}
use Rattle.descriptor_pool.specs.DeclaredTypes.{SetTypes, types_in}
use Rattle.descriptor_pool.specs.ReachableTypes.{Joined, reachable}
use Rattle.descriptor_pool.specs.SetMethods.{BoundMethod, bound_methods, http_method, method_rules}
use Rattle.http_rules.specs.declared.template.Binding.{Binding}
use Rattle.http_rules.specs.declared.template.Template.{Template}
use Rattle.linked_api.specs.declared.api.Api.{Api}
use Rattle.linked_api.specs.declared.api.MethodInfo.{MethodInfo}
use Rattle.linked_bindings.specs.LinkedBinding.{linked_binding}
use Rattle.linked_types.specs.LinkedTypes.{linked_types, message_id}
use Rattle.message_types.specs.declared.messages.TypeId.{TypeId}
use Rattle.message_types.specs.declared.messages.Types.{Types}
use Rattle.set_faults.specs.MethodFaults.{rule_template}

-- a bound method with the ids of its input and output, where both are linked
abbrev pub method_with : BoundMethod → Option TypeId → Option TypeId → Option MethodInfo
method_with m (Some input) (Some output) = Some (record {
  path = m.path;
  input = input;
  output = output;
  client_streams = m.client_streams;
  server_streams = m.server_streams;
})
method_with m _ _ = None

-- the method that is linked of a bound one
abbrev pub linked_method : SetTypes → List Joined → BoundMethod → Option MethodInfo
linked_method types js m = method_with m (message_id types js m.input) (message_id types js m.output)

-- a rule of the method of an index
pub record NumberedRule : Type 0 where
  pub call : ℕ
  pub rule : HttpInfo

-- a rule with the index of its method
abbrev pub numbered : ℕ → HttpInfo → NumberedRule
numbered call rule = record { call = call; rule = rule }

-- the rules of methods, in order, where the first method has this index
abbrev pub numbered_rules : ℕ → List BoundMethod → List NumberedRule
numbered_rules call [] = []
numbered_rules call (m ∷ ms) = map (numbered call) (method_rules m) ++ numbered_rules (call + 1) ms

-- the binding of a rule that has a pattern and a template, of a method that is linked
abbrev pub binding_of : Types → ℕ → HttpInfo → Option MethodInfo → Option PatternInfo → Option Template → Option Binding
binding_of types call rule (Some method) (Some pattern) (Some template) =
    linked_binding types method call (http_method pattern) rule template
binding_of types call rule _ _ _ = None

-- the binding that is linked of a rule
abbrev pub rule_binding : Types → List MethodInfo → NumberedRule → Option Binding
rule_binding types methods r =
    binding_of types r.call r.rule (slice_get methods r.call) (out-HttpInfo r.rule).pattern (rule_template r.rule)

-- an API is what is linked of methods and of the messages that they reach: each method, and a binding of each rule
pub record IsApiOf (types : SetTypes) (ms : List BoundMethod) (api : Api) : Type 0 where
  pub types_are : linked_types types (reachable types ms) ≡ Some api.types
  pub methods_are : map (λ m. Some m) api.methods ≡ map (linked_method types (reachable types ms)) ms
  pub bindings_are : map (λ b. Some b) api.bindings ≡ map (rule_binding api.types api.methods) (numbered_rules 0 ms)

-- an API is what is linked of a set
abbrev pub IsSetApi : FileSet → Api → Type 0
IsSetApi set api = IsApiOf (types_in (declarations set)) (bound_methods set) api
