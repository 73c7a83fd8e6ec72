-- Faults of a binding beside the types of its method (google/api/http.proto): of the paths of its variables, of its
-- body and of its response.
use Rattle.std.specs.Prelude.{◌++◌, ◌&&◌, ◌||◌, ◌==◌, ℕ, Bool, true, false, List, [], ◌∷◌, length, codes, not, is_none, is_some}
use Rattle.std.specs.List.{list_any}
use Rattle.std.specs.Str.{bytes_eq}
use Rattle.descriptors.specs.declared.file_set.HttpInfo.{HttpInfo, out-HttpInfo}
use Rattle.http_rules.specs.Template.{joined}
use Rattle.http_rules.specs.declared.template.Template.{Template}
use Rattle.http_rules.specs.declared.template.Variable.{Variable}
use Rattle.linked_api.specs.FieldPaths.{field_named, path_numbers}
use Rattle.linked_api.specs.declared.api.MethodInfo.{MethodInfo}
use Rattle.message_types.specs.Types.{fields_of}
use Rattle.message_types.specs.declared.fields.Field.{Field}
use Rattle.message_types.specs.declared.messages.TypeId.{TypeId}
use Rattle.message_types.specs.declared.messages.Types.{Types}
use Rattle.set_faults.specs.LinkFaults.{fault_if}
use Rattle.set_faults.specs.declared.fault.LinkFault.{LinkFault}
use Rattle.set_faults.specs.declared.fault.LinkFault.TheVariants.{At}
use Rattle.set_faults.specs.declared.fault.LinkKind.TheVariants.{PathField, BodyField, ResponseField}

-- a path of names is another one, or the beginning of it
abbrev pub begins_names : List (List ℕ) → List (List ℕ) → Bool
begins_names [] q = true
begins_names (n ∷ p) [] = false
begins_names (n ∷ p) (m ∷ q) = bytes_eq n m && begins_names p q

-- the path of a variable is that of another one, or the beginning of it
abbrev pub is_beginning : Variable → List Variable → Bool
is_beginning v others = list_any (λ (w : Variable). begins_names v.path w.path) others

-- the path of a variable leads to no leaf of a type, or begins the path of another variable
abbrev pub is_bad_path : Types → TypeId → List Variable → Variable → Bool
is_bad_path types id others v = is_none (path_numbers types id v.path) || is_beginning v others

-- the fault of a variable's path: the gRPC path, and the variable's path with dots
abbrev pub path_fault : MethodInfo → Variable → LinkFault
path_fault m v = At PathField m.path (joined 46 v.path)

-- the fault of a variable among others, if it has one
abbrev pub path_faults_at : Types → MethodInfo → List Variable → Variable → List LinkFault
path_faults_at types m others v = fault_if (is_bad_path types m.input others v) (path_fault m v)

-- the faults of variables, in order, where `before` stand in front of them
abbrev pub path_faults : Types → MethodInfo → List Variable → List Variable → List LinkFault
path_faults types m before [] = []
path_faults types m before (v ∷ vs) =
    path_faults_at types m (before ++ vs) v ++ path_faults types m (before ++ v ∷ []) vs

-- a body is nothing, `*`, or the name of a field
abbrev pub is_body : List Field → List ℕ → Bool
is_body fs body = (length body == 0) || (bytes_eq body (codes "*") || is_some (field_named fs body))

-- the fault of a body
abbrev pub body_faults : Types → MethodInfo → List ℕ → List LinkFault
body_faults types m body = fault_if (not (is_body (fields_of types m.input) body)) (At BodyField m.path body)

-- a response body is nothing or the name of a field
abbrev pub is_response : List Field → List ℕ → Bool
is_response fs name = (length name == 0) || is_some (field_named fs name)

-- the fault of a response body
abbrev pub response_faults : Types → MethodInfo → List ℕ → List LinkFault
response_faults types m name =
    fault_if (not (is_response (fields_of types m.output) name)) (At ResponseField m.path name)

-- the faults of a rule with this template: of its variables in order, of its body, of its response
abbrev pub binding_faults : Types → MethodInfo → HttpInfo → Template → List LinkFault
binding_faults types m rule template =
    path_faults types m [] template.variables
    ++ (body_faults types m (out-HttpInfo rule).body ++ response_faults types m (out-HttpInfo rule).response_body)
