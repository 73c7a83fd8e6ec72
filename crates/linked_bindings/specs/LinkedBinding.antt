-- The binding that is linked of a rule (google/api/http.proto, HttpRule).
use Rattle.std.specs.Prelude.{◌==◌, ℕ, List, [], ◌∷◌, length, codes, Option, Some, None, if◌then◌else◌, option_map}
use Rattle.std.specs.Str.{bytes_eq}
use Rattle.descriptors.specs.declared.file_set.HttpInfo.{HttpInfo, out-HttpInfo}
use Rattle.http_rules.specs.declared.template.Binding.{Binding}
use Rattle.http_rules.specs.declared.template.Body.{Body}
use Rattle.http_rules.specs.declared.template.Body.TheVariants.{Nothing, Whole, Part}
use Rattle.http_rules.specs.declared.template.Template.{Template}
use Rattle.http_rules.specs.declared.template.Variable.{Variable}
use Rattle.linked_api.specs.FieldPaths.{field_named, path_numbers}
use Rattle.linked_api.specs.declared.api.MethodInfo.{MethodInfo}
use Rattle.message_types.specs.Types.{fields_of}
use Rattle.message_types.specs.declared.fields.Field.{Field}
use Rattle.message_types.specs.declared.messages.TypeId.{TypeId}
use Rattle.message_types.specs.declared.messages.Types.{Types}

-- a list with an item in front, where both are
abbrev pub with_first : {A : Type 0} → Option A → Option (List A) → Option (List A)
with_first (Some x) (Some xs) = Some (x ∷ xs)
with_first _ _ = None

-- for each variable the numbers of the fields of its path, if each leads to a leaf
abbrev pub paths_of : Types → TypeId → List Variable → Option (List (List ℕ))
paths_of types id [] = Some []
paths_of types id (v ∷ vs) = with_first (path_numbers types id v.path) (paths_of types id vs)

-- the number of the field of a name
abbrev pub number_named : List Field → List ℕ → Option ℕ
number_named fs name = option_map (λ (f : Field). f.number) (field_named fs name)

-- what a body is: nothing, the whole message, or a field
abbrev pub body_of : List Field → List ℕ → Option Body
body_of fs body =
    if length body == 0 then Some Nothing
    else (if bytes_eq body (codes "*") then Some Whole else option_map (λ n. Part n) (number_named fs body))

-- what a response is: the whole message, or a field
abbrev pub response_of : List Field → List ℕ → Option (Option ℕ)
response_of fs name = if length name == 0 then Some None else option_map (λ n. Some n) (number_named fs name)

-- a binding of these parts, where each is
abbrev pub binding_with : List ℕ → ℕ → Template → Option (List (List ℕ)) → Option Body → Option (Option ℕ)
    → Option Binding
binding_with method call template (Some paths) (Some body) (Some response) = Some (record {
  method = method;
  template = template;
  paths = paths;
  body = body;
  response = response;
  call = call;
})
binding_with method call template _ _ _ = None

-- the binding of a rule with this HTTP method and this template, of the method of an index
abbrev pub linked_binding : Types → MethodInfo → ℕ → List ℕ → HttpInfo → Template → Option Binding
linked_binding types m call method rule template =
    binding_with method call template (paths_of types m.input template.variables)
    (body_of (fields_of types m.input) (out-HttpInfo rule).body)
    (response_of (fields_of types m.output) (out-HttpInfo rule).response_body)
