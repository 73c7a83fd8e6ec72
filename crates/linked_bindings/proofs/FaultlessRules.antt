-- The faults of a rule: where there is none a binding is linked, and the other way where no path begins another.
use Rattle.std.proofs.Common.{◌≡◌, ◌||◌, ◌++◌, ◌==◌, ℕ, Bool, true, false, cond, List, [], ◌∷◌, length, codes, not, Option, Some, None, IsSome, is_some, option_map, refl, sym, ap, ◌∙◌}
use Rattle.std.specs.Str.{bytes_eq}
use Rattle.descriptors.specs.declared.file_set.HttpInfo.{HttpInfo, out-HttpInfo}
use Rattle.http_rules.specs.declared.template.Body.{Body}
use Rattle.http_rules.specs.declared.template.Body.TheVariants.{Nothing, Whole, Part}
use Rattle.http_rules.specs.declared.template.Template.{Template}
use Rattle.linked_api.specs.FieldPaths.{field_named}
use Rattle.linked_api.specs.declared.api.MethodInfo.{MethodInfo}
use Rattle.message_types.specs.Types.{fields_of}
use Rattle.message_types.specs.declared.fields.Field.{Field}
use Rattle.message_types.specs.declared.messages.Types.{Types}
use Rattle.schema.specs.Apart.{AreApart}
use Rattle.set_faults.proofs.Theorems.{none_parts, none_more, test_holds}
use Rattle.set_faults.specs.LinkFaults.{fault_if}
use Rattle.set_faults.specs.declared.fault.LinkFault.{LinkFault}
use Rattle.set_faults.specs.declared.fault.LinkFault.TheVariants.{At}
use Rattle.set_faults.specs.declared.fault.LinkKind.TheVariants.{BodyField, ResponseField}
use Rattle.linked_bindings.specs.BindingFaults.{binding_faults, body_faults, is_body, is_response, path_faults, response_faults}
use Rattle.linked_bindings.specs.LinkedBinding.{binding_with, body_of, linked_binding, paths_of, response_of}
use Rattle.linked_bindings.specs.RuleBindings.{paths_overlap}
use Rattle.linked_bindings.proofs.PathFaults.{apart_faultless, none_before, numbers_there, paths_apart}

-- a test that holds has no fault where it is turned round
no_fault_held : (b : Bool) (f : LinkFault) → b ≡ true → fault_if (not b) f ≡ []
no_fault_held b f h = ap (λ (x : Bool). cond (not x) (f ∷ []) []) h

-- a body is one exactly where something is read of it
body_is : (a b : Bool) (o : Option Field)
    → is_some (cond a (Some Nothing)
    (cond b (Some Whole) (option_map (λ n. Part n) (option_map (λ (f : Field). f.number) o))))
    ≡ (a || (b || is_some o))
body_is true b o = refl
body_is false true o = refl
body_is false false None = refl
body_is false false (Some f) = refl

-- the test of a body is whether something is read of it
pub body_read : (fs : List Field) (body : List ℕ) → is_some (body_of fs body) ≡ is_body fs body
body_read fs body = body_is (length body == 0) (bytes_eq body (codes "*")) (field_named fs body)

-- a response is one exactly where something is read of it
response_is : (a : Bool) (o : Option Field)
    → is_some (cond a (Some None) (option_map (λ n. Some n) (option_map (λ (f : Field). f.number) o)))
    ≡ (a || is_some o)
response_is true o = refl
response_is false None = refl
response_is false (Some f) = refl

-- and so is that of a response
pub response_read : (fs : List Field) (name : List ℕ) → is_some (response_of fs name) ≡ is_response fs name
response_read fs name = response_is (length name == 0) (field_named fs name)

-- a binding is there where its parts are
pub parts_there : (method : List ℕ) (call : ℕ) (t : Template) (ps : Option (List (List ℕ))) (body : Option Body)
    (response : Option (Option ℕ)) → IsSome ps → IsSome body → IsSome response
    → IsSome (binding_with method call t ps body response)
parts_there method call t None body response h k l = absurd (cc h)
parts_there method call t (Some ps) None response h k l = absurd (cc k)
parts_there method call t (Some ps) (Some body) None h k l = absurd (cc l)
parts_there method call t (Some ps) (Some body) (Some response) h k l = refl

-- and only there
pub there_parts : (method : List ℕ) (call : ℕ) (t : Template) (ps : Option (List (List ℕ))) (body : Option Body)
    (response : Option (Option ℕ)) → IsSome (binding_with method call t ps body response)
    → IsSome ps × IsSome body × IsSome response
there_parts method call t None body response h = absurd (cc h)
there_parts method call t (Some ps) None response h = absurd (cc h)
there_parts method call t (Some ps) (Some body) None h = absurd (cc h)
there_parts method call t (Some ps) (Some body) (Some response) h = (refl, refl, refl)

-- a binding is linked of a rule without faults
pub faultless_linked : (types : Types) (m : MethodInfo) (call : ℕ) (method : List ℕ) (rule : HttpInfo) (t : Template)
    → binding_faults types m rule t ≡ [] → IsSome (linked_binding types m call method rule t)
faultless_linked types m call method rule t h =
    let body = (out-HttpInfo rule).body in
    let name = (out-HttpInfo rule).response_body in
    let parts = none_parts (path_faults types m [] t.variables) _ h in
    let rest = none_parts (body_faults types m body) (response_faults types m name) parts.1 in
    parts_there method call t (paths_of types m.input t.variables) (body_of (fields_of types m.input) body)
    (response_of (fields_of types m.output) name) (numbers_there types m [] t.variables parts.0)
    (body_read (fields_of types m.input) body
    ∙ test_holds (is_body (fields_of types m.input) body) (At BodyField m.path body) rest.0)
    (response_read (fields_of types m.output) name
    ∙ test_holds (is_response (fields_of types m.output) name) (At ResponseField m.path name) rest.1)

-- a rule of which a binding is linked has no fault, where no path begins another
pub linked_faultless : (types : Types) (m : MethodInfo) (call : ℕ) (method : List ℕ) (rule : HttpInfo) (t : Template)
    → AreApart paths_overlap t.variables → IsSome (linked_binding types m call method rule t)
    → binding_faults types m rule t ≡ []
linked_faultless types m call method rule t apart h =
    let body = (out-HttpInfo rule).body in
    let name = (out-HttpInfo rule).response_body in
    let parts = there_parts method call t (paths_of types m.input t.variables) (body_of (fields_of types m.input) body)
    (response_of (fields_of types m.output) name) h in
    none_more (path_faults types m [] t.variables) (body_faults types m body ++ response_faults types m name)
    (apart_faultless types m [] t.variables apart (none_before t.variables) parts.0)
    (none_more (body_faults types m body) (response_faults types m name)
    (no_fault_held (is_body (fields_of types m.input) body) (At BodyField m.path body)
    (sym (body_read (fields_of types m.input) body) ∙ parts.1))
    (no_fault_held (is_response (fields_of types m.output) name) (At ResponseField m.path name)
    (sym (response_read (fields_of types m.output) name) ∙ parts.2)))

-- no path begins another in a rule without faults
pub faultless_apart : (types : Types) (m : MethodInfo) (rule : HttpInfo) (t : Template)
    → binding_faults types m rule t ≡ [] → AreApart paths_overlap t.variables
faultless_apart types m rule t h =
    (paths_apart types m [] t.variables (none_parts (path_faults types m [] t.variables) _ h).0).0
