-- What is linked of a rule without faults, in sound types.
use Rattle.std.proofs.Common.{◌≡◌, ◌==◌, ℕ, Bool, true, false, cond, List, [], ◌∷◌, length, codes, Option, Some, None, IfSome, IsSome, is_some, option_map, refl, ap, subst}
use Rattle.std.proofs.lemmas.Bool.{eq-eqb}
use Rattle.std.specs.Str.{bytes_eq}
use Rattle.descriptors.specs.declared.file_set.HttpInfo.{HttpInfo, out-HttpInfo}
use Rattle.http_rules.specs.declared.template.Binding.{Binding}
use Rattle.http_rules.specs.declared.template.Body.{Body}
use Rattle.http_rules.specs.declared.template.Body.TheVariants.{Nothing, Whole, Part}
use Rattle.http_rules.specs.declared.template.Template.{Template}
use Rattle.linked_api.specs.FieldPaths.{LeadsToLeaf, field_named, path_numbers}
use Rattle.linked_api.specs.LinkedApi.{EachLeadsToLeaf, IsBodyOf, overlap}
use Rattle.linked_api.specs.declared.api.MethodInfo.{MethodInfo}
use Rattle.message_types.specs.Types.{field_in, fields_of}
use Rattle.message_types.specs.declared.fields.Field.{Field}
use Rattle.message_types.specs.declared.messages.TypeId.{TypeId}
use Rattle.message_types.specs.declared.messages.Types.{Types}
use Rattle.schema.specs.Apart.{AreApart}
use Rattle.schema.specs.Soundness.{IsSound}
use Rattle.linked_bindings.specs.BindingFaults.{binding_faults}
use Rattle.linked_bindings.specs.LinkedBinding.{binding_with, body_of, linked_binding, number_named, paths_of, response_of}
use Rattle.linked_bindings.specs.RuleBindings.{IsBindingWith}
use Rattle.linked_bindings.proofs.FaultlessRules.{faultless_apart}
use Rattle.linked_bindings.proofs.LeadingNumbers.{all_apart, each_leads}

-- the number of a field that is found by its name is that of a field
number_there : (fs : List Field) (name : List ℕ) (f : Field) → field_named fs name ≡ Some f
    → IsSome (field_in fs f.number)
number_there [] name f h = absurd (cc h)
number_there (g ∷ fs) name f h = pick (bytes_eq g.name name) (number_there fs name f) h
  where
    either : (b : Bool) → IsSome (field_in fs f.number) → IsSome (cond b (Some g) (field_in fs f.number))
    either true k = refl
    either false k = k

    pick : (b : Bool) → (field_named fs name ≡ Some f → IsSome (field_in fs f.number))
        → cond b (Some g) (field_named fs name) ≡ Some f → IsSome (field_in (g ∷ fs) f.number)
    pick true below k =
        let same : g ≡ f = cc k in
        ap (λ (b : Bool). is_some (cond b (Some g) (field_in fs f.number)))
        (eq-eqb g.number f.number (ap (λ (x : Field). x.number) same))
    pick false below k = either (g.number == f.number) (below k)

named_there : (fs : List Field) (name : List ℕ) (n : ℕ) → number_named fs name ≡ Some n → IsSome (field_in fs n)
named_there fs name n h = pick (field_named fs name) refl h
  where
    pick : (o : Option Field) → field_named fs name ≡ o → option_map (λ (f : Field). f.number) o ≡ Some n
        → IsSome (field_in fs n)
    pick None e k = absurd (cc k)
    pick (Some f) e k =
        let same : f.number ≡ n = cc k in subst (λ (x : ℕ). IsSome (field_in fs x)) same (number_there fs name f e)

-- what a body is linked to is there
body_there : (fs : List Field) (body : List ℕ) (b : Body) → body_of fs body ≡ Some b → IsBodyOf fs b
body_there fs body b h = pick (length body == 0) (bytes_eq body (codes "*")) (number_named fs body) refl h
  where
    pick : (x y : Bool) (o : Option ℕ) → number_named fs body ≡ o
        → cond x (Some Nothing) (cond y (Some Whole) (option_map (λ n. Part n) o)) ≡ Some b → IsBodyOf fs b
    pick true y o e k = let same : Nothing ≡ b = cc k in subst (IsBodyOf fs) same tt
    pick false true o e k = let same : Whole ≡ b = cc k in subst (IsBodyOf fs) same tt
    pick false false None e k = absurd (cc k)
    pick false false (Some n) e k =
        let same : Part n ≡ b = cc k in subst (IsBodyOf fs) same (named_there fs body n e)

-- and so is what a response is linked to
response_there : (fs : List Field) (name : List ℕ) (r : Option ℕ) → response_of fs name ≡ Some r
    → IfSome r (λ n. IsSome (field_in fs n))
response_there fs name r h = pick (length name == 0) (number_named fs name) refl h
  where
    pick : (x : Bool) (o : Option ℕ) → number_named fs name ≡ o
        → cond x (Some None) (option_map (λ n. Some n) o) ≡ Some r → IfSome r (λ n. IsSome (field_in fs n))
    pick true o e k =
        let same : ◌≡◌ {A = Option ℕ} None r = cc k in
        subst (λ (z : Option ℕ). IfSome z (λ n. IsSome (field_in fs n))) same tt
    pick false None e k = absurd (cc k)
    pick false (Some n) e k =
        let same : Some n ≡ r = cc k in
        subst (λ (z : Option ℕ). IfSome z (λ n. IsSome (field_in fs n))) same (named_there fs name n e)

-- the binding of these parts is one of a method
parts_are : (types : Types) (m : MethodInfo) (call : ℕ) (method : List ℕ) (t : Template) (b : Binding)
    (ps : Option (List (List ℕ))) (body : Option Body) (response : Option (Option ℕ))
    → ((p : List (List ℕ)) → ps ≡ Some p → EachLeadsToLeaf types m.input t.variables p × AreApart overlap p)
    → ((d : Body) → body ≡ Some d → IsBodyOf (fields_of types m.input) d)
    → ((r : Option ℕ) → response ≡ Some r → IfSome r (λ n. IsSome (field_in (fields_of types m.output) n)))
    → binding_with method call t ps body response ≡ Some b → IsBindingWith types m call method t b
parts_are types m call method t b None body response p d r h = absurd (cc h)
parts_are types m call method t b (Some ps) None response p d r h = absurd (cc h)
parts_are types m call method t b (Some ps) (Some body) None p d r h = absurd (cc h)
parts_are types m call method t b (Some ps) (Some body) (Some response) p d r h =
    let same : ◌≡◌ {A = Binding} (record {
      method = method;
      template = t;
      paths = ps;
      body = body;
      response = response;
      call = call;
    }) b = cc h in
    subst (IsBindingWith types m call method t) same (record {
      call_is = refl;
      method_is = refl;
      template_is = refl;
      paths = (p ps refl).0;
      apart = (p ps refl).1;
      body = d body refl;
      response = r response refl;
    })

-- what is linked of a rule without faults is a binding of its method
pub linked_is : ((types : Types) (id : TypeId) (names : List (List ℕ)) (numbers : List ℕ) → IsSound types
    → path_numbers types id names ≡ Some numbers → LeadsToLeaf types id names numbers)
    → (types : Types) (m : MethodInfo) (call : ℕ) (method : List ℕ) (rule : HttpInfo) (t : Template) (b : Binding)
    → IsSound types → binding_faults types m rule t ≡ [] → linked_binding types m call method rule t ≡ Some b
    → IsBindingWith types m call method t b
linked_is found types m call method rule t b sound none h =
    parts_are types m call method t b (paths_of types m.input t.variables)
    (body_of (fields_of types m.input) (out-HttpInfo rule).body)
    (response_of (fields_of types m.output) (out-HttpInfo rule).response_body)
    (λ p e.
    let each = each_leads found types m.input t.variables p sound e in
    (each, all_apart types m.input t.variables p each (faultless_apart types m rule t none)))
    (λ d e. body_there (fields_of types m.input) (out-HttpInfo rule).body d e)
    (λ r e. response_there (fields_of types m.output) (out-HttpInfo rule).response_body r e) h
