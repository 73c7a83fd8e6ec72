-- Rules that fit the types of their method are those without faults.
use Rattle.std.proofs.Common.{◌≡◌, ◌||◌, ◌==◌, ℕ, zero, suc, Bool, true, false, cond, List, [], ◌∷◌, length, codes, Option, Some, None, IsSome, is_some, slice_get, refl, sym, ap, subst, inl, inr, ◌∙◌}
use Rattle.std.proofs.lemmas.Bool.{eqb-true}
use Rattle.std.proofs.lemmas.Slice.Eq.{bytes_eq-Decides}
use Rattle.std.specs.Str.{bytes_eq}
use Rattle.descriptors.specs.declared.file_set.HttpInfo.{HttpInfo, out-HttpInfo}
use Rattle.http_rules.specs.declared.template.Template.{Template}
use Rattle.http_rules.specs.declared.template.Variable.{Variable}
use Rattle.linked_api.specs.FieldPaths.{LeadsToLeaf, field_named, path_numbers}
use Rattle.linked_api.specs.LinkedApi.{EachLeadsToLeaf}
use Rattle.linked_api.specs.declared.api.MethodInfo.{MethodInfo}
use Rattle.message_types.specs.Types.{fields_of}
use Rattle.message_types.specs.declared.fields.Field.{Field}
use Rattle.message_types.specs.declared.messages.TypeId.{TypeId}
use Rattle.message_types.specs.declared.messages.Types.{Types}
use Rattle.schema.specs.Soundness.{IsSound}
use Rattle.linked_bindings.specs.BindingFaults.{binding_faults, is_body, is_response}
use Rattle.linked_bindings.specs.LinkedBinding.{body_of, paths_of, response_of}
use Rattle.linked_bindings.specs.RuleBindings.{IsBodyText, IsFieldName, IsResponseText, IsRuleOf}
use Rattle.linked_bindings.proofs.FaultlessRules.{body_read, faultless_apart, faultless_linked, linked_faultless, parts_there, response_read, there_parts}
use Rattle.linked_bindings.proofs.LeadingNumbers.{each_leads}
use Rattle.linked_bindings.proofs.PathFaults.{both_there}

-- a field with a name is found by it
found_by_name : (fs : List Field) (name : List ℕ) (i : ℕ) (f : Field) → slice_get fs i ≡ Some f → f.name ≡ name
    → is_some (field_named fs name) ≡ true
found_by_name [] name i f e n = absurd (cc e)
found_by_name (g ∷ fs) name zero f e n =
    let same : g ≡ f = cc e in
    ap (λ (b : Bool). is_some (cond b (Some g) (field_named fs name)))
    ((bytes_eq-Decides g.name name).1 (ap (λ (x : Field). x.name) same ∙ n))
found_by_name (g ∷ fs) name (suc i) f e n = either (bytes_eq g.name name) (found_by_name fs name i f e n)
  where
    either : (b : Bool) → is_some (field_named fs name) ≡ true
        → is_some (cond b (Some g) (field_named fs name)) ≡ true
    either true k = refl
    either false k = k

-- the name of a field behind another is that of a field of both
behind : (g : Field) (fs : List Field) (name : List ℕ) → IsFieldName fs name → IsFieldName (g ∷ fs) name
behind g fs name h =
    record { index = suc h.index; field = h.field; field_is = h.field_is; name_is = h.name_is }

-- what is found by a name is a field with it
name_of_found : (fs : List Field) (name : List ℕ) (f : Field) → field_named fs name ≡ Some f → IsFieldName fs name
name_of_found [] name f e = absurd (cc e)
name_of_found (g ∷ fs) name f e = pick (bytes_eq g.name name) refl (name_of_found fs name f) e
  where
    pick : (b : Bool) → bytes_eq g.name name ≡ b → (field_named fs name ≡ Some f → IsFieldName fs name)
        → cond b (Some g) (field_named fs name) ≡ Some f → IsFieldName (g ∷ fs) name
    pick true h below k =
        record { index = 0; field = g; field_is = refl; name_is = (bytes_eq-Decides g.name name).0 h }
    pick false h below k = behind g fs name (below k)

-- one of two, or of three, tests holds where its last does
last_of_two : (a b : Bool) → b ≡ true → (a || b) ≡ true
last_of_two true b h = refl
last_of_two false b h = h

-- a text without bytes is empty
no_bytes : (s : List ℕ) → (length s == 0) ≡ true → s ≡ []
no_bytes [] h = refl
no_bytes (c ∷ s) h = let none : suc (length s) ≡ 0 = eqb-true (suc (length s)) 0 h in absurd (cc none)

-- the test of a body is true of what is one
body_holds : (fs : List Field) (body : List ℕ) → IsBodyText fs body → is_body fs body ≡ true
body_holds fs body (inl e) = subst (λ (b : List ℕ). is_body fs b ≡ true) (sym e) refl
body_holds fs body (inr (inl e)) = subst (λ (b : List ℕ). is_body fs b ≡ true) (sym e) refl
body_holds fs body (inr (inr n)) =
    last_of_two (length body == 0) (bytes_eq body (codes "*") || is_some (field_named fs body))
    (last_of_two (bytes_eq body (codes "*")) (is_some (field_named fs body))
    (found_by_name fs body n.index n.field n.field_is n.name_is))

-- and of nothing else
holding_body : (fs : List Field) (body : List ℕ) → is_body fs body ≡ true → IsBodyText fs body
holding_body fs body h =
    pick (length body == 0) (bytes_eq body (codes "*")) (field_named fs body) refl refl refl h
  where
    pick : (a b : Bool) (o : Option Field) → (length body == 0) ≡ a → bytes_eq body (codes "*") ≡ b
        → field_named fs body ≡ o → (a || (b || is_some o)) ≡ true → IsBodyText fs body
    pick true b o x y z k = inl (no_bytes body x)
    pick false true o x y z k = inr (inl ((bytes_eq-Decides body (codes "*")).0 y))
    pick false false (Some f) x y z k = inr (inr (name_of_found fs body f z))
    pick false false None x y z k = absurd (cc k)

-- the same of a response body
response_holds : (fs : List Field) (name : List ℕ) → IsResponseText fs name → is_response fs name ≡ true
response_holds fs name (inl e) = subst (λ (b : List ℕ). is_response fs b ≡ true) (sym e) refl
response_holds fs name (inr n) =
    last_of_two (length name == 0) (is_some (field_named fs name))
    (found_by_name fs name n.index n.field n.field_is n.name_is)

holding_response : (fs : List Field) (name : List ℕ) → is_response fs name ≡ true → IsResponseText fs name
holding_response fs name h = pick (length name == 0) (field_named fs name) refl refl h
  where
    pick : (a : Bool) (o : Option Field) → (length name == 0) ≡ a → field_named fs name ≡ o
        → (a || is_some o) ≡ true → IsResponseText fs name
    pick true o x z k = inl (no_bytes name x)
    pick false (Some f) x z k = inr (name_of_found fs name f z)
    pick false None x z k = absurd (cc k)

-- paths that lead to leaves have numbers
paths_there : ((types : Types) (id : TypeId) (names : List (List ℕ)) (numbers : List ℕ)
    → LeadsToLeaf types id names numbers → path_numbers types id names ≡ Some numbers)
    → (types : Types) (id : TypeId) (vs : List Variable) (ps : List (List ℕ)) → EachLeadsToLeaf types id vs ps
    → IsSome (paths_of types id vs)
paths_there all types id [] [] h = refl
paths_there all types id [] (p ∷ ps) h = absurd h
paths_there all types id (v ∷ vs) [] h = absurd h
paths_there all types id (v ∷ vs) (p ∷ ps) h =
    both_there (path_numbers types id v.path) (paths_of types id vs)
    (ap (λ (o : Option (List ℕ)). is_some o) (all types id v.path p h.0)) (paths_there all types id vs ps h.1)

-- a rule that fits the types of its method has no fault
pub fitting_faultless : ((types : Types) (id : TypeId) (names : List (List ℕ)) (numbers : List ℕ)
    → LeadsToLeaf types id names numbers → path_numbers types id names ≡ Some numbers)
    → (types : Types) (m : MethodInfo) (rule : HttpInfo) (t : Template) → IsRuleOf types m rule t
    → binding_faults types m rule t ≡ []
fitting_faultless all types m rule t h =
    let body = (out-HttpInfo rule).body in
    let name = (out-HttpInfo rule).response_body in
    linked_faultless types m 0 [] rule t h.apart
    (parts_there [] 0 t (paths_of types m.input t.variables) (body_of (fields_of types m.input) body)
    (response_of (fields_of types m.output) name)
    (paths_there all types m.input t.variables h.numbers h.paths)
    (body_read (fields_of types m.input) body ∙ body_holds (fields_of types m.input) body h.body)
    (response_read (fields_of types m.output) name ∙ response_holds (fields_of types m.output) name h.response))

-- a rule whose parts are linked fits, where no path begins another
parts_fit : ((types : Types) (id : TypeId) (names : List (List ℕ)) (numbers : List ℕ) → IsSound types
    → path_numbers types id names ≡ Some numbers → LeadsToLeaf types id names numbers)
    → (types : Types) (m : MethodInfo) (rule : HttpInfo) (t : Template) → IsSound types
    → binding_faults types m rule t ≡ [] → (o : Option (List (List ℕ))) → paths_of types m.input t.variables ≡ o
    → IsSome o × IsSome (body_of (fields_of types m.input) (out-HttpInfo rule).body)
    × IsSome (response_of (fields_of types m.output) (out-HttpInfo rule).response_body) → IsRuleOf types m rule t
parts_fit found types m rule t sound none None e h = absurd (cc h.0)
parts_fit found types m rule t sound none (Some ps) e h =
    let body = (out-HttpInfo rule).body in
    let name = (out-HttpInfo rule).response_body in
    record {
      numbers = ps;
      paths = each_leads found types m.input t.variables ps sound e;
      apart = faultless_apart types m rule t none;
      body = holding_body (fields_of types m.input) body (sym (body_read (fields_of types m.input) body) ∙ h.1);
      response =
          holding_response (fields_of types m.output) name
          (sym (response_read (fields_of types m.output) name) ∙ h.2);
    }

-- a rule without faults fits the types of its method, in sound types
pub faultless_fitting : ((types : Types) (id : TypeId) (names : List (List ℕ)) (numbers : List ℕ) → IsSound types
    → path_numbers types id names ≡ Some numbers → LeadsToLeaf types id names numbers)
    → (types : Types) (m : MethodInfo) (rule : HttpInfo) (t : Template) → IsSound types
    → binding_faults types m rule t ≡ [] → IsRuleOf types m rule t
faultless_fitting found types m rule t sound none =
    parts_fit found types m rule t sound none (paths_of types m.input t.variables) refl
    (there_parts [] 0 t (paths_of types m.input t.variables)
    (body_of (fields_of types m.input) (out-HttpInfo rule).body)
    (response_of (fields_of types m.output) (out-HttpInfo rule).response_body)
    (faultless_linked types m 0 [] rule t none))
