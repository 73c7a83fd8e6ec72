-- What the binding of a rule is made of.
use Rattle.std.proofs.Common.{◌≡◌, ℕ, List, Option, Some, None, slice_get, refl, sym, ap, ◌∙◌}
use Rattle.descriptors.specs.declared.file_set.HttpInfo.{HttpInfo, out-HttpInfo}
use Rattle.descriptors.specs.declared.file_set.PatternInfo.{PatternInfo}
use Rattle.descriptor_pool.specs.SetMethods.{http_method}
use Rattle.http_rules.specs.declared.template.Binding.{Binding}
use Rattle.http_rules.specs.declared.template.Body.{Body}
use Rattle.http_rules.specs.declared.template.Template.{Template}
use Rattle.linked_api.specs.declared.api.MethodInfo.{MethodInfo}
use Rattle.linked_bindings.specs.BindingFaults.{binding_faults}
use Rattle.linked_bindings.specs.LinkedBinding.{binding_with, body_of, linked_binding, paths_of, response_of}
use Rattle.message_types.specs.Types.{fields_of}
use Rattle.message_types.specs.declared.messages.Types.{Types}
use Rattle.schema_link.specs.LinkAnswers.{faults_of, linked_rule_faults}
use Rattle.schema_link.specs.SetApi.{NumberedRule, binding_of, rule_binding}
use Rattle.set_faults.specs.MethodFaults.{rule_template}

-- the method, the pattern and the template of the rule of a binding
pub record IsBoundRule (linked : Types) (methods : List MethodInfo) (r : NumberedRule) (b : Binding) : Type 0 where
  pub method : MethodInfo
  pub method_is : slice_get methods r.call ≡ Some method
  pub pattern : PatternInfo
  pub pattern_is : (out-HttpInfo r.rule).pattern ≡ Some pattern
  pub template : Template
  pub template_is : rule_template r.rule ≡ Some template
  pub binding : linked_binding linked method r.call (http_method pattern) r.rule template ≡ Some b

-- a rule that has a binding has them
pub bound_rule : (linked : Types) (methods : List MethodInfo) (r : NumberedRule) (b : Binding)
    → rule_binding linked methods r ≡ Some b
    → IsBoundRule linked methods r b
bound_rule linked methods r b h =
    pick (slice_get methods r.call) refl (out-HttpInfo r.rule).pattern refl (rule_template r.rule) refl h
  where
    pick : (m : Option MethodInfo) → slice_get methods r.call ≡ m → (p : Option PatternInfo)
        → (out-HttpInfo r.rule).pattern ≡ p
        → (t : Option Template) → rule_template r.rule ≡ t → binding_of linked r.call r.rule m p t ≡ Some b
        → IsBoundRule linked methods r b
    pick None m_is p p_is t t_is k = absurd (cc k)
    pick (Some m) m_is None p_is t t_is k = absurd (cc k)
    pick (Some m) m_is (Some p) p_is None t_is k = absurd (cc k)
    pick (Some m) m_is (Some p) p_is (Some t) t_is k = record {
      method = m;
      method_is = m_is;
      pattern = p;
      pattern_is = p_is;
      template = t;
      template_is = t_is;
      binding = k;
    }

-- where a rule has no fault, its method with its template has none
pub bound_faultless : (linked : Types) (methods : List MethodInfo) (r : NumberedRule) (m : MethodInfo) (t : Template)
    → slice_get methods r.call ≡ Some m → rule_template r.rule ≡ Some t
    → linked_rule_faults linked methods r ≡ binding_faults linked m r.rule t
bound_faultless linked methods r m t m_is t_is =
    ap (λ o. faults_of linked r.rule o (rule_template r.rule)) m_is ∙ ap (λ o. faults_of linked r.rule (Some m) o) t_is

-- a rule of a method with a pattern and a template has the binding that is linked of them
pub bound_binding : (linked : Types) (methods : List MethodInfo) (r : NumberedRule) (m : MethodInfo) (p : PatternInfo)
    (t : Template)
    → slice_get methods r.call ≡ Some m → (out-HttpInfo r.rule).pattern ≡ Some p → rule_template r.rule ≡ Some t
    → rule_binding linked methods r ≡ linked_binding linked m r.call (http_method p) r.rule t
bound_binding linked methods r m p t m_is p_is t_is =
    ap (λ o. binding_of linked r.call r.rule o (out-HttpInfo r.rule).pattern (rule_template r.rule)) m_is
    ∙ ap (λ o. binding_of linked r.call r.rule (Some m) o (rule_template r.rule)) p_is
    ∙ ap (λ o. binding_of linked r.call r.rule (Some m) (Some p) o) t_is

-- the index, the HTTP method and the template of a binding that is linked
pub made_of : (linked : Types) (m : MethodInfo) (call : ℕ) (method : List ℕ) (rule : HttpInfo) (t : Template)
    (b : Binding)
    → linked_binding linked m call method rule t ≡ Some b → (b.call ≡ call) × (b.method ≡ method) × (b.template ≡ t)
made_of linked m call method rule t b h =
    pick (paths_of linked m.input t.variables) (body_of (fields_of linked m.input) (out-HttpInfo rule).body)
    (response_of (fields_of linked m.output) (out-HttpInfo rule).response_body) h
  where
    made : (a b : Binding) → Some a ≡ Some b → a ≡ b
    made a b h = cc h

    pick : (p : Option (List (List ℕ))) (q : Option Body) (r : Option (Option ℕ))
        → binding_with method call t p q r ≡ Some b
        → (b.call ≡ call) × (b.method ≡ method) × (b.template ≡ t)
    pick (Some p) (Some q) (Some r) k =
        let whole : Binding =
        record { method = method; template = t; paths = p; body = q; response = r; call = call } in
        let same = made whole b k in (
          ap (λ (x : Binding). x.call) (sym same),
          ap (λ (x : Binding). x.method) (sym same),
          ap (λ (x : Binding). x.template) (sym same),
        )
    pick None q r k = absurd (cc k)
    pick (Some p) None r k = absurd (cc k)
    pick (Some p) (Some q) None k = absurd (cc k)
