-- What is linked of a set without faults is linked, and ids find names in it.
use Rattle.std.proofs.Common.{◌≡◌, ◌<◌, ℕ, List, [], length, map, Option, Some, None, IsSome, slice_get, refl, sym, ap, subst, ◌∙◌}
use Rattle.descriptors.specs.declared.file_set.HttpInfo.{HttpInfo}
use Rattle.descriptor_pool.specs.DeclaredTypes.{SetTypes}
use Rattle.descriptor_pool.specs.ReachableTypes.{Joined}
use Rattle.descriptor_pool.specs.SetMethods.{BoundMethod, http_method}
use Rattle.http_rules.specs.Template.{IsTemplate}
use Rattle.http_rules.specs.Tokens.{is_method_kind}
use Rattle.http_rules.specs.declared.template.Binding.{Binding}
use Rattle.http_rules.specs.declared.template.Template.{Template}
use Rattle.linked_api.specs.LinkedApi.{IsBindingOf, IsMethodOf}
use Rattle.linked_api.specs.declared.api.Api.{Api}
use Rattle.linked_api.specs.declared.api.MethodInfo.{MethodInfo}
use Rattle.linked_bindings.specs.BindingFaults.{binding_faults}
use Rattle.linked_bindings.specs.LinkedBinding.{linked_binding}
use Rattle.linked_bindings.specs.RuleBindings.{IsBindingWith}
use Rattle.linked_types.specs.FoundNames.{HasIds, IdsFindNames}
use Rattle.linked_types.specs.LinkedTypes.{message_id}
use Rattle.message_types.specs.declared.messages.TypeId.{TypeId}
use Rattle.message_types.specs.declared.messages.Types.{Types}
use Rattle.schema.specs.Soundness.{IsSound}
use Rattle.schema_link.specs.LinkAnswers.{linked_rule_faults}
use Rattle.schema_link.specs.SetApi.{NumberedRule, linked_method, method_with, rule_binding}
use Rattle.schema_link.specs.SetNames.{HasMethodAt}
use Rattle.set_faults.specs.LawfulSets.{IsLawfulMethod, IsLawfulRule}
use Rattle.set_faults.specs.MethodFaults.{rule_template}
use Rattle.schema_link.proofs.BoundRules.{bound_faultless, bound_rule}
use Rattle.schema_link.proofs.GivenItems.{given_at}

-- what two options hold is one thing
inner : {A : Type 0} (x y : A) → Some x ≡ Some y → x ≡ y
inner x y h = cc h

module _ (types : SetTypes) (js : List Joined) where
  -- the parts of a method that is linked
  pub method_parts : (m : BoundMethod) (mi : MethodInfo) → linked_method types js m ≡ Some mi
      → (mi.path ≡ m.path) × (message_id types js m.input ≡ Some mi.input)
      × (message_id types js m.output ≡ Some mi.output)
  method_parts m mi h = pick (message_id types js m.input) (message_id types js m.output) h
    where
      pick : (i o : Option TypeId) → method_with m i o ≡ Some mi
          → (mi.path ≡ m.path) × (i ≡ Some mi.input) × (o ≡ Some mi.output)
      pick (Some i) (Some o) k =
          let made = inner (record {
            path = m.path;
            input = i;
            output = o;
            client_streams = m.client_streams;
            server_streams = m.server_streams;
          }) mi k in (
            ap (λ (x : MethodInfo). x.path) (sym made),
            ap (λ (x : MethodInfo). Some x.input) made,
            ap (λ (x : MethodInfo). Some x.output) made,
          )
      pick None o k = absurd (cc k)
      pick (Some i) None k = absurd (cc k)

  -- a method whose ids are in range is one of the linked types
  pub method_in_range : (t : Types) (m : BoundMethod) (mi : MethodInfo) → linked_method types js m ≡ Some mi
      → IsLawfulMethod types m × HasIds types js t m → IsMethodOf t mi
  method_in_range t m mi h (lawful, ids) =
      let parts = method_parts m mi h in
      let first = ids.input lawful.input in
      let second = ids.output lawful.output in
      record {
        input = subst (λ (i : TypeId). i.0 < length t.messages)
            (inner first.id mi.input (sym first.id_is ∙ parts.1)) first.within;
        output = subst (λ (i : TypeId). i.0 < length t.messages)
            (inner second.id mi.output (sym second.id_is ∙ parts.2)) second.within;
      }

  -- a lawful method whose input and output have ids is linked
  pub method_there : (t : Types) (m : BoundMethod) → IsLawfulMethod types m × HasIds types js t m
      → IsSome (linked_method types js m)
  method_there t m (lawful, ids) =
      let first = ids.input lawful.input in
      let second = ids.output lawful.output in
      subst (λ o. IsSome (method_with m o (message_id types js m.output))) (sym first.id_is)
      (subst (λ o. IsSome (method_with m (Some first.id) o)) (sym second.id_is) refl)

  -- the ids of a method find their names
  pub method_found : (api : Api) (ms : List BoundMethod) → IdsFindNames types js api.types
      → map (λ m. Some m) api.methods ≡ map (linked_method types js) ms → (k : ℕ) (m : BoundMethod)
      → slice_get ms k ≡ Some m → HasMethodAt api m k
  method_found api ms names methods k m at =
      let given = given_at (linked_method types js) ms api.methods methods k m at in
      let parts = method_parts m given.0 given.2 in
      record {
        method = given.0;
        method_is = given.1;
        path = parts.0;
        input = names.ids m.input (given.0).input parts.1;
        output = names.ids m.output (given.0).output parts.2;
      }

-- the law of what is linked of a rule
abbrev pub BindingLaw : Type 0
BindingLaw = (types : Types) (m : MethodInfo) (call : ℕ) (method : List ℕ) (rule : HttpInfo) (t : Template)
    (b : Binding)
    → IsSound types → binding_faults types m rule t ≡ [] → linked_binding types m call method rule t ≡ Some b
    → IsBindingWith types m call method t b

-- the template of a lawful rule can be parsed
rule_parses : (rule : HttpInfo) (t : Template) → IsLawfulRule rule → rule_template rule ≡ Some t → IsTemplate t
rule_parses rule t h is = subst IsTemplate (inner h.template t (sym h.template_is ∙ is))
    (record { text = _; means = h.means; within = h.within })

-- a binding that is linked of a lawful rule without faults is one of the API
pub rule_bound : BindingLaw → (api : Api) → IsSound api.types → (r : NumberedRule) (b : Binding)
    → rule_binding api.types api.methods r ≡ Some b
    → (r.call < length api.methods) × (IsLawfulRule r.rule × (linked_rule_faults api.types api.methods r ≡ []))
    → IsBindingOf api b
rule_bound law api sound r b h (below, (lawful, none)) =
    let bound = bound_rule api.types api.methods r b h in
    let own = bound_faultless api.types api.methods r bound.method bound.template bound.method_is bound.template_is in
    let faultless = sym own ∙ none in
    let with = law api.types bound.method r.call
    (http_method bound.pattern) r.rule bound.template b sound faultless bound.binding in
    let pattern = inner lawful.pattern bound.pattern (sym lawful.pattern_is ∙ bound.pattern_is) in
    record {
      call = subst (λ k. k < length api.methods) (sym with.call_is) below;
      method = bound.method;
      method_is = ap (slice_get api.methods) with.call_is ∙ bound.method_is;
      http_method = ap is_method_kind with.method_is ∙ ap (λ p. is_method_kind (http_method p)) (sym pattern)
          ∙ lawful.method;
      template = subst IsTemplate (sym with.template_is) (rule_parses r.rule bound.template lawful bound.template_is);
      paths = with.paths;
      apart = with.apart;
      body = with.body;
      response = with.response;
    }
