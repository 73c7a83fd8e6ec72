-- A set without faults: what is linked of it is there, is one API, and is linked.
use Rattle.std.proofs.Common.{◌≡◌, ◌<◌, ◌≤◌, ◌++◌, ℕ, List, [], ◌∷◌, length, map, Some, IsSome, refl, sym, ap, subst, ◌∙◌, arith}
use Rattle.std.proofs.lemmas.List.{length-map}
use Rattle.std.specs.List.{AllByRecursion, flat_map}
use Rattle.std.specs.Option.{option_map_or}
use Rattle.std.specs.Set.{distinct_count}
use Rattle.std.specs.Str.{bytes_eq}
use Rattle.base.proofs.EachLemmas.{each_both, each_weaker}
use Rattle.descriptors.specs.declared.file_set.FileSet.{FileSet}
use Rattle.descriptors.specs.declared.file_set.HttpInfo.{HttpInfo, out-HttpInfo}
use Rattle.descriptor_pool.specs.DeclaredNames.{Declaration, declarations}
use Rattle.descriptor_pool.specs.DeclaredTypes.{SetTypes, types_in}
use Rattle.descriptor_pool.specs.ReachableTypes.{reachable}
use Rattle.descriptor_pool.specs.SetMethods.{BoundMethod, all_rules, bound_methods, http_method, method_rules, pattern_method, rule_methods}
use Rattle.http_rules.specs.Routes.{AreRoutesApart, repeated_routes}
use Rattle.http_rules.specs.declared.template.Binding.{Binding}
use Rattle.http_rules.specs.declared.template.Template.{Template}
use Rattle.linked_api.specs.LinkedApi.{IsBindingOf, IsLinked, IsMethodOf}
use Rattle.linked_api.specs.declared.api.Api.{Api}
use Rattle.linked_api.specs.declared.api.MethodInfo.{MethodInfo}
use Rattle.linked_bindings.specs.BindingFaults.{binding_faults}
use Rattle.linked_bindings.specs.LinkedBinding.{linked_binding}
use Rattle.linked_types.specs.EachSome.{each_some}
use Rattle.linked_types.specs.FoundNames.{HasIds}
use Rattle.linked_types.specs.LinkedNames.{type_names}
use Rattle.linked_types.specs.LinkedTypes.{linked_types}
use Rattle.message_types.specs.declared.messages.Types.{Types}
use Rattle.schema.specs.Apart.{AreApart}
use Rattle.schema.specs.Soundness.{IsSound}
use Rattle.schema_link.specs.LinkAnswers.{bindings_faults, equal_routes, faults, late_faults, late_of, linked_faults, route_faults, linked_rule_faults}
use Rattle.schema_link.specs.LinkSteps.{IsReady}
use Rattle.schema_link.specs.SetApi.{IsApiOf, NumberedRule, linked_method, numbered_rules, rule_binding}
use Rattle.set_faults.specs.LawfulSets.{IsLawfulMethod, IsLawfulRule, IsLawfulSet}
use Rattle.set_faults.proofs.Theorems.{each_faultless, none_parts}
use Rattle.set_faults.specs.SetFaults.{all_faults, faults as declared_faults}
use Rattle.schema_link.proofs.BoundRules.{bound_binding, bound_faultless, bound_rule, made_of}
use Rattle.schema_link.proofs.GivenItems.{all_given, all_there, given_one, length_given, some_given}
use Rattle.schema_link.proofs.LawfulTypes.{there}
use Rattle.schema_link.proofs.LinkedSets.{BindingLaw, method_in_range, rule_bound}
use Rattle.schema_link.proofs.RouteLemmas.{item_there, no_fault_no_repeat}
use Rattle.schema_link.proofs.RuleLemmas.{calls_below, each_rule, join_rules, map_rules}

-- the faults of what is linked of rules
pub linked_are : (t : Types) (methods : List MethodInfo) (rules : List NumberedRule) (bs : List Binding)
    → map (λ b. Some b) bs ≡ map (rule_binding t methods) rules
    → linked_faults methods rules t ≡ bindings_faults t methods rules ++ route_faults methods bs
linked_are t methods rules bs h =
    ap (λ o. bindings_faults t methods rules ++ equal_routes methods o) (some_given (rule_binding t methods) rules bs h)

-- the faults that are seen once types and methods are linked
pub late_is : (types : SetTypes) (ms : List BoundMethod) (t : Types) (methods : List MethodInfo)
    → linked_types types (reachable types ms) ≡ Some t
    → map (λ m. Some m) methods ≡ map (linked_method types (reachable types ms)) ms
    → late_faults types ms ≡ linked_faults methods (numbered_rules 0 ms) t
late_is types ms t methods h g =
    ap (λ o. late_of (numbered_rules 0 ms) o (each_some (linked_method types (reachable types ms)) ms)) h
    ∙ ap (λ o. late_of (numbered_rules 0 ms) (Some t) o)
    (some_given (linked_method types (reachable types ms)) ms methods g)

-- the faults that are seen once types are linked, of what is linked
pub late_are : (types : SetTypes) (ms : List BoundMethod) (api : Api) → IsApiOf types ms api
    → late_faults types ms ≡ bindings_faults api.types api.methods (numbered_rules 0 ms)
    ++ route_faults api.methods api.bindings
late_are types ms api is =
    late_is types ms api.types api.methods is.types_are is.methods_are
    ∙ linked_are api.types api.methods (numbered_rules 0 ms) api.bindings is.bindings_are

-- the HTTP methods of bindings that are linked are those of their rules
methods_given : (linked : Types) (methods : List MethodInfo) (rs : List NumberedRule) (bs : List Binding)
    → map (λ b. Some b) bs ≡ map (rule_binding linked methods) rs
    → map (λ (b : Binding). b.method) bs ≡ flat_map
    (λ (r : NumberedRule). pattern_method (out-HttpInfo r.rule).pattern) rs
methods_given linked methods [] [] h = refl
methods_given linked methods [] (b ∷ bs) h = absurd (cc h)
methods_given linked methods (r ∷ rs) [] h = absurd (cc h)
methods_given linked methods (r ∷ rs) (b ∷ bs) h =
    let given : rule_binding linked methods r ≡ Some b = cc h in
    let rest : map (λ b. Some b) bs ≡ map (rule_binding linked methods) rs = cc h in
    let bound = bound_rule linked methods r b given in
    let made = made_of linked bound.method r.call (http_method bound.pattern) r.rule bound.template b bound.binding in
    ap (λ z. z ∷ map (λ (b : Binding). b.method) bs) made.1
    ∙ ap (λ zs. http_method bound.pattern ∷ zs) (methods_given linked methods rs bs rest)
    ∙ ap (λ o. pattern_method o ++ flat_map (λ (r : NumberedRule). pattern_method (out-HttpInfo r.rule).pattern) rs)
    (sym bound.pattern_is)

-- a binding calls the method of its rule
pub calls_given : (linked : Types) (methods : List MethodInfo) (r : NumberedRule) (b : Binding)
    → rule_binding linked methods r ≡ Some b
    → r.call < length methods → b.call < length methods
calls_given linked methods r b h below =
    let bound = bound_rule linked methods r b h in
    let made = made_of linked bound.method r.call (http_method bound.pattern) r.rule bound.template b bound.binding in
    subst (λ k. k < length methods) (sym made.0) below

module _ (types : SetTypes) (ms : List BoundMethod) (api : Api) (is : IsApiOf types ms api) where
  abbrev rules : List NumberedRule
  rules = numbered_rules 0 ms

  -- the rules call methods that are linked
  pub rules_below : AllByRecursion (λ (r : NumberedRule). r.call < length api.methods) rules
  rules_below = subst (λ n. AllByRecursion (λ (r : NumberedRule). r.call < n) rules)
      (sym (length_given (linked_method types (reachable types ms)) ms api.methods is.methods_are)) (calls_below ms)

  -- and so do the bindings
  pub bindings_below : AllByRecursion (λ (b : Binding). b.call < length api.methods) api.bindings
  bindings_below = all_given (rule_binding api.types api.methods) (λ (r : NumberedRule). r.call < length api.methods)
      (λ (b : Binding). b.call < length api.methods) rules api.bindings is.bindings_are
      (calls_given api.types api.methods) rules_below

  -- there are as many bindings as rules
  pub bindings_count : length api.bindings ≡ length (all_rules ms)
  bindings_count =
      length_given (rule_binding api.types api.methods) rules api.bindings is.bindings_are
      ∙ sym (length-map rules (λ (r : NumberedRule). r.rule))
      ∙ ap (λ (rs : List HttpInfo). length rs) (map_rules (λ r. r) 0 ms)
      ∙ length-map (all_rules ms) (λ r. r)

  -- the HTTP methods of the bindings are those of all rules
  pub bindings_methods : map (λ (b : Binding). b.method) api.bindings ≡ rule_methods (all_rules ms)
  bindings_methods =
      methods_given api.types api.methods rules api.bindings is.bindings_are
      ∙ join_rules (λ rule. pattern_method (out-HttpInfo rule).pattern) 0 ms

-- what is linked of lawful methods without late faults is linked, by the laws of the crates below
module _ (binding : BindingLaw)
    (routes : (bs : List Binding) → (AreRoutesApart bs → repeated_routes bs ≡ [])
    × (repeated_routes bs ≡ [] → AreRoutesApart bs)) where
  pub api_linked : (ds : List Declaration) (ms : List BoundMethod) (api : Api) → IsLawfulSet ds ms
      → IsApiOf (types_in ds) ms api
      → late_faults (types_in ds) ms ≡ [] → IsSound api.types → AreApart bytes_eq (type_names api.types)
      → AllByRecursion (HasIds (types_in ds) (reachable (types_in ds) ms) api.types) ms → IsLinked api
  api_linked ds ms api law is none sound names ids =
      let types = types_in ds in
      let js = reachable types ms in
      let rules = numbered_rules 0 ms in
      let parts = none_parts (bindings_faults api.types api.methods rules) (route_faults api.methods api.bindings)
      (sym (late_are types ms api is) ∙ none) in
      let lawful = each_rule IsLawfulRule 0 ms
      (each_weaker (IsLawfulMethod types) (λ m. AllByRecursion IsLawfulRule (method_rules m))
      (λ m l. l.rules) ms law.methods) in
      let faultless = each_faultless (linked_rule_faults api.types api.methods) rules parts.0 in
      let ready = each_both (λ (r : NumberedRule). r.call < length api.methods)
      (λ (r : NumberedRule). IsLawfulRule r.rule × (linked_rule_faults api.types api.methods r ≡ [])) rules
      (rules_below types ms api is)
      (each_both (λ (r : NumberedRule). IsLawfulRule r.rule)
      (λ (r : NumberedRule). linked_rule_faults api.types api.methods r ≡ []) rules lawful faultless) in
      record {
        types = sound;
        names = names;
        methods = all_given (linked_method types js) (λ m. IsLawfulMethod types m × HasIds types js api.types m)
            (IsMethodOf api.types) ms api.methods
            is.methods_are (method_in_range types js api.types)
            (each_both (IsLawfulMethod types) (HasIds types js api.types) ms law.methods ids);
        bindings = all_given (rule_binding api.types api.methods)
            (λ (r : NumberedRule). (r.call < length api.methods)
            × (IsLawfulRule r.rule × (linked_rule_faults api.types api.methods r ≡ [])))
            (IsBindingOf api) rules api.bindings is.bindings_are (rule_bound binding api sound) ready;
        routes = (routes api.bindings).1 (no_fault_no_repeat api.methods api.bindings
            (bindings_below types ms api is) parts.1);
        http_methods = subst (λ names. distinct_count bytes_eq names ≤ 64)
            (sym (bindings_methods types ms api is)) law.few_methods;
        few = let same = bindings_count types ms api is in let few = law.few_bindings in omega (arith, same, few);
      }

-- two APIs that are linked of one set are equal
pub one_api : (types : SetTypes) (ms : List BoundMethod) (a b : Api) → IsApiOf types ms a → IsApiOf types ms b → a ≡ b
one_api types ms a b is js =
    let rules = numbered_rules 0 ms in
    let same : a.types ≡ b.types = some (sym is.types_are ∙ js.types_are) in
    let methods = given_one (linked_method types
    (reachable types ms)) ms a.methods b.methods is.methods_are js.methods_are in
    let moved : map (λ b. Some b) a.bindings ≡ map (rule_binding b.types b.methods) rules =
    is.bindings_are ∙ ap (λ t. map (rule_binding t a.methods) rules) same
    ∙ ap (λ m. map (rule_binding b.types m) rules) methods in
    let bindings = given_one (rule_binding b.types b.methods) rules a.bindings b.bindings moved js.bindings_are in
    joined same methods bindings
  where
    some : {A : Type 0} {x y : A} → Some x ≡ Some y → x ≡ y
    some h = cc h

    joined : a.types ≡ b.types → a.methods ≡ b.methods → a.bindings ≡ b.bindings → a ≡ b
    joined t m s =
        ap (λ z. record { types = z; methods = a.methods; bindings = a.bindings }) t
        ∙ ap (λ z. record { types = b.types; methods = z; bindings = a.bindings }) m
        ∙ ap (λ z. record { types = b.types; methods = b.methods; bindings = z }) s

-- the faults that a set without faults does not have
pub set_parts : (set : FileSet) → faults set ≡ []
    → (all_faults (declarations set) (bound_methods set) ≡ [])
    × (late_faults (types_in (declarations set)) (bound_methods set) ≡ [])
set_parts set h = none_parts (declared_faults set) (late_faults (types_in (declarations set)) (bound_methods set)) h

-- a binding is linked of each lawful rule without faults
module _ (law : (types : Types) (m : MethodInfo) (call : ℕ) (method : List ℕ) (rule : HttpInfo) (t : Template)
    → binding_faults types m rule t ≡ [] → IsSome (linked_binding types m call method rule t)) where
  rule_there : (linked : Types) (methods : List MethodInfo) (r : NumberedRule)
      → (r.call < length methods) × (IsLawfulRule r.rule × (linked_rule_faults linked methods r ≡ []))
      → IsSome (rule_binding linked methods r)
  rule_there linked methods r (below, (lawful, none)) =
      let method = item_there methods r.call below in
      let faultless = sym (bound_faultless linked methods r method.0 lawful.template method.1 lawful.template_is)
      ∙ none in
      let own = bound_binding linked methods r method.0 lawful.pattern lawful.template method.1 lawful.pattern_is
      lawful.template_is in
      subst (λ o. IsSome o) (sym own)
      (law linked method.0 r.call (http_method lawful.pattern) r.rule lawful.template faultless)

  -- what is linked of lawful methods without late faults, of these types and methods
  api_from : (types : SetTypes) (ms : List BoundMethod) → AllByRecursion (IsLawfulMethod types) ms
      → late_faults types ms ≡ []
      → (linked : Types) → linked_types types (reachable types ms) ≡ Some linked
      → (methods : List MethodInfo) → map (λ m. Some m) methods ≡ map (linked_method types (reachable types ms)) ms
      → (api : Api) × IsApiOf types ms api
  api_from types ms lawful none linked linked_is methods methods_are =
      let js = reachable types ms in
      let rules = numbered_rules 0 ms in
      let late = sym (late_is types ms linked methods linked_is methods_are) ∙ none in
      let parts = none_parts (bindings_faults linked methods rules)
      (equal_routes methods (each_some (rule_binding linked methods) rules)) late in
      let calls = subst (λ n. AllByRecursion (λ (r : NumberedRule). r.call < n) rules)
      (sym (length_given (linked_method types js) ms methods methods_are)) (calls_below ms) in
      let each = each_rule IsLawfulRule 0 ms
      (each_weaker (IsLawfulMethod types) (λ m. AllByRecursion IsLawfulRule (method_rules m))
      (λ m l. l.rules) ms lawful) in
      let faultless = each_faultless (linked_rule_faults linked methods) rules parts.0 in
      let sure = each_weaker (λ (r : NumberedRule). (r.call < length methods)
      × (IsLawfulRule r.rule × (linked_rule_faults linked methods r ≡ [])))
      (λ (r : NumberedRule). IsSome (rule_binding linked methods r)) (rule_there linked methods) rules
      (each_both (λ (r : NumberedRule). r.call < length methods)
      (λ (r : NumberedRule). IsLawfulRule r.rule × (linked_rule_faults linked methods r ≡ [])) rules calls
      (each_both (λ (r : NumberedRule). IsLawfulRule r.rule)
      (λ (r : NumberedRule). linked_rule_faults linked methods r ≡ []) rules each faultless)) in
      let bindings = all_there (rule_binding linked methods) rules sure in (
        record { types = linked; methods = methods; bindings = bindings.0 },
        record { types_are = linked_is; methods_are = methods_are; bindings_are = bindings.1 },
      )

  -- what is linked of lawful methods without late faults is there
  pub api_there : (ds : List Declaration) (ms : List BoundMethod) → IsLawfulSet ds ms → IsReady (types_in ds) ms
      → late_faults (types_in ds) ms ≡ []
      → (api : Api) × IsApiOf (types_in ds) ms api
  api_there ds ms lawful ready none =
      let types = types_in ds in
      let linked = there (linked_types types (reachable types ms)) ready.types_linked in
      let methods = all_there (linked_method types (reachable types ms)) ms ready.methods_linked in
      api_from types ms lawful.methods none linked.0 linked.1 methods.0 methods.1
