use Rattle.std.proofs.Common.{◌<◌, ◌≡◌, ◌∙◌, [], length, map, ap, subst, sym}
use Rattle.std.proofs.lemmas.Result.{err_from_is_err_and}
use Rattle.std.specs.List.{AllByRecursion}
use Rattle.http_rules.specs.Template.{IsTemplate}
use Rattle.http_rules.specs.declared.template.Binding.{Binding}
use Rattle.schema_link.specs.LinkAnswers.{bindings_faults, route_faults}
use Rattle.schema_link.specs.SetApi.{NumberedRule, rule_binding}
use Rattle.set_faults.specs.LinkFaults.{IsFirst}
use Rattle.set_faults.proofs.Theorems.{first_later, none_more}
use Rattle.schema_link.proofs.GivenItems.{all_given}
use Rattle.schema_link.proofs.ParsedRules.{bindings_parse}
use Rattle.schema_link.proofs.SetLemmas.{calls_given, linked_are}
use Rattle.schema_link.proofs.linker.link_numbered.Goals as goal

pub check_routes-requires-clause-templates : goal.check_routes-requires-clause-templates
check_routes-requires-clause-templates c =
    let methods = c.args.methods.now in
    let rules = c.args.rules.now in
    let bindings = c.in_ok-bindings.ensures.bindings
    ∙ ap (λ t. map (rule_binding t methods) rules) c.in_ok-names.ensures in
    subst (AllByRecursion (λ (b : Binding). IsTemplate b.template)) (sym c.as_slice.ensures)
    (bindings_parse c.a_text_has_one_reading.ensures.each c.args.types.now methods rules c.in_ok-bindings.bindings bindings)

pub check_routes-requires-clause-calls : goal.check_routes-requires-clause-calls
check_routes-requires-clause-calls c =
    let t = c.args.types.now in
    let methods = c.args.methods.now in
    let rules = c.args.rules.now in
    let bindings = c.in_ok-bindings.ensures.bindings
    ∙ ap (λ t. map (rule_binding t methods) rules) c.in_ok-names.ensures in
    subst (AllByRecursion (λ (b : Binding). b.call < length methods)) (sym c.as_slice.ensures)
    (all_given (rule_binding t methods) (λ (r : NumberedRule). r.call < length methods)
    (λ (b : Binding). b.call < length methods) rules c.in_ok-bindings.bindings bindings
    (calls_given t methods) c.requires.calls)

pub returns-in_err-check_routes-clause-first : goal.returns-in_err-check_routes-clause-first
returns-in_err-check_routes-clause-first c =
    let p = err_from_is_err_and c.from_residual-in_err-check_routes.result c.from_residual-in_err-check_routes.ensures.1 in
    let t = c.args.types.now in
    let methods = c.args.methods.now in
    let rules = c.args.rules.now in
    let bindings = c.in_ok-bindings.ensures.bindings
    ∙ ap (λ t. map (rule_binding t methods) rules) c.in_ok-names.ensures in
    let faultless = subst (λ t. bindings_faults t methods rules
    ≡ []) c.in_ok-names.ensures c.in_ok-bindings.ensures.faults in
    let first = subst (λ bs. IsFirst c.in_err-check_routes.field-0.0
    (route_faults methods bs)) c.as_slice.ensures c.in_err-check_routes.ensures in
    rw (p.1, p.2) (subst (IsFirst _) (sym (linked_are t methods rules c.in_ok-bindings.bindings bindings))
    (first_later _ (bindings_faults t methods rules) (route_faults methods c.in_ok-bindings.bindings) faultless first))

pub returns-clause-first : goal.returns-clause-first
returns-clause-first c =
    let t = c.args.types.now in
    let methods = c.args.methods.now in
    let rules = c.args.rules.now in
    let bindings = c.in_ok-bindings.ensures.bindings
    ∙ ap (λ t. map (rule_binding t methods) rules) c.in_ok-names.ensures in
    let faultless = subst (λ t. bindings_faults t methods rules
    ≡ []) c.in_ok-names.ensures c.in_ok-bindings.ensures.faults in
    let none = subst (λ bs. route_faults methods bs ≡ []) c.as_slice.ensures c.in_ok-check_routes.ensures in
    linked_are t methods rules c.in_ok-bindings.bindings bindings
    ∙ none_more (bindings_faults t methods rules) (route_faults methods c.in_ok-bindings.bindings) faultless none
