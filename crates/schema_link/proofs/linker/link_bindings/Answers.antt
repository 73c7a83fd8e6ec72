use Rattle.std.proofs.Common.{◌<◌, ◌∙◌, length, map, ap, subst, sym}
use Rattle.std.specs.List.{AllByRecursion}
use Rattle.schema_link.specs.SetApi.{NumberedRule, numbered_rules}
use Rattle.set_faults.specs.MethodFaults.{rule_template}
use Rattle.schema_link.proofs.RuleLemmas.{calls_below, map_rules}
use Rattle.schema_link.proofs.linker.link_bindings.Goals as goal

pub link_numbered-requires-clause-calls : goal.link_numbered-requires-clause-calls
link_numbered-requires-clause-calls c =
    let is = c.as_slice.ensures.value ∙ c.in_ok-rules.ensures in
    subst (AllByRecursion (λ (r : NumberedRule). r.call < length c.args.methods.now)) (sym is)
    (subst (λ n. AllByRecursion (λ (r : NumberedRule). r.call < n) (numbered_rules 0 c.args.bound.now))
    (sym c.requires.each) (calls_below c.args.bound.now))

pub link_numbered-requires-clause-templates : goal.link_numbered-requires-clause-templates
link_numbered-requires-clause-templates c =
    let is = c.as_slice.ensures.value ∙ c.in_ok-rules.ensures in
    c.requires.templates ∙ sym (map_rules rule_template 0 c.args.bound.now)
    ∙ ap (map (λ (r : NumberedRule). rule_template r.rule)) (sym is)
