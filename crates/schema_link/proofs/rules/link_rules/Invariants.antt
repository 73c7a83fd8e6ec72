use Rattle.std.proofs.Common.{◌≡◌, ◌++◌, Some, drop, map}
use Rattle.std.specs.List.{flat_map}
use Rattle.schema_link.specs.LinkAnswers.{linked_rule_faults}
use Rattle.schema_link.specs.SetApi.{NumberedRule, rule_binding}
use Rattle.set_faults.specs.MethodFaults.{rule_template}
use Rattle.schema_link.proofs.rules.link_rules.Given as goal

abbrev pub invariant-loop-rule : goal.invariant-loop-rule
invariant-loop-rule l = record {
  rest : flat_map (linked_rule_faults l.names l.methods) (drop l.rule-index l.rules)
      ≡ flat_map (linked_rule_faults l.names l.methods) l.rules;
  bindings : map (λ b. Some b) l.bindings ++ map (rule_binding l.names l.methods) (drop l.rule-index l.rules)
      ≡ map (rule_binding l.names l.methods) l.rules;
  templates : map (λ t. Some t) l.templates.rest.items
      ≡ map (λ (r : NumberedRule). rule_template r.rule) (drop l.rule-index l.rules);
}
