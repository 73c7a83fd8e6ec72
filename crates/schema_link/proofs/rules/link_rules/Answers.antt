use Rattle.std.proofs.lemmas.Result.{err_from_is_err_and}
use Rattle.schema_link.specs.LinkAnswers.{linked_rule_faults}
use Rattle.set_faults.proofs.Theorems.{first_of_item}
use Rattle.schema_link.proofs.rules.link_rules.Goals as goal

pub returns-in_err-link_rule-in-Some-clause-faults : goal.returns-in_err-link_rule-in-Some-clause-faults
returns-in_err-link_rule-in-Some-clause-faults c =
    let p = err_from_is_err_and c.from_residual.result c.from_residual.ensures.1 in
    rw (p.1, p.2) (first_of_item (linked_rule_faults c.args.names.now c.args.methods.now) _ c.args.rules.now c.loop-rule.rule-index c.rule-item.result c.loop-rule-test.true c.rule-item.is c.loop-rule.invariant.rest c.in_err-link_rule-in-Some.ensures.faults)
