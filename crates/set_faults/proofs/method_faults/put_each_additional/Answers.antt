use Rattle.std.proofs.lemmas.Result.{err_from_is_err_and}
use Rattle.set_faults.specs.MethodFaults.{additional_faults}
use Rattle.set_faults.proofs.Theorems.{first_of_item}
use Rattle.set_faults.proofs.method_faults.put_each_additional.Goals as goal

pub returns-in_err-put_additional-clause-first : goal.returns-in_err-put_additional-clause-first
returns-in_err-put_additional-clause-first c =
    let p = err_from_is_err_and c.from_residual.result c.from_residual.ensures.1 in
    rw (p.1, p.2) (first_of_item (additional_faults c.args.path.now) _ c.args.rules.now c.loop-rule.rule-index c.rule-item.result c.loop-rule-test.true c.rule-item.is c.loop-rule.invariant.rest c.in_err-put_additional.ensures.first)
