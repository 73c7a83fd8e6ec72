use Rattle.std.proofs.Common.{◌∙◌}
use Rattle.std.proofs.lemmas.Result.{err_from_is_err_and}
use Rattle.set_faults.specs.MethodFaults.{method_faults}
use Rattle.set_faults.proofs.TemplateLemmas.{templates_past}
use Rattle.set_faults.proofs.Theorems.{first_of_item, past_item}
use Rattle.set_faults.proofs.method_faults.check_methods.Goals as goal

pub returns-in_err-put_method-clause-first : goal.returns-in_err-put_method-clause-first
returns-in_err-put_method-clause-first c =
    let p = err_from_is_err_and c.from_residual.result c.from_residual.ensures.1 in
    rw (p.1, p.2) (first_of_item (method_faults c.args.types.now) _ c.args.methods.now c.loop-method.method-index c.method-item.result c.loop-method-test.true c.method-item.is c.loop-method.invariant.rest c.in_err-put_method.ensures.first)

pub loop-method-preserved : goal.loop-method-preserved
loop-method-preserved c = record {
  rest = past_item (method_faults c.args.types.now) c.args.methods.now c.loop-method.method-index c.method-item.result c.loop-method-test.true c.method-item.is c.in_ok-put_method.ensures.first ∙ c.loop-method.invariant.rest;
  templates = templates_past c.args.methods.now c.loop-method.method-index c.method-item.result c.loop-method-test.true c.method-item.is c.loop-method.templates.items c.put_method.new.out.items c.in_ok-put_method.ensures.templates ∙ c.loop-method.invariant.templates;
}
