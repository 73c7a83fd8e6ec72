use Rattle.std.proofs.Common.{◌∙◌}
use Rattle.std.proofs.lemmas.Result.{on_ok_weaker}
use Rattle.http_rules.proofs.PrintLemmas.{next_ranges, next_within, next_put, last_put}
use Rattle.http_rules.proofs.printer.put_parts.Goals as goal

pub put_through-requires-clause-within : goal.put_through-requires-clause-within
put_through-requires-clause-within c = next_within c.args.variables.now c.loop-variable.variable-index c.variable-item.result c.loop-variable.from _ c.loop-variable-test.true c.variable-item.is c.loop-variable.invariant.1

pub loop-variable-preserved : goal.loop-variable-preserved
loop-variable-preserved c = (
  next_put c.args.segments.now c.args.variables.now c.loop-variable.variable-index c.variable-item.result c.loop-variable.from c.loop-variable.out.items c.put_through.new.out.items _ c.loop-variable-test.true c.variable-item.is c.loop-variable.invariant.1 c.loop-variable.invariant.0 c.in_ok-put_through.ensures,
  (next_ranges c.args.variables.now c.loop-variable.variable-index c.variable-item.result c.loop-variable.from _ c.loop-variable-test.true c.variable-item.is c.loop-variable.invariant.1).2,
)

pub returns : goal.returns
returns c = on_ok_weaker c.put_slashed.result (λ e. e ∙ last_put c.args.segments.now c.args.variables.now c.loop-variable.variable-index c.loop-variable.from c.loop-variable.out.items _ c.loop-variable-test.false c.loop-variable.invariant.0) c.put_slashed.ensures
