use Rattle.std.proofs.Common.{◌-◌, arith}
use Rattle.base.proofs.PowerLemmas.{grows, pow_cap, pow_low}
use Rattle.base.proofs.base128.+read_groups.Goals as goal

pub returns-then-first-lt128-clause-small : goal.returns-then-first-lt128-clause-small
returns-then-first-lt128-clause-small t c = omega (arith, pow_low c.args.left (omega arith))

pub overflow_mul-result : goal.overflow_mul-result
overflow_mul-result t c =
    let cap = pow_cap (c.args.left - 1) (omega arith) in
    omega (arith, c.in_ok-high.ensures.small)

pub overflow_add-result : goal.overflow_add-result
overflow_add-result t c =
    let cap = pow_cap (c.args.left - 1) (omega arith) in
    omega (arith, c.in_ok-high.ensures.small, c.type_inv.bytes 0, c.in-Some.ensures.cases)

pub returns-clause-small : goal.returns-clause-small
returns-clause-small t c =
    grows c.args.left c.in_ok-high.high _ (omega arith) c.in_ok-high.ensures.small (omega arith)
