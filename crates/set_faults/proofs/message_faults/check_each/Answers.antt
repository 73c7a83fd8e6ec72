use Rattle.std.proofs.lemmas.Result.{err_from_is_err_and}
use Rattle.set_faults.specs.MessageFaults.{joined_faults}
use Rattle.set_faults.proofs.Theorems.{first_of_item}
use Rattle.set_faults.proofs.message_faults.check_each.Goals as goal

pub returns-in_err-check_joined : goal.returns-in_err-check_joined
returns-in_err-check_joined c =
    let p = err_from_is_err_and c.from_residual.result c.from_residual.ensures.1 in
    rw (p.1, p.2) (first_of_item (joined_faults c.args.types.now) _ c.args.reached.now c.loop-joined.joined-index c.joined-item.result c.loop-joined-test.true c.joined-item.is c.loop-joined.invariant c.in_err-check_joined.ensures)
