use Rattle.std.proofs.Common.{sym, arith, subst, Err}
use Rattle.wire_format.specs.Checks.{Finds}
use Rattle.wire_format.proofs.decoding.FaultLemmas.{elements_go_on, elements_stop}
use Rattle.wire_format.proofs.checker.check_elements.Goals as goal

pub loop-at-preserved : goal.loop-at-preserved
loop-at-preserved c = record {
  within = omega (arith, c.in-Ok.ensures.within, c.split_at.ensures.back_len);
  told = elements_go_on c.args.bytes.now c.loop-at.at c.loop-at-test.true _ c.split_at.ensures.back c.args.scalar c.args.place _ c.loop-at.invariant.told c.scalar_wire.result _ c.scalar_wire.ensures.value c.in-Ok.ensures.within.0 c.in-Ok.ensures.value;
}

pub returns-in-Err : goal.returns-in-Err
returns-in-Err c =
    subst (Finds (Err c.fault_at.result))
    (sym (elements_stop c.args.bytes.now c.loop-at.at c.loop-at-test.true _ c.split_at.ensures.back c.args.scalar c.args.place _ c.loop-at.invariant.told c.scalar_wire.result c.in-Err.kind c.scalar_wire.ensures.value c.in-Err.ensures.value))
    c.fault_at.ensures
