use Rattle.std.proofs.Common.{arith}
use Rattle.std.proofs.lemmas.List.{take_rest}
use Rattle.gate_world.proofs.PieceLemmas.{gains_more, gains_same}
use Rattle.gate_world.proofs.writing.write_all.Goals as goal

pub loop-done-preserved : goal.loop-done-preserved
loop-done-preserved g c = record {
  later = omega (arith, c.loop-done.invariant.later, c.in-Taken.ensures.cause.later);
  within = omega (arith, c.loop-done.invariant.within, c.in-Taken.ensures.bound.0);
  told = gains_more _ _ _ c.args.bytes.now _ c.loop-done.done c.in-Taken.n _ c.loop-done.invariant.told (take_rest c.args.bytes.now c.loop-done.done) c.in-Taken.is c.write.ensures.bytes;
}

pub returns-in-Failed-clause-part : goal.returns-in-Failed-clause-part
returns-in-Failed-clause-part g c =
    (c.loop-done.done, c.loop-done-test.true, gains_same _ _ _ _ _ _ c.loop-done.invariant.told c.in-Failed.is c.write.ensures.bytes)
