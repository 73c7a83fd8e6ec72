use Rattle.std.proofs.Common.{map, arith}
use Rattle.schema.specs.declared.value.Item.{out-Item}
use Rattle.wire_format.proofs.decoding.CollectLemmas.{elements_more, elements_stopped}
use Rattle.wire_format.proofs.items.push_elements.Goals as goal

pub loop-at-preserved : goal.loop-at-preserved
loop-at-preserved c = record {
  within = omega (arith, c.in-Ok.ensures.within, c.split_at.ensures.back_len);
  told = elements_more c.args.types.now c.args.scalar c.args.bytes.now c.loop-at.at c.loop-at-test.true _ c.split_at.ensures.back c.scalar_wire.result c.scalar_wire.ensures.value (map out-Item c.loop-at.items) _ c.loop-at.invariant.told
      _ _ c.in-Ok.ensures.within.0 c.in-Ok.ensures.value c.in_ok-push_scalar-in-Ok.ensures;
}

pub returns-in-Err : goal.returns-in-Err
returns-in-Err c =
    elements_stopped c.args.types.now c.args.scalar c.args.bytes.now c.loop-at.at c.loop-at-test.true _ c.split_at.ensures.back c.scalar_wire.result c.scalar_wire.ensures.value (map out-Item c.loop-at.items) _ c.loop-at.invariant.told _ c.in-Err.ensures.value
