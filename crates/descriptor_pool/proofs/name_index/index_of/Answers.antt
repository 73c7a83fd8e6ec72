use Rattle.std.proofs.Common.{arith}
use Rattle.descriptor_pool.proofs.TextSetLemmas.{index_at_more}
use Rattle.descriptor_pool.proofs.name_index.index_of.Goals as goal

pub loop-at-preserved : goal.loop-at-preserved
loop-at-preserved c = record {
  within = omega arith;
  found = index_at_more c.args.names.now c.loop-at.at c.loop-at.index c.insert.new.self c.loop-at-test.true c.loop-at.invariant.within c.in_ok-insert.ensures.updates c.loop-at.invariant.found;
}
