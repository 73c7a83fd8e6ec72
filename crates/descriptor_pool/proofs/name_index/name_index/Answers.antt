use Rattle.std.proofs.Common.{arith}
use Rattle.descriptor_pool.proofs.NameLemmas.{at_name_more}
use Rattle.descriptor_pool.proofs.name_index.name_index.Goals as goal

pub loop-at-preserved : goal.loop-at-preserved
loop-at-preserved c = record {
  within = omega arith;
  found = at_name_more c.args.names.now c.loop-at.at c.loop-at.index c.insert.new.self c.copy.result c.loop-at-test.true c.loop-at.invariant.within c.index-names-at.result c.index-names-at.is c.copy.ensures c.in_ok-insert.ensures.updates c.loop-at.invariant.found;
}
