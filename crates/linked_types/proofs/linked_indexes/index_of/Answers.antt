use Rattle.std.proofs.Common.{arith}
use Rattle.linked_types.proofs.IndexLemmas.{index_at_more}
use Rattle.linked_types.proofs.linked_indexes.index_of.Goals as goal

pub loop-at-preserved : goal.loop-at-preserved
loop-at-preserved c = record {
  within = omega arith;
  found = index_at_more c.args.indexes.now c.loop-at.at c.loop-at.places c.insert.new.self c.loop-at-test.true c.loop-at.invariant.within c.in_ok-insert.ensures.updates c.loop-at.invariant.found;
}
