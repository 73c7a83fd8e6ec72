use Rattle.descriptor_pool.proofs.NameLemmas.{names_more}
use Rattle.descriptor_pool.proofs.name_index.name_set.Goals as goal

pub loop-name-preserved : goal.loop-name-preserved
loop-name-preserved c = names_more c.args.names.now c.loop-name.name-index c.loop-name.set c.insert.new.self c.name-item.result c.copy.result c.loop-name-test.true c.name-item.is c.copy.ensures c.in_ok-insert.ensures.updates c.loop-name.invariant
