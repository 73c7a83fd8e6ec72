use Rattle.descriptor_pool.proofs.NameLemmas.{tied_is}
use Rattle.descriptor_pool.proofs.name_order.FullNamePartialEq.eq.Goals as goal

pub returns : goal.returns
returns c = tied_is c.args.self.now c.args.other.now c.compare.result c.eq.result c.compare.ensures c.eq.ensures
