use Rattle.std.proofs.Common.{arith}
use Rattle.hpack_codec.proofs.TableLemmas.{used_is}
use Rattle.hpack_codec.proofs.dynamic_table.DynamicTable.resize.Goals as goal

pub invariant_of-self : goal.invariant_of-self
invariant_of-self c =
    let u = used_is c.self.inside.lengths.items c.self.inside.bytes.items c.self.inside.size c.self.inside.max_size c.evict_to.new.self c.self.invariant.2 c.self.invariant.3 c.self.view_is in
    (c.self.invariant.0, c.self.invariant.1, c.self.invariant.2, c.self.invariant.3, omega (arith, u, c.evict_to.ensures.size), c.requires)
