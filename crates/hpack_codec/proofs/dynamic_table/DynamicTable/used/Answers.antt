use Rattle.hpack_codec.proofs.TableLemmas.{used_is}
use Rattle.hpack_codec.proofs.dynamic_table.DynamicTable.used.Goals as goal

pub returns : goal.returns
returns c = used_is c.self.inside.lengths.items c.self.inside.bytes.items c.self.inside.size c.self.inside.max_size c.args.self.now c.self.invariant.2 c.self.invariant.3 c.self.view_is
