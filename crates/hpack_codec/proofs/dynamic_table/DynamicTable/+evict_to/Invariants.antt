use Rattle.std.proofs.Common.{length}
use Rattle.hpack_codec.proofs.dynamic_table.DynamicTable.+evict_to.Given as goal

abbrev pub decreases-evict_to : goal.decreases-evict_to
decreases-evict_to l = length l.self.now.fields
