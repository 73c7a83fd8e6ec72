use Rattle.std.proofs.Common.{arith}
use Rattle.hpack_codec.proofs.TableLemmas.{evicted_table, kept_table}
use Rattle.hpack_codec.proofs.dynamic_table.DynamicTable.+evict_to.Goals as goal

pub returns-then-used-size-clause-table : goal.returns-then-used-size-clause-table
returns-then-used-size-clause-table t c = evicted_table c.args.self.now c.evict_oldest.new.self c.evict_to.new.self c.args.size (omega arith) c.evict_oldest.ensures c.evict_to.ensures.table

pub returns-else-used-size-clause-table : goal.returns-else-used-size-clause-table
returns-else-used-size-clause-table t c = kept_table c.args.self.now c.args.size (omega arith)
