use Rattle.std.proofs.Common.{arith}
use Rattle.hpack_codec.specs.StaticTable.{static_table}
use Rattle.hpack_codec.proofs.IndexRows.{in_first, in_second, past_both}
use Rattle.hpack_codec.proofs.index_table.row_of.Goals as goal

pub returns-then-i-lt-STATIC_FIELDS : goal.returns-then-i-lt-STATIC_FIELDS
returns-then-i-lt-STATIC_FIELDS c = (in_first static_table c.args.table.now.fields c.args.index c.in-Some.i (omega arith) (omega arith) (omega arith), omega arith)

pub returns-then-newer-len : goal.returns-then-newer-len
returns-then-newer-len c = (in_second static_table c.args.table.now.fields c.args.index _ (omega arith) (omega arith) (omega arith), omega arith)

pub returns-else-newer-len : goal.returns-else-newer-len
returns-else-newer-len c = past_both static_table c.args.table.now.fields c.args.index (omega arith) (omega arith)
