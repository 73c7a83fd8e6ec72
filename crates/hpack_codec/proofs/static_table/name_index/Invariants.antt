use Rattle.std.proofs.Common.{◌≡◌, ◌+◌, drop}
use Rattle.hpack_codec.specs.StaticTable.{static_table}
use Rattle.hpack_codec.specs.EncodedBlock.{name_index_from, static_name_index}
use Rattle.hpack_codec.proofs.static_table.name_index.Given as goal

abbrev pub invariant-loop-i : goal.invariant-loop-i
invariant-loop-i l = static_name_index l.name ≡ name_index_from (l.i + 1) (drop l.i static_table) l.name
