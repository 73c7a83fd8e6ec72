use Rattle.std.proofs.Common.{◌≡◌, ◌+◌, drop}
use Rattle.hpack_codec.specs.StaticTable.{static_table}
use Rattle.hpack_codec.specs.EncodedBlock.{field_index_from, static_field_index}
use Rattle.hpack_codec.proofs.static_table.field_index.Given as goal

abbrev pub invariant-loop-i : goal.invariant-loop-i
invariant-loop-i l = static_field_index (l.name, l.value) ≡ field_index_from (l.i + 1) (drop l.i static_table) (l.name, l.value)
