use Rattle.std.proofs.Common.{◌≡◌, ◌++◌, drop, map}
use Rattle.descriptor_pool.specs.JsonFieldNames.{json_of}
use Rattle.descriptor_pool.proofs.json_names.json_names_of.Given as goal

abbrev pub invariant-loop-field : goal.invariant-loop-field
invariant-loop-field l = l.names.items ++ map json_of (drop l.field-index l.fields) ≡ map json_of l.fields
