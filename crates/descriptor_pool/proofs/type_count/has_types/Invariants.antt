use Rattle.std.proofs.Common.{◌≡◌, ◌-◌, count_by, drop}
use Rattle.std.specs.List.{flat_map}
use Rattle.descriptor_pool.specs.DeclaredNames.{file_declarations, is_type}
use Rattle.descriptor_pool.proofs.type_count.has_types.Given as goal

abbrev pub invariant-loop-file : goal.invariant-loop-file
invariant-loop-file l = l.rest - count_by is_type (flat_map file_declarations (drop l.file-index l.file-items)) ≡ l.many - count_by is_type (flat_map file_declarations l.file-items)
