use Rattle.std.proofs.Common.{◌≡◌, ◌++◌, drop}
use Rattle.std.specs.List.{flat_map}
use Rattle.descriptor_pool.specs.DeclaredNames.{file_declarations}
use Rattle.descriptor_pool.proofs.declared_names.declarations_of.Given as goal

abbrev pub invariant-loop-file : goal.invariant-loop-file
invariant-loop-file l = l.declarations.items ++ flat_map file_declarations (drop l.file-index l.file-items) ≡ flat_map file_declarations l.file-items
