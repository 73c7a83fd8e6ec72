use Rattle.std.proofs.Common.{◌≡◌, ◌++◌, drop}
use Rattle.std.specs.List.{flat_map}
use Rattle.descriptor_pool.specs.SetMethods.{file_methods}
use Rattle.descriptor_pool.proofs.set_methods.bound_methods.Given as goal

abbrev pub invariant-loop-file : goal.invariant-loop-file
invariant-loop-file l = l.methods.items ++ flat_map file_methods (drop l.file-index l.file-items) ≡ flat_map file_methods l.file-items
