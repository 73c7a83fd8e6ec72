use Rattle.std.proofs.Common.{◌≡◌, ◌++◌, drop}
use Rattle.std.specs.List.{flat_map}
use Rattle.descriptor_pool.specs.DeclaredTypes.{enum_in}
use Rattle.descriptor_pool.proofs.type_lists.enums_of.Given as goal

abbrev pub invariant-loop-declaration : goal.invariant-loop-declaration
invariant-loop-declaration l = l.enums.items ++ flat_map enum_in (drop l.declaration-index l.declarations) ≡ flat_map enum_in l.declarations
