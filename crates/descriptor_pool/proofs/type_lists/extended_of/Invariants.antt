use Rattle.std.proofs.Common.{◌≡◌, ◌++◌, drop}
use Rattle.std.specs.List.{flat_map}
use Rattle.descriptor_pool.specs.DeclaredTypes.{extended_in}
use Rattle.descriptor_pool.proofs.type_lists.extended_of.Given as goal

abbrev pub invariant-loop-declaration : goal.invariant-loop-declaration
invariant-loop-declaration l = l.extended.items ++ flat_map extended_in (drop l.declaration-index l.declarations) ≡ flat_map extended_in l.declarations
