use Rattle.std.proofs.Common.{◌≡◌, ◌++◌, drop}
use Rattle.std.specs.List.{flat_map}
use Rattle.descriptor_pool.specs.DeclaredTypes.{message_in}
use Rattle.descriptor_pool.proofs.type_lists.messages_of.Given as goal

abbrev pub invariant-loop-declaration : goal.invariant-loop-declaration
invariant-loop-declaration l = l.messages.items ++ flat_map message_in (drop l.declaration-index l.declarations) ≡ flat_map message_in l.declarations
