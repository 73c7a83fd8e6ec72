use Rattle.std.proofs.Common.{◌≡◌, ◌++◌, drop, map}
use Rattle.descriptor_pool.specs.DeclaredNames.{DeclaredEnum}
use Rattle.descriptor_pool.proofs.type_lists.enum_names.Given as goal

abbrev pub invariant-loop-declared : goal.invariant-loop-declared
invariant-loop-declared l = map (λ n. n.now) l.names.items ++ map (λ (e : DeclaredEnum). e.name) (drop l.declared-index l.enums) ≡ map (λ (e : DeclaredEnum). e.name) l.enums
