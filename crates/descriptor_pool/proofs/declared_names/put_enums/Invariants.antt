use Rattle.std.proofs.Common.{◌≡◌, ◌++◌, drop}
use Rattle.descriptor_pool.specs.DeclaredNames.{enums_in}
use Rattle.descriptor_pool.proofs.declared_names.put_enums.Given as goal

abbrev pub invariant-loop-declared : goal.invariant-loop-declared
invariant-loop-declared l = l.out.items ++ enums_in l.scope (drop l.declared-index l.enums) ≡ l.initial.out.items ++ enums_in l.scope l.enums
