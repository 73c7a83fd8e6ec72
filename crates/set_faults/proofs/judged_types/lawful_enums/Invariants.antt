use Rattle.std.proofs.Common.{◌≡◌, ◌++◌, map, drop}
use Rattle.descriptor_pool.specs.DeclaredNames.{DeclaredEnum}
use Rattle.set_faults.specs.MessageFaults.{is_lawful_enum}
use Rattle.set_faults.proofs.judged_types.lawful_enums.Given as goal

abbrev pub invariant-loop-declared : goal.invariant-loop-declared
invariant-loop-declared l =
    l.lawful.items ++ map (λ (e : DeclaredEnum). is_lawful_enum e.values) (drop l.declared-index l.enums) ≡ map (λ (e : DeclaredEnum). is_lawful_enum e.values) l.enums
