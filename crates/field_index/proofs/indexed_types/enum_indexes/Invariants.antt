use Rattle.std.proofs.Common.{◌≡◌, ◌++◌, drop, map}
use Rattle.message_types.specs.declared.enums.EnumType.{EnumType}
use Rattle.field_index.proofs.indexed_types.enum_indexes.Given as goal

abbrev pub invariant-loop-declared : goal.invariant-loop-declared
invariant-loop-declared l =
    l.indexes.items ++ map (λ (e : EnumType). e.values) (drop l.declared-index l.enums)
    ≡ map (λ (e : EnumType). e.values) l.enums
