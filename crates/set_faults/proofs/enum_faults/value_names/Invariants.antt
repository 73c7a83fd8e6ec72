use Rattle.std.proofs.Common.{◌≡◌, ◌++◌, drop, map}
use Rattle.message_types.specs.declared.enums.EnumValue.{EnumValue}
use Rattle.set_faults.proofs.enum_faults.value_names.Given as goal

abbrev pub invariant-loop-value : goal.invariant-loop-value
invariant-loop-value l = map (λ n. n.now) l.names.items ++ map (λ (v : EnumValue). v.name) (drop l.value-index l.values) ≡ map (λ (v : EnumValue). v.name) l.values
