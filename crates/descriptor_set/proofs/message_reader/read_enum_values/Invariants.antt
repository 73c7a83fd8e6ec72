use Rattle.std.proofs.Common.{◌≡◌, ◌++◌, drop, map, Bor}
use Rattle.descriptor_set.specs.DescriptorFields.{enum_value}
use Rattle.schema.specs.declared.value.Value.{Value}
use Rattle.descriptor_set.proofs.message_reader.read_enum_values.Given as goal

abbrev pub invariant-loop-value : goal.invariant-loop-value
invariant-loop-value l = l.read ++ map enum_value (map (λ (v : Bor Value). v.now) (drop l.value-index l.values)) ≡ map enum_value (map (λ (v : Bor Value). v.now) l.values)
