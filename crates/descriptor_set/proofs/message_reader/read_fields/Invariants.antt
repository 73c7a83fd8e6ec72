use Rattle.std.proofs.Common.{◌≡◌, ◌++◌, drop, map, Bor}
use Rattle.descriptor_set.specs.DescriptorFields.{field_info}
use Rattle.schema.specs.declared.value.Value.{Value}
use Rattle.descriptor_set.proofs.message_reader.read_fields.Given as goal

abbrev pub invariant-loop-value : goal.invariant-loop-value
invariant-loop-value l = l.read ++ map field_info (map (λ (v : Bor Value). v.now) (drop l.value-index l.values)) ≡ map field_info (map (λ (v : Bor Value). v.now) l.values)
