use Rattle.std.proofs.Common.{◌≡◌, ◌++◌, drop, map, Bor}
use Rattle.descriptor_set.specs.DescriptorFields.{oneof_name}
use Rattle.schema.specs.declared.value.Value.{Value}
use Rattle.descriptor_set.proofs.message_reader.read_oneofs.Given as goal

abbrev pub invariant-loop-value : goal.invariant-loop-value
invariant-loop-value l = l.read ++ map oneof_name (map (λ (v : Bor Value). v.now) (drop l.value-index l.values)) ≡ map oneof_name (map (λ (v : Bor Value). v.now) l.values)
