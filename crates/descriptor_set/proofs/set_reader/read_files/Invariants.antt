use Rattle.std.proofs.Common.{◌≡◌, ◌++◌, drop, map, Bor}
use Rattle.descriptor_set.specs.DescriptorFields.{file_info}
use Rattle.schema.specs.declared.value.Value.{Value}
use Rattle.descriptor_set.proofs.set_reader.read_files.Given as goal

abbrev pub invariant-loop-value : goal.invariant-loop-value
invariant-loop-value l = l.read ++ map file_info (map (λ (v : Bor Value). v.now) (drop l.value-index l.values)) ≡ map file_info (map (λ (v : Bor Value). v.now) l.values)
