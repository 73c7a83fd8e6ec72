use Rattle.std.proofs.Common.{◌≡◌, ◌++◌, ◌+◌, ◌*◌, drop, map, Bor}
use Rattle.descriptor_set.specs.DescriptorFields.{message_info}
use Rattle.schema.specs.declared.value.Value.{Value}
use Rattle.descriptor_set.proofs.message_reader.+message.Given as goal

abbrev pub decreases-read_message : goal.decreases-read_message
decreases-read_message l = 3 * l.levels

abbrev pub decreases-read_parts : goal.decreases-read_parts
decreases-read_parts l = 3 * l.levels + 2

abbrev pub decreases-read_messages : goal.decreases-read_messages
decreases-read_messages l = 3 * l.levels + 1

abbrev pub invariant-read_messages-loop-value : goal.invariant-read_messages-loop-value
invariant-read_messages-loop-value l = l.read ++ map (message_info l.levels) (map (λ (v : Bor Value). v.now) (drop l.value-index l.values)) ≡ map (message_info l.levels) (map (λ (v : Bor Value). v.now) l.values)
