use Rattle.std.proofs.Common.{◌≡◌, ◌++◌, drop, map}
use Rattle.descriptor_set.specs.DescriptorTypes.{message_type}
use Rattle.descriptor_set.proofs.descriptor_types.message_types.Given as goal

abbrev pub invariant-loop-message : goal.invariant-loop-message
invariant-loop-message l = l.messages ++ map message_type (drop l.message-index l.described) ≡ map message_type l.described
