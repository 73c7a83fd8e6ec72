use Rattle.std.proofs.Common.{◌≡◌, ◌++◌, drop, map}
use Rattle.descriptor_set.specs.DescriptorTypes.{field_of}
use Rattle.descriptor_set.proofs.descriptor_types.fields_of.Given as goal

abbrev pub invariant-loop-number : goal.invariant-loop-number
invariant-loop-number l = l.fields ++ map field_of (drop l.number-index l.listed) ≡ map field_of l.listed
