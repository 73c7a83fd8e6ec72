-- The line on standard error that tells why a descriptor set is refused.
use Rattle.std.specs.Prelude.{◌++◌, ℕ, List, codes}
use Rattle.descriptor_set.specs.SetFaultTexts.{set_fault_text}
use Rattle.descriptor_set.specs.declared.fault.SetFault.TheVariants as unread
use Rattle.gateway_run.specs.declared.descriptor_fault.DescriptorFault.{DescriptorFault}
use Rattle.gateway_run.specs.declared.descriptor_fault.DescriptorFault.TheVariants.{Wire, NotUtf8, TooLong, Unlinked}
use Rattle.set_faults.specs.LinkFaults.{fault_at_text}

-- why a set is refused, in words
abbrev pub descriptor_text : DescriptorFault → List ℕ
descriptor_text (Wire w) = set_fault_text (unread.Wire w)
descriptor_text (NotUtf8 place) = set_fault_text (unread.NotUtf8 place)
descriptor_text TooLong = set_fault_text unread.TooLong
descriptor_text (Unlinked kind name second) = fault_at_text kind name second

-- the line
abbrev pub descriptor_line : DescriptorFault → List ℕ
descriptor_line f = codes "descriptors: " ++ (descriptor_text f ++ codes "\n")
