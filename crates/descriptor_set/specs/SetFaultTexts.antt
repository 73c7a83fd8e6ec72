-- The texts of why a descriptor set is not read.
use Rattle.std.specs.Prelude.{◌++◌, ℕ, List, codes, decimal}
use Rattle.base.specs.NoMemoryText.{no_memory_text}
use Rattle.wire_records.specs.WireKindNames.{wire_fault_text}
use Rattle.descriptor_set.specs.declared.fault.SetFault.{SetFault}
use Rattle.descriptor_set.specs.declared.fault.SetFault.TheVariants as found

-- the text of a fault, with its offset in decimal
abbrev pub set_fault_text : SetFault → List ℕ
set_fault_text (found.Wire w) = wire_fault_text w
set_fault_text (found.NotUtf8 place) = codes "NotUtf8 at " ++ decimal place
set_fault_text found.TooLong = codes "TooLong"
set_fault_text found.NoMemory = no_memory_text
