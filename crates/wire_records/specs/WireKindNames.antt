-- The names of what can be wrong with a record, and the text of a fault.
use Rattle.std.specs.Prelude.{◌++◌, ℕ, List, codes, decimal}
use Rattle.wire_records.specs.declared.fault.WireFault.{WireFault}
use Rattle.wire_records.specs.declared.fault.WireKind.{WireKind}
use Rattle.wire_records.specs.declared.fault.WireKind.TheVariants as wrong

-- the name of what is wrong with a record
abbrev pub wire_kind_name : WireKind → List ℕ
wire_kind_name wrong.Short = codes "Short"
wire_kind_name wrong.LongVarint = codes "LongVarint"
wire_kind_name wrong.BadTag = codes "BadTag"
wire_kind_name wrong.BadGroup = codes "BadGroup"
wire_kind_name wrong.TooDeep = codes "TooDeep"

-- the text of a fault: where it is, in decimal, and the name of what is wrong
abbrev pub wire_fault_text : WireFault → List ℕ
wire_fault_text f = codes "Wire at " ++ (decimal f.place ++ (codes " " ++ wire_kind_name f.kind))
