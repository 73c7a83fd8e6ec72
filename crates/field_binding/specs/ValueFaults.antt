-- What is wrong with a scalar's text, as a fault of a value, and a fault of a value as one of its variable. These
-- definitions stand for the crate's own proofs: no public clause cites them.
use Rattle.std.specs.Prelude.{ℕ}
use Rattle.field_binding.specs.declared.fault.BindFault.{BindFault}
use Rattle.field_binding.specs.declared.fault.BindFault.TheVariants.{Path, NoMemory as NoPathMemory}
use Rattle.field_binding.specs.declared.fault.ValueFault.{ValueFault}
use Rattle.field_binding.specs.declared.fault.ValueFault.TheVariants.{Wrong, NoMemory}
use Rattle.field_binding.specs.declared.fault.ValueKind.TheVariants as kinds
use Rattle.scalar_texts.specs.declared.fault.ScalarFault.{ScalarFault}
use Rattle.scalar_texts.specs.declared.fault.ScalarFault.TheVariants as scalars

-- the fault of a value whose text has this fault
abbrev pub value_fault : ScalarFault → ValueFault
value_fault scalars.BadText = Wrong kinds.BadText
value_fault scalars.BadNumber = Wrong kinds.BadNumber
value_fault scalars.OutOfRange = Wrong kinds.OutOfRange
value_fault scalars.BadEnum = Wrong kinds.BadEnum
value_fault scalars.NotUtf8 = Wrong kinds.NotUtf8
value_fault scalars.NoMemory = NoMemory

-- the fault of a request whose variable of this number has this fault
abbrev pub fault_of_variable : ValueFault → ℕ → BindFault
fault_of_variable (Wrong kind) n = Path n kind
fault_of_variable NoMemory n = NoPathMemory
