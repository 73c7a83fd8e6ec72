use Rattle.std.proofs.Common.{◌↔◌, drop}
use Rattle.schema.specs.Value.{RiseFrom}
use Rattle.schema.proofs.validity.do_numbers_rise.Given as goal

abbrev pub invariant-loop-number : goal.invariant-loop-number
invariant-loop-number l = RiseFrom l.low (drop l.number-index l.slots) ↔ RiseFrom 0 l.slots
