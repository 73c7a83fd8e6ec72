use Rattle.std.proofs.Common.{◌≡◌, drop}
use Rattle.schema.specs.Value.{slot_in}
use Rattle.schema.proofs.value.Value.get.Given as goal

abbrev pub invariant-loop-n : goal.invariant-loop-n
invariant-loop-n l = slot_in (drop l.n-index l.n-items) l.number ≡ slot_in l.n-items l.number
