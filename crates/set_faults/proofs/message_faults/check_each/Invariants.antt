use Rattle.std.proofs.Common.{◌≡◌, drop}
use Rattle.std.specs.List.{flat_map}
use Rattle.set_faults.specs.MessageFaults.{joined_faults}
use Rattle.set_faults.proofs.message_faults.check_each.Given as goal

abbrev pub invariant-loop-joined : goal.invariant-loop-joined
invariant-loop-joined l = flat_map (joined_faults l.types) (drop l.joined-index l.reached) ≡ flat_map (joined_faults l.types) l.reached
