use Rattle.std.proofs.Common.{◌≡◌, ◌+◌, ◌-◌, ◌≤◌, length, drop}
use Rattle.wire_format.specs.WireFaults.{element_fault}
use Rattle.wire_format.proofs.checker.check_elements.Given as goal

abbrev pub decreases-loop-at : goal.decreases-loop-at
decreases-loop-at l = length l.bytes - l.at

abbrev pub invariant-loop-at : goal.invariant-loop-at
invariant-loop-at l = record {
  within : l.at ≤ length l.bytes;
  told : element_fault l.scalar (l.place + l.at) 0 (drop l.at l.bytes) ≡ element_fault l.scalar l.place 0 l.bytes;
}
