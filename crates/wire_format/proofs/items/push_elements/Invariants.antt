use Rattle.std.proofs.Common.{◌≡◌, ◌-◌, ◌≤◌, ◌++◌, length, drop, map}
use Rattle.schema.specs.declared.value.Item.{out-Item}
use Rattle.wire_format.specs.Scalars.{elements}
use Rattle.wire_format.proofs.items.push_elements.Given as goal

abbrev pub decreases-loop-at : goal.decreases-loop-at
decreases-loop-at l = length l.bytes - l.at

abbrev pub invariant-loop-at : goal.invariant-loop-at
invariant-loop-at l = record {
  within : l.at ≤ length l.bytes;
  told : map out-Item l.items ++ elements l.types l.scalar 0 (drop l.at l.bytes) ≡ map out-Item l.initial.items ++ elements l.types l.scalar 0 l.bytes;
}
