use Rattle.std.proofs.Common.{◌≡◌, ◌-◌, ◌≤◌, ◌++◌, length, drop, map}
use Rattle.wire_records.specs.RecordViews.{raw_of}
use Rattle.wire_records.specs.WireRecord.{records}
use Rattle.wire_records.proofs.collected.records_of.Given as goal

abbrev pub decreases-loop-at : goal.decreases-loop-at
decreases-loop-at l = length l.bytes - l.at

abbrev pub invariant-loop-at : goal.invariant-loop-at
invariant-loop-at l = record {
  within : l.at ≤ length l.bytes;
  told : map raw_of l.found.items ++ records l.level 0 (drop l.at l.bytes) ≡ records l.level 0 l.bytes;
}
