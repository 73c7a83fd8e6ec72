use Rattle.std.proofs.Common.{◌≡◌, ◌+◌, ◌-◌, ◌*◌, ◌≤◌, length, drop}
use Rattle.wire_records.specs.WireRecord.{onward, group_rest, group_in}
use Rattle.wire_records.proofs.groups.+record.Given as goal

abbrev pub decreases-record_with : goal.decreases-record_with
decreases-record_with l = 2 * l.level + 1

abbrev pub decreases-group_of : goal.decreases-group_of
decreases-group_of l = 2 * l.level

abbrev pub decreases-group_of-loop-at : goal.decreases-group_of-loop-at
decreases-group_of-loop-at l = length l.rest - l.at

abbrev pub invariant-group_of-loop-at : goal.invariant-group_of-loop-at
invariant-group_of-loop-at l = record {
  some : l.level ≡ 0 → ⊥;
  within : l.at ≤ length l.rest;
  told : onward l.at (group_rest (group_in (l.level - 1)) l.number 0 (drop l.at l.rest)) ≡ group_rest (group_in (l.level - 1)) l.number 0 l.rest;
}
