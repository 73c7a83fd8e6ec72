use Rattle.std.proofs.Common.{◌≡◌, ◌+◌, ◌-◌, ◌*◌, ◌≤◌, length, drop}
use Rattle.message_types.specs.Types.{field_in}
use Rattle.wire_records.specs.RecordFaults.{records_fault}
use Rattle.wire_format.specs.WireFaults.{as_wire, field_fault, first_fault}
use Rattle.wire_format.proofs.checker.+check.Given as goal

abbrev pub decreases-check_payload : goal.decreases-check_payload
decreases-check_payload l = 3 * l.within.level + 1

abbrev pub decreases-check_record : goal.decreases-check_record
decreases-check_record l = 3 * l.within.level + 2

abbrev pub decreases-check_message : goal.decreases-check_message
decreases-check_message l = 3 * l.within.level

abbrev pub decreases-check_message-loop-at : goal.decreases-check_message-loop-at
decreases-check_message-loop-at l = length l.bytes - l.at

abbrev pub invariant-check_message-loop-at : goal.invariant-check_message-loop-at
invariant-check_message-loop-at l = record {
  some : l.within.level ≡ 0 → ⊥;
  within : l.at ≤ length l.bytes;
  told : records_fault as_wire (λ at r. field_fault (first_fault (l.within.level - 1) l.within.types.now) l.within.types.now (l.within.level - 1) (field_in l.fields r.number) at r) (l.within.level - 1) (l.place + l.at) 0 (drop l.at l.bytes)
      ≡ first_fault l.within.level l.within.types.now l.fields l.place l.bytes;
}
