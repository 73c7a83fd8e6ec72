use Rattle.std.proofs.Common.{◌≡◌, ◌≤◌, ◌-◌, drop, length, map}
use Rattle.wire_format.specs.FieldValues.{since, sets_other}
use Rattle.wire_records.specs.RecordViews.{raw_of}
use Rattle.wire_format.proofs.decoding.OneofLemmas.{since_or}
use Rattle.wire_format.proofs.payloads.since_other.Given as goal

abbrev pub decreases-loop-at : goal.decreases-loop-at
decreases-loop-at l = length l.records - l.at

abbrev pub invariant-loop-at : goal.invariant-loop-at
invariant-loop-at l = record {
  begun : l.start ≤ length l.records;
  within : l.at ≤ length l.records;
  told : since_or (sets_other l.types l.fields l.oneof l.number) (map raw_of (drop l.start l.records)) (map raw_of (drop l.at l.records)) ≡ since (sets_other l.types l.fields l.oneof l.number) (map raw_of l.records);
}
