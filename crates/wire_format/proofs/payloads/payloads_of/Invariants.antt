use Rattle.std.proofs.Common.{◌≡◌, ◌++◌, drop, map}
use Rattle.wire_format.specs.FieldValues.{payloads}
use Rattle.wire_records.specs.RecordViews.{raw_of, payload_of}
use Rattle.wire_format.proofs.payloads.payloads_of.Given as goal

abbrev pub invariant-loop-record : goal.invariant-loop-record
invariant-loop-record l = map payload_of l.found.items ++ payloads l.number (map raw_of (drop l.record-index l.records)) ≡ payloads l.number (map raw_of l.records)
