use Rattle.std.proofs.Common.{◌≡◌, ◌++◌, drop, map}
use Rattle.std.specs.List.{filter_map}
use Rattle.wire_format.specs.FieldValues.{sized_of}
use Rattle.wire_records.specs.RecordViews.{payload_of}
use Rattle.wire_format.proofs.payloads.chunks_of.Given as goal

abbrev pub invariant-loop-payload : goal.invariant-loop-payload
invariant-loop-payload l = map (λ b. b.now) l.found.items ++ filter_map sized_of (map payload_of (drop l.payload-index l.payloads)) ≡ filter_map sized_of (map payload_of l.payloads)
