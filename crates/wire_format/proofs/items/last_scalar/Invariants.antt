use Rattle.std.proofs.Common.{◌≡◌, drop, map}
use Rattle.std.specs.List.{AllByRecursion, filter_map}
use Rattle.std.specs.Prelude.{option_map}
use Rattle.schema.specs.declared.value.Item.{out-Item}
use Rattle.wire_format.specs.FieldValues.{last_of}
use Rattle.wire_format.specs.GoodBytes.{IsGoodText}
use Rattle.wire_records.specs.RecordViews.{payload_of}
use Rattle.wire_format.specs.Scalars.{scalar_of}
use Rattle.wire_format.proofs.decoding.ItemLemmas.{last_after}
use Rattle.wire_format.proofs.items.last_scalar.Given as goal

abbrev pub invariant-loop-payload : goal.invariant-loop-payload
invariant-loop-payload l = record {
  rest : AllByRecursion (IsGoodText l.scalar) (map payload_of (drop l.payload-index l.payloads));
  told : last_after (option_map out-Item l.last) (filter_map (scalar_of l.types l.scalar) (map payload_of (drop l.payload-index l.payloads))) ≡ last_of (filter_map (scalar_of l.types l.scalar) (map payload_of l.payloads));
}
