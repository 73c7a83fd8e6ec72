use Rattle.std.proofs.Common.{◌≤◌, drop, length}
use Rattle.field_index.specs.FieldMaps.{IsNumberMap}
use Rattle.field_index.proofs.indexed_fields.number_map.Given as goal

abbrev pub invariant-loop-at : goal.invariant-loop-at
invariant-loop-at l = record {
  within : l.at ≤ length l.fields;
  found : IsNumberMap l.map (drop l.at l.fields);
}

abbrev pub decreases-loop-at : goal.decreases-loop-at
decreases-loop-at l = l.at
