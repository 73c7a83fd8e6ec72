use Rattle.std.proofs.Common.{◌≤◌, drop, length}
use Rattle.field_index.specs.EnumMaps.{IsValueMap}
use Rattle.field_index.proofs.indexed_enums.value_map.Given as goal

abbrev pub invariant-loop-at : goal.invariant-loop-at
invariant-loop-at l = record {
  within : l.at ≤ length l.values;
  found : IsValueMap l.map (drop l.at l.values);
}

abbrev pub decreases-loop-at : goal.decreases-loop-at
decreases-loop-at l = l.at
