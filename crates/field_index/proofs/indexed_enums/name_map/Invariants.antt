use Rattle.std.proofs.Common.{◌≤◌, drop, length}
use Rattle.field_index.specs.EnumMaps.{IsNameMap}
use Rattle.field_index.proofs.indexed_enums.name_map.Given as goal

abbrev pub invariant-loop-at : goal.invariant-loop-at
invariant-loop-at l = record {
  within : l.at ≤ length l.values;
  found : IsNameMap l.map (drop l.at l.values);
}

abbrev pub decreases-loop-at : goal.decreases-loop-at
decreases-loop-at l = l.at
