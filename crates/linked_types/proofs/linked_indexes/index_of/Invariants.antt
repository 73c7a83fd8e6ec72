use Rattle.std.proofs.Common.{◌≡◌, ◌≤◌, ℕ, drop, length}
use Rattle.std.specs.BTreeMap.{get}
use Rattle.std.specs.Ordering.{nat_cmp}
use Rattle.linked_types.specs.LinkedTypes.{index_from}
use Rattle.linked_types.proofs.linked_indexes.index_of.Given as goal

abbrev pub invariant-loop-at : goal.invariant-loop-at
invariant-loop-at l = record {
  within : l.at ≤ length l.indexes;
  found : (i : ℕ) → get nat_cmp l.places i ≡ index_from l.at (drop l.at l.indexes) i;
}

abbrev pub decreases-loop-at : goal.decreases-loop-at
decreases-loop-at l = l.at
