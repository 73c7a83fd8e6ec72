use Rattle.std.proofs.Common.{◌≡◌, ◌≤◌, ℕ, List, drop, length, map}
use Rattle.descriptor_pool.specs.DeclaredTypes.{first_from}
use Rattle.descriptor_pool.specs.NameIndex.{index_at}
use Rattle.descriptor_pool.proofs.name_index.index_of.Given as goal

abbrev pub invariant-loop-at : goal.invariant-loop-at
invariant-loop-at l = record {
  within : l.at ≤ length l.names;
  found : (q : List ℕ) → index_at l.index q ≡ first_from l.at (map (λ n. n.now) (drop l.at l.names)) q;
}

abbrev pub decreases-loop-at : goal.decreases-loop-at
decreases-loop-at l = l.at
