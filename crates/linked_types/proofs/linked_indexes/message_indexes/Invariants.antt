use Rattle.std.proofs.Common.{◌≡◌, ◌++◌, drop, map}
use Rattle.descriptor_pool.specs.ReachableTypes.{Joined}
use Rattle.linked_types.proofs.linked_indexes.message_indexes.Given as goal

abbrev pub invariant-loop-joined : goal.invariant-loop-joined
invariant-loop-joined l = l.indexes.items ++ map (λ (j : Joined). j.message) (drop l.joined-index l.reached) ≡ map (λ (j : Joined). j.message) l.reached
