use Rattle.std.proofs.Common.{◌≡◌, drop, fold}
use Rattle.std.specs.List.{flat_map}
use Rattle.descriptor_pool.specs.QueueSteps.{Sees}
use Rattle.descriptor_pool.specs.ReachableTypes.{method_roots, with_joined}
use Rattle.descriptor_pool.proofs.queue.join_methods.Given as goal

abbrev pub invariant-loop-method : goal.invariant-loop-method
invariant-loop-method l = record {
  told : fold with_joined l.queue.items (flat_map (method_roots l.types) (drop l.method-index l.methods)) ≡ fold with_joined l.initial.queue.items (flat_map (method_roots l.types) l.methods);
  sees : Sees l.seen l.queue.items;
}
