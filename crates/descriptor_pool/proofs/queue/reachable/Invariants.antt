use Rattle.descriptor_pool.specs.QueueSteps.{Sees}
use Rattle.descriptor_pool.proofs.QueueLemmas.{IsWorkedOff}
use Rattle.descriptor_pool.proofs.queue.reachable.Given as goal

abbrev pub invariant-loop-at : goal.invariant-loop-at
invariant-loop-at l = record {
  worked : IsWorkedOff l.types l.methods l.queue.items l.at;
  sees : Sees l.seen l.queue.items;
}
