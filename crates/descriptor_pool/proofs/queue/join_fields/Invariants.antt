use Rattle.std.proofs.Common.{◌≡◌, drop, fold}
use Rattle.descriptor_pool.specs.QueueSteps.{Sees}
use Rattle.descriptor_pool.specs.ReachableTypes.{fields_join, with_joined}
use Rattle.descriptor_pool.proofs.queue.join_fields.Given as goal

abbrev pub invariant-loop-field : goal.invariant-loop-field
invariant-loop-field l = record {
  told : fold with_joined l.queue.items (fields_join l.types l.path (drop l.field-index l.fields)) ≡ fold with_joined l.initial.queue.items (fields_join l.types l.path l.fields);
  sees : Sees l.seen l.queue.items;
}
