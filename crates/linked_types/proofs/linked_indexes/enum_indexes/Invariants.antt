use Rattle.std.proofs.Common.{◌≡◌, [], drop, fold}
use Rattle.std.specs.List.{flat_map}
use Rattle.descriptor_pool.specs.ReachableTypes.{message_enums, with_index}
use Rattle.linked_types.specs.IndexSteps.{HasIndexes}
use Rattle.linked_types.proofs.linked_indexes.enum_indexes.Given as goal

abbrev pub invariant-loop-joined : goal.invariant-loop-joined
invariant-loop-joined l = record {
  told : fold with_index l.enums.items (flat_map (message_enums l.types) (drop l.joined-index l.reached)) ≡ fold with_index [] (flat_map (message_enums l.types) l.reached);
  sees : HasIndexes l.seen l.enums.items;
}
