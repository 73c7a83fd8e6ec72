use Rattle.std.proofs.Common.{◌≡◌, drop, fold}
use Rattle.std.specs.List.{flat_map}
use Rattle.descriptor_pool.specs.ReachableTypes.{named_enum, with_index}
use Rattle.linked_types.specs.IndexSteps.{HasIndexes}
use Rattle.linked_types.proofs.linked_indexes.put_enums.Given as goal

abbrev pub invariant-loop-field : goal.invariant-loop-field
invariant-loop-field l = record {
  told : fold with_index l.enums.items (flat_map (named_enum l.types) (drop l.field-index l.fields)) ≡ fold with_index l.initial.enums.items (flat_map (named_enum l.types) l.fields);
  sees : HasIndexes l.seen l.enums.items;
}
