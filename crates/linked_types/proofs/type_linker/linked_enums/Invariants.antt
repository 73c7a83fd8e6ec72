use Rattle.std.proofs.Common.{◌≡◌, ◌++◌, drop, option_map}
use Rattle.linked_types.specs.LinkedTypes.{linked_enums}
use Rattle.linked_types.proofs.type_linker.linked_enums.Given as goal

abbrev pub invariant-loop-index : goal.invariant-loop-index
invariant-loop-index l =
    option_map (λ ys. l.enums ++ ys) (linked_enums l.types (drop l.index-index l.indexes)) ≡ linked_enums l.types l.indexes
