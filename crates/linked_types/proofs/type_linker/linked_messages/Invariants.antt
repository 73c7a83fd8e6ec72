use Rattle.std.proofs.Common.{◌≡◌, ◌++◌, drop, option_map}
use Rattle.linked_types.specs.LinkedTypes.{index_from, linked_messages}
use Rattle.linked_types.proofs.type_linker.linked_messages.Given as goal

abbrev pub invariant-loop-joined : goal.invariant-loop-joined
invariant-loop-joined l =
    option_map (λ ys. l.linked ++ ys) (linked_messages l.types (index_from 0 l.messages) (index_from 0 l.enums) (drop l.joined-index l.reached))
    ≡ linked_messages l.types (index_from 0 l.messages) (index_from 0 l.enums) l.reached
