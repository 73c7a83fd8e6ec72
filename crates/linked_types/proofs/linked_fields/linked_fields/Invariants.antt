use Rattle.std.proofs.Common.{◌≡◌, ◌++◌, drop, option_map}
use Rattle.linked_types.specs.EachSome.{each_some}
use Rattle.linked_types.specs.LinkedTypes.{index_from, linked_field}
use Rattle.linked_types.proofs.linked_fields.linked_fields.Given as goal

abbrev pub invariant-loop-field : goal.invariant-loop-field
invariant-loop-field l =
    let link = linked_field l.types (index_from 0 l.messages) (index_from 0 l.enums) l.syntax l.fields in
    option_map (λ ys. l.linked ++ ys) (each_some link (drop l.field-index l.fields)) ≡ each_some link l.fields
