use Rattle.std.proofs.Common.{◌≡◌, drop}
use Rattle.message_types.specs.Types.{field_in}
use Rattle.message_types.proofs.lookup.find_field.Given as goal

abbrev pub invariant-loop-field : goal.invariant-loop-field
invariant-loop-field l = field_in (drop l.field-index l.fields) l.number ≡ field_in l.fields l.number
