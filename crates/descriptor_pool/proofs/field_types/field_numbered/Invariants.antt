use Rattle.std.proofs.Common.{◌≡◌, drop}
use Rattle.descriptor_pool.specs.FieldTypes.{field_numbered}
use Rattle.descriptor_pool.proofs.field_types.field_numbered.Given as goal

abbrev pub invariant-loop-field : goal.invariant-loop-field
invariant-loop-field l = field_numbered l.number (drop l.field-index l.fields) ≡ field_numbered l.number l.fields
