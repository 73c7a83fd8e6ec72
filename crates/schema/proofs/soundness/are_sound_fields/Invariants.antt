use Rattle.std.proofs.Common.{◌↔◌, drop}
use Rattle.std.specs.List.{AllByRecursion}
use Rattle.schema.specs.Soundness.{IsSoundField}
use Rattle.schema.proofs.soundness.are_sound_fields.Given as goal

abbrev pub invariant-loop-field : goal.invariant-loop-field
invariant-loop-field l = AllByRecursion (IsSoundField l.types) (drop l.field-index l.fields) ↔ AllByRecursion (IsSoundField l.types) l.fields
