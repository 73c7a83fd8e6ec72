use Rattle.std.proofs.Common.{◌↔◌, drop}
use Rattle.schema.specs.Soundness.{IsFreeNumber}
use Rattle.schema.proofs.soundness.is_free_number.Given as goal

abbrev pub invariant-loop-field : goal.invariant-loop-field
invariant-loop-field l = IsFreeNumber l.number (drop l.field-index l.fields) ↔ IsFreeNumber l.number l.fields
