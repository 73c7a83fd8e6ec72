use Rattle.std.proofs.Common.{◌↔◌, drop}
use Rattle.schema.specs.Soundness.{IsFreeKey}
use Rattle.schema.proofs.soundness.is_free_key.Given as goal

abbrev pub invariant-loop-other : goal.invariant-loop-other
invariant-loop-other l = IsFreeKey l.field (drop l.other-index l.fields) ↔ IsFreeKey l.field l.fields
