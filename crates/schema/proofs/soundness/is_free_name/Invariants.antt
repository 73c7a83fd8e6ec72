use Rattle.std.proofs.Common.{◌↔◌, drop}
use Rattle.schema.specs.Soundness.{IsFreeName}
use Rattle.schema.proofs.soundness.is_free_name.Given as goal

abbrev pub invariant-loop-value : goal.invariant-loop-value
invariant-loop-value l = IsFreeName l.name (drop l.value-index l.values) ↔ IsFreeName l.name l.values
