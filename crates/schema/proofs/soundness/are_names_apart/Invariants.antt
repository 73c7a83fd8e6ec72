use Rattle.std.proofs.Common.{◌↔◌, length}
use Rattle.schema.specs.Soundness.{AreNamesApart}
use Rattle.schema.proofs.soundness.are_names_apart.Given as goal

abbrev pub invariant-loop-first : goal.invariant-loop-first
invariant-loop-first l = AreNamesApart l.left ↔ AreNamesApart l.values

abbrev pub decreases-loop-first : goal.decreases-loop-first
decreases-loop-first l = length l.left
