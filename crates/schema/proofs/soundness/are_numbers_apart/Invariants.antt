use Rattle.std.proofs.Common.{◌↔◌, length}
use Rattle.schema.specs.Soundness.{AreNumbersApart}
use Rattle.schema.proofs.soundness.are_numbers_apart.Given as goal

abbrev pub invariant-loop-first : goal.invariant-loop-first
invariant-loop-first l = AreNumbersApart l.left ↔ AreNumbersApart l.fields

abbrev pub decreases-loop-first : goal.decreases-loop-first
decreases-loop-first l = length l.left
