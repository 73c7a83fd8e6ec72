use Rattle.std.proofs.Common.{◌↔◌, length}
use Rattle.schema.specs.Soundness.{AreKeysApart}
use Rattle.schema.proofs.soundness.are_keys_apart.Given as goal

abbrev pub invariant-loop-first : goal.invariant-loop-first
invariant-loop-first l = AreKeysApart l.left ↔ AreKeysApart l.fields

abbrev pub decreases-loop-first : goal.decreases-loop-first
decreases-loop-first l = length l.left
