use Rattle.std.proofs.Common.{◌↔◌, length}
use Rattle.std.specs.Prelude.{nat_eq}
use Rattle.schema.specs.Apart.{AreApart}
use Rattle.schema.specs.Validity.{oneofs_in}
use Rattle.schema.proofs.validity.are_oneofs_apart.Given as goal

abbrev pub invariant-loop-first : goal.invariant-loop-first
invariant-loop-first l = AreApart nat_eq (oneofs_in l.fields l.left) ↔ AreApart nat_eq (oneofs_in l.fields l.slots)

abbrev pub decreases-loop-first : goal.decreases-loop-first
decreases-loop-first l = length l.left
