use Rattle.std.proofs.Common.{◌↔◌, length}
use Rattle.path_router.proofs.TakeLemmas.{AreFull}
use Rattle.path_router.proofs.pieces.are_full_pieces.Given as goal

abbrev pub invariant-loop-more : goal.invariant-loop-more
invariant-loop-more l = AreFull l.rest ↔ AreFull l.path

abbrev pub decreases-loop-more : goal.decreases-loop-more
decreases-loop-more l = length l.rest
