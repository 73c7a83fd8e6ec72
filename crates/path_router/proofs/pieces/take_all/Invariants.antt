use Rattle.std.proofs.Common.{◌↔◌, drop}
use Rattle.path_router.specs.PathSegments.{TakeAll}
use Rattle.path_router.proofs.pieces.take_all.Given as goal

abbrev pub invariant-loop-segment : goal.invariant-loop-segment
invariant-loop-segment l = TakeAll (drop l.segment-index l.segments) l.rest ↔ TakeAll l.segments l.path
