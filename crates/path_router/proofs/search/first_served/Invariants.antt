use Rattle.std.proofs.Common.{take}
use Rattle.path_router.specs.RouteSearch.{IsBest}
use Rattle.path_router.proofs.search.first_served.Given as goal

abbrev pub invariant-loop-i : goal.invariant-loop-i
invariant-loop-i l = IsBest (take l.i l.bindings) l.method l.path l.best
