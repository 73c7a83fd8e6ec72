use Rattle.std.proofs.Common.{◌++◌, ℕ, List, drop}
use Rattle.std.specs.List.{AllByRecursion}
use Rattle.set_listing.specs.RouteLines.{AreRouteLines, IsRoutesText}
use Rattle.linked_api.specs.LinkedApi.{IsBindingOf}
use Rattle.set_listing.proofs.listing.routes_text.Given as goal

abbrev pub invariant-loop-binding : goal.invariant-loop-binding
invariant-loop-binding l = record {
  each : AllByRecursion (IsBindingOf l.api) (drop l.binding-index l.binding-items);
  told : (more : List ℕ) → AreRouteLines l.api (drop l.binding-index l.binding-items) more → IsRoutesText l.api (l.out.items ++ more);
}
