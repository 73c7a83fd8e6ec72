use Rattle.std.proofs.Common.{◌≡◌, length, map, take}
use Rattle.http_rules.specs.TemplateMatch.{span_of}
use Rattle.path_router.specs.PathSegments.{TakeAll, shares_of}
use Rattle.path_router.specs.RouteChoice.{ends_of}
use Rattle.path_router.proofs.fitting.captures_in.Given as goal

abbrev pub invariant-loop-variable : goal.invariant-loop-variable
invariant-loop-variable l = record {
  len : length l.captures ≡ l.variable-index;
  spans : (taken : TakeAll l.template.segments l.body)
      → map ends_of l.captures ≡ map (span_of (shares_of l.template.segments taken.0))
      (take l.variable-index l.template.variables);
}
