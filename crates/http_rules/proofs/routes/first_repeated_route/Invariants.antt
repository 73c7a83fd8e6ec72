use Rattle.std.proofs.Common.{◌≡◌, map, take, drop}
use Rattle.http_rules.specs.Routes.{repeated_behind, repeated_routes, route_text}
use Rattle.http_rules.proofs.RepeatLemmas.{Finds}
use Rattle.http_rules.proofs.routes.first_repeated_route.Given as goal

abbrev pub invariant-loop-i : goal.invariant-loop-i
invariant-loop-i l = record {
  texts : l.text-items ≡ map route_text l.bindings;
  rest : repeated_behind (take l.i l.bindings) (drop l.i l.bindings) ≡ repeated_routes l.bindings;
  first : Finds l.first (take l.i l.bindings);
}
