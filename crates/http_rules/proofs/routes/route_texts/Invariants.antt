use Rattle.std.proofs.Common.{◌≡◌, map, take}
use Rattle.http_rules.specs.Routes.{route_text}
use Rattle.http_rules.proofs.routes.route_texts.Given as goal

abbrev pub invariant-loop-binding : goal.invariant-loop-binding
invariant-loop-binding l = l.texts.items ≡ map route_text (take l.binding-index l.bindings)
