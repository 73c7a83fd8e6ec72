use Rattle.std.proofs.Common.{◌↔◌, drop}
use Rattle.http_rules.specs.TemplateOrder.{StandBefore}
use Rattle.path_router.proofs.order.stand_before.Given as goal

abbrev pub invariant-loop-i : goal.invariant-loop-i
invariant-loop-i l = StandBefore (drop l.i l.a) (drop l.i l.b) ↔ StandBefore l.a l.b
