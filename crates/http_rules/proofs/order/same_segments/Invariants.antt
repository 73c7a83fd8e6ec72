use Rattle.std.proofs.Common.{◌≡◌, length, take}
use Rattle.http_rules.proofs.order.same_segments.Given as goal

abbrev pub invariant-loop-i : goal.invariant-loop-i
invariant-loop-i l = (take l.i l.a ≡ take l.i l.b) × (length l.a ≡ length l.b)
