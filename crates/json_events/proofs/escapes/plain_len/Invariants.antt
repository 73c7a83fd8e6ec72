use Rattle.std.proofs.Common.{IsTrue, take}
use Rattle.std.specs.List.{list_all}
use Rattle.json_events.specs.StringSteps.{is_plain}
use Rattle.json_events.proofs.escapes.plain_len.Given as goal

abbrev pub invariant-loop-i : goal.invariant-loop-i
invariant-loop-i l = IsTrue (list_all is_plain (take l.i l.bytes))
