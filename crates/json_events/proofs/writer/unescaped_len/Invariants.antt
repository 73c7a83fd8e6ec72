use Rattle.std.proofs.Common.{◌≡◌, take}
use Rattle.json_events.specs.StringOutput.{escaped}
use Rattle.json_events.proofs.writer.unescaped_len.Given as goal

abbrev pub invariant-loop-i : goal.invariant-loop-i
invariant-loop-i l = escaped (take l.i l.text) ≡ take l.i l.text
