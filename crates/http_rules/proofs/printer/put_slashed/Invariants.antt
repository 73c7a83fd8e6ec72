use Rattle.std.proofs.Common.{◌≡◌, ◌++◌, take}
use Rattle.http_rules.specs.TemplateText.{slashed_segments}
use Rattle.http_rules.proofs.printer.put_slashed.Given as goal

abbrev pub invariant-loop-segment : goal.invariant-loop-segment
invariant-loop-segment l = l.out.items ≡ l.fn.out.items ++ slashed_segments (take l.segment-index l.segments)
