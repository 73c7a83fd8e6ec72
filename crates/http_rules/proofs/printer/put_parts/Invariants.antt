use Rattle.std.proofs.Common.{◌≡◌, ◌++◌, length, drop}
use Rattle.http_rules.specs.Template.{AreRanges}
use Rattle.http_rules.specs.TemplateText.{printed_parts, slashed_parts}
use Rattle.http_rules.proofs.printer.put_parts.Given as goal

abbrev pub invariant-loop-variable : goal.invariant-loop-variable
invariant-loop-variable l =
    (l.out.items ++ slashed_parts (printed_parts l.from (drop l.from l.segments) (drop l.variable-index l.variables))
    ≡ l.fn.out.items ++ slashed_parts (printed_parts 0 l.segments l.variables))
    × AreRanges l.from (drop l.variable-index l.variables) (length l.segments)
