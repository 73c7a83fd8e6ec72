use Rattle.std.proofs.Common.{◌≡◌, ◌++◌, take}
use Rattle.http_rules.specs.TemplateText.{dotted_names}
use Rattle.http_rules.proofs.printer.put_dotted.Given as goal

abbrev pub invariant-loop-name : goal.invariant-loop-name
invariant-loop-name l = l.out.items ≡ l.fn.out.items ++ dotted_names (take l.name-index l.names)
