use Rattle.std.proofs.Common.{◌≡◌, ◌++◌, drop, map}
use Rattle.schema_link.specs.SetApi.{numbered}
use Rattle.schema_link.proofs.rules.put_additional.Given as goal

abbrev pub invariant-loop-rule : goal.invariant-loop-rule
invariant-loop-rule l = l.out.items ++ map (numbered l.call) (drop l.rule-index l.rules) ≡ l.initial.out.items
    ++ map (numbered l.call) l.rules
