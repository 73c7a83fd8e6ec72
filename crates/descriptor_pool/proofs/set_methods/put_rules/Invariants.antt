use Rattle.std.proofs.Common.{◌≡◌, ◌++◌, drop, map}
use Rattle.descriptor_pool.proofs.set_methods.put_rules.Given as goal

abbrev pub invariant-loop-rule : goal.invariant-loop-rule
invariant-loop-rule l = map (λ r. r.now) l.out.items ++ drop l.rule-index l.rules ≡ map (λ r. r.now) l.initial.out.items ++ l.rules
