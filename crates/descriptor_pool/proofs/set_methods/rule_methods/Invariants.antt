use Rattle.std.proofs.Common.{◌≡◌, ◌++◌, drop, map}
use Rattle.descriptor_pool.specs.SetMethods.{rule_methods}
use Rattle.descriptor_pool.proofs.set_methods.rule_methods.Given as goal

abbrev pub invariant-loop-rule : goal.invariant-loop-rule
invariant-loop-rule l = map (λ t. t.now) l.methods.items ++ rule_methods (map (λ r. r.now) (drop l.rule-index l.rules)) ≡ rule_methods (map (λ r. r.now) l.rules)
