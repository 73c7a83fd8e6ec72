use Rattle.std.proofs.Common.{◌≡◌, ◌++◌, drop, map}
use Rattle.std.specs.List.{flat_map}
use Rattle.descriptor_pool.specs.SetMethods.{method_rules}
use Rattle.descriptor_pool.proofs.set_methods.rules_of.Given as goal

abbrev pub invariant-loop-method : goal.invariant-loop-method
invariant-loop-method l = map (λ r. r.now) l.rules.items ++ flat_map method_rules (drop l.method-index l.methods) ≡ flat_map method_rules l.methods
