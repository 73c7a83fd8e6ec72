use Rattle.std.proofs.Common.{◌≡◌, ◌++◌, drop}
use Rattle.schema_link.specs.SetApi.{numbered_rules}
use Rattle.schema_link.proofs.rules.numbered_rules.Given as goal

abbrev pub invariant-loop-call : goal.invariant-loop-call
invariant-loop-call l = l.rules.items ++ numbered_rules l.call (drop l.call l.methods) ≡ numbered_rules 0 l.methods
