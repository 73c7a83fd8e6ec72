use Rattle.std.specs.List.{AllByRecursion}
use Rattle.http_rules.specs.Template.{IsTemplate}
use Rattle.http_rules.specs.declared.template.Binding.{Binding}
use Rattle.route_rows.proofs.bindings.read_bindings.Given as goal

abbrev pub invariant-loop-method : goal.invariant-loop-method
invariant-loop-method l = AllByRecursion (λ (b : Binding). IsTemplate b.template) l.bindings
