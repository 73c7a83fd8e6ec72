use Rattle.std.proofs.Common.{◌≡◌, drop}
use Rattle.linked_bindings.specs.BindingFaults.{is_beginning}
use Rattle.linked_bindings.proofs.variable_paths.is_beginning.Given as goal

abbrev pub invariant-loop-other : goal.invariant-loop-other
invariant-loop-other l = is_beginning l.variable (drop l.other-index l.others) ≡ is_beginning l.variable l.others
