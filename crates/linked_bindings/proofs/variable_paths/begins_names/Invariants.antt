use Rattle.std.proofs.Common.{◌≡◌, length}
use Rattle.linked_bindings.specs.BindingFaults.{begins_names}
use Rattle.linked_bindings.proofs.variable_paths.begins_names.Given as goal

abbrev pub invariant-loop-name : goal.invariant-loop-name
invariant-loop-name l = begins_names l.left l.others ≡ begins_names l.path l.other

abbrev pub decreases-loop-name : goal.decreases-loop-name
decreases-loop-name l = length l.left
