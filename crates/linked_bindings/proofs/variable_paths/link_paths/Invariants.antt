use Rattle.std.proofs.Common.{◌≡◌, ◌++◌, [], take, drop, option_map}
use Rattle.linked_bindings.specs.BindingFaults.{path_faults}
use Rattle.linked_bindings.specs.LinkedBinding.{paths_of}
use Rattle.linked_bindings.proofs.variable_paths.link_paths.Given as goal

abbrev pub invariant-loop-at : goal.invariant-loop-at
invariant-loop-at l = record {
  faultless : path_faults l.names l.method (take l.at l.variables) (drop l.at l.variables)
      ≡ path_faults l.names l.method [] l.variables;
  found : option_map (λ ps. l.paths ++ ps) (paths_of l.names l.method.input (drop l.at l.variables))
      ≡ paths_of l.names l.method.input l.variables;
}
