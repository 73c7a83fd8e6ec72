use Rattle.std.proofs.Common.{◌≡◌, ◌++◌, drop}
use Rattle.std.specs.List.{flat_map}
use Rattle.descriptor_pool.specs.SetMethods.{all_rules}
use Rattle.set_faults.specs.MethodFaults.{method_faults, templates_of}
use Rattle.set_faults.proofs.method_faults.check_methods.Given as goal

abbrev pub invariant-loop-method : goal.invariant-loop-method
invariant-loop-method l = record {
  rest : flat_map (method_faults l.types) (drop l.method-index l.methods) ≡ flat_map (method_faults l.types) l.methods;
  templates : l.templates.items ++ templates_of (all_rules (drop l.method-index l.methods)) ≡ templates_of (all_rules l.methods);
}
