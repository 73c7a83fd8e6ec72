use Rattle.std.proofs.Common.{◌≡◌, ◌++◌, drop}
use Rattle.std.specs.List.{flat_map}
use Rattle.set_faults.specs.MethodFaults.{additional_faults, templates_of}
use Rattle.set_faults.proofs.method_faults.put_each_additional.Given as goal

abbrev pub invariant-loop-rule : goal.invariant-loop-rule
invariant-loop-rule l = record {
  rest : flat_map (additional_faults l.path) (drop l.rule-index l.rules) ≡ flat_map (additional_faults l.path) l.rules;
  templates : l.out.items ++ templates_of (drop l.rule-index l.rules) ≡ l.initial.out.items ++ templates_of l.rules;
}
