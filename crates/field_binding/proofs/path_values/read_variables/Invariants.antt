use Rattle.std.proofs.Common.{◌≡◌, length}
use Rattle.field_binding.specs.PathReadings.{AreSetInOrder}
use Rattle.field_binding.proofs.path_values.read_variables.Given as goal

abbrev pub invariant-loop-index : goal.invariant-loop-index
invariant-loop-index l = record {
  grown : length l.settings ≡ l.index;
  each : AreSetInOrder l.types l.input l.binding l.path l.captures l.settings;
}
