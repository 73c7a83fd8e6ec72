use Rattle.std.proofs.Common.{drop}
use Rattle.std.specs.List.{AllByRecursion}
use Rattle.std.specs.Prelude.{◌↔◌}
use Rattle.field_binding.specs.PathSettings.{EndsAtScalar}
use Rattle.field_binding.proofs.targets.end_at_scalars.Given as goal

abbrev pub invariant-loop-numbers : goal.invariant-loop-numbers
invariant-loop-numbers l =
    AllByRecursion (EndsAtScalar l.types l.id) (drop l.numbers-index l.paths)
    ↔ AllByRecursion (EndsAtScalar l.types l.id) l.paths
