use Rattle.std.proofs.Common.{◌≡◌, ◌++◌, drop}
use Rattle.query_settings.specs.QueryTargets.{numbers_of}
use Rattle.query_settings.proofs.gathered.numbers_of.Given as goal

abbrev pub invariant-loop-step : goal.invariant-loop-step
invariant-loop-step l = l.numbers.items ++ numbers_of (drop l.step-index l.steps) ≡ numbers_of l.steps
