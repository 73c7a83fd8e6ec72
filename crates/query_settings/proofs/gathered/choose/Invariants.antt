use Rattle.std.proofs.Common.{drop}
use Rattle.query_settings.proofs.Choices.{Chooses}
use Rattle.query_settings.proofs.gathered.choose.Given as goal

abbrev pub invariant-loop-step : goal.invariant-loop-step
invariant-loop-step l = Chooses l.fn.members l.members l.way.items l.steps (drop l.step-index l.steps)
