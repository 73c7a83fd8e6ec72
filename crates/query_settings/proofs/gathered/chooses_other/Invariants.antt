use Rattle.std.proofs.Common.{◌≡◌, List, [], drop}
use Rattle.query_settings.specs.ParameterFaults.{chooses_other}
use Rattle.query_settings.specs.QuerySteps.{AreMembers}
use Rattle.query_settings.specs.QueryTargets.{Choice, choices_from}
use Rattle.query_settings.proofs.gathered.chooses_other.Given as goal

abbrev pub invariant-loop-step : goal.invariant-loop-step
invariant-loop-step l =
    (chosen : List Choice) → AreMembers l.members chosen
    → chooses_other chosen (choices_from l.way.items (drop l.step-index l.steps))
    ≡ chooses_other chosen (choices_from [] l.steps)
