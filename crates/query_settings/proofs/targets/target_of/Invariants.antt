use Rattle.std.proofs.Common.{◌≡◌}
use Rattle.form_urlencoded.specs.Form.{dot}
use Rattle.query_parameters.specs.QueryParameters.{left_len, pieces_left}
use Rattle.query_settings.specs.QueryTargets.{named, target_of}
use Rattle.query_settings.proofs.targets.target_of.Given as goal

abbrev pub invariant-loop-left : goal.invariant-loop-left
invariant-loop-left l =
    named l.types l.inner l.steps (pieces_left dot l.left) ≡ target_of l.types l.fn.input l.name

abbrev pub decreases-loop-left : goal.decreases-loop-left
decreases-loop-left l = left_len l.left
