use Rattle.std.proofs.Common.{◌≡◌, length}
use Rattle.linked_api.specs.LinkedApi.{begins_path}
use Rattle.query_settings.proofs.judging.begins_path.Given as goal

abbrev pub invariant-loop-n : goal.invariant-loop-n
invariant-loop-n l = begins_path l.left l.right ≡ begins_path l.path l.other

abbrev pub decreases-loop-n : goal.decreases-loop-n
decreases-loop-n l = length l.left
