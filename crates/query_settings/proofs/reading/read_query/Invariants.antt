use Rattle.std.proofs.Common.{length}
use Rattle.query_settings.proofs.QueryRuns.{Progress}
use Rattle.query_settings.specs.QueryScopes.{scope_of}
use Rattle.query_settings.proofs.reading.read_query.Given as goal

abbrev pub invariant-loop-parameter : goal.invariant-loop-parameter
invariant-loop-parameter l =
    Progress (scope_of l.types l.input l.binding) l.ignore l.query l.gathered l.left

abbrev pub decreases-loop-parameter : goal.decreases-loop-parameter
decreases-loop-parameter l = length l.left
