use Rattle.std.proofs.Common.{◌≡◌, suc}
use Rattle.query_parameters.specs.QueryParameters.{numbered_from, pieces_left, left_len}
use Rattle.query_parameters.proofs.parameters.ParametersIterator.next.Given as goal

abbrev pub invariant-loop-self : goal.invariant-loop-self
invariant-loop-self l =
    numbered_from (suc l.self-inside.before) (pieces_left 38 l.self-inside.rest)
    ≡ numbered_from (suc l.initial.self-inside.before) (pieces_left 38 l.initial.self-inside.rest)

abbrev pub decreases-loop-self : goal.decreases-loop-self
decreases-loop-self l = left_len l.self-inside.rest
