use Rattle.std.proofs.Common.{◌+◌}
use Rattle.std.proofs.lemmas.List.{take_rest}
use Rattle.std.proofs.lemmas.Result.{err_from_is_err_and}
use Rattle.linked_bindings.proofs.PathFaults.{first_of_path}
use Rattle.linked_bindings.proofs.variable_paths.link_paths.Goals as goal

pub returns-in_err-link_path-clause-first : goal.returns-in_err-link_path-clause-first
returns-in_err-link_path-clause-first c =
    let p = err_from_is_err_and c.from_residual.result c.from_residual.ensures.1 in
    rw (p.1, p.2)
    (first_of_path c.args.names.now c.args.method.now _ c.args.variables.now c.loop-at.at c.index-variables-at.result
    _ c.loop-at-test.true c.index-variables-at.is (take_rest c.args.variables.now (c.loop-at.at + 1))
    c.loop-at.invariant.faultless c.in_err-link_path.ensures.first)
