use Rattle.transcoding.proofs.values.bound.Goals as goal

pub returns-in-Err-clause-err : goal.returns-in-Err-clause-err
returns-in-Err-clause-err c =
    c.refusal_of.ensures c.args.api.now c.args.route.now.binding c.args.route.now.path.now c.args.route.now.captures
    c.in-Err.ensures
