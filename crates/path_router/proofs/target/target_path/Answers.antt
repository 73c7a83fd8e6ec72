use Rattle.path_router.proofs.TargetLemmas.{pathless}
use Rattle.path_router.proofs.target.target_path.Goals as goal

pub returns-in-None-behind_scheme : goal.returns-in-None-behind_scheme
returns-in-None-behind_scheme c = pathless c.args.target.now c.in-None.ensures c.in-None-behind_scheme.ensures
