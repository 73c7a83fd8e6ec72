use Rattle.path_router.proofs.TargetLemmas.{one_path}
use Rattle.path_router.proofs.laws.one_path_of_a_target.Goals as goal

pub returns : goal.returns
returns c = one_path
