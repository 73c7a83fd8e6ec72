use Rattle.path_router.proofs.EachTarget.{each_target, path_is_there}
use Rattle.path_router.proofs.laws.which_targets_have_paths.Goals as goal

pub returns : goal.returns
returns c = record { exact = path_is_there; decided = each_target }
