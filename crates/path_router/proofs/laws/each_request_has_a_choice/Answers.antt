use Rattle.path_router.proofs.EachChoice.{each_choice}
use Rattle.path_router.proofs.laws.each_request_has_a_choice.Goals as goal

pub returns : goal.returns
returns c = each_choice
