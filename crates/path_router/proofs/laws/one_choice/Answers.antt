use Rattle.path_router.proofs.ChoiceLemmas.{one_choice}
use Rattle.path_router.proofs.laws.one_choice.Goals as goal

pub returns : goal.returns
returns c = one_choice
