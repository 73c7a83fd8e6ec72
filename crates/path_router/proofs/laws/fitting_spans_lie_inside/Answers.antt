use Rattle.path_router.proofs.ChoiceLemmas.{fitting_inside}
use Rattle.path_router.proofs.laws.fitting_spans_lie_inside.Goals as goal

pub returns : goal.returns
returns c = fitting_inside
