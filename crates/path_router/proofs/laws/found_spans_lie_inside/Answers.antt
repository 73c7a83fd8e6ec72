use Rattle.path_router.proofs.ChoiceLemmas.{found_inside}
use Rattle.path_router.proofs.laws.found_spans_lie_inside.Goals as goal

pub returns : goal.returns
returns c = found_inside
