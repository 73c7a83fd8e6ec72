use Rattle.path_router.proofs.TotalLemmas.{one_precedes}
use Rattle.path_router.proofs.laws.order_is_total.Goals as goal

pub returns : goal.returns
returns c = one_precedes
