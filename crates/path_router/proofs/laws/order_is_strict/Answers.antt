use Rattle.path_router.proofs.OrderLemmas.{irreflexive, transitive, asymmetric}
use Rattle.path_router.proofs.laws.order_is_strict.Goals as goal

pub returns : goal.returns
returns c = record { irreflexive = irreflexive; transitive = transitive; asymmetric = asymmetric }
