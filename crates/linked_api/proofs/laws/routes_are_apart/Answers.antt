use Rattle.linked_api.proofs.BindingLemmas.{linked_apart_at}
use Rattle.linked_api.proofs.laws.routes_are_apart.Goals as goal

pub returns : goal.returns
returns c = linked_apart_at
