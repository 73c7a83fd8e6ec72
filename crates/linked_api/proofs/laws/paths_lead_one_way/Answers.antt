use Rattle.linked_api.proofs.PathLemmas.{leads_one_way}
use Rattle.linked_api.proofs.laws.paths_lead_one_way.Goals as goal

pub returns : goal.returns
returns c = leads_one_way
