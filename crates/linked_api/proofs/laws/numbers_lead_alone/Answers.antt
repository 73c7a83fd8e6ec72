use Rattle.linked_api.proofs.PathLemmas.{leads_alone}
use Rattle.linked_api.proofs.laws.numbers_lead_alone.Goals as goal

pub returns : goal.returns
returns c = leads_alone
