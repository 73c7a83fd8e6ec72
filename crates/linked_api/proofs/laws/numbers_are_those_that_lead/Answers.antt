use Rattle.linked_api.proofs.PathLemmas.{computed_lead, leading_computed}
use Rattle.linked_api.proofs.laws.numbers_are_those_that_lead.Goals as goal

pub returns-clause-found : goal.returns-clause-found
returns-clause-found c = computed_lead

pub returns-clause-all : goal.returns-clause-all
returns-clause-all c = leading_computed
