use Rattle.gateway_run.proofs.AnswerLemmas.{one_fault, unserved}
use Rattle.gateway_run.proofs.laws.one_fault_of_a_set.Goals as goal

pub returns : goal.returns
returns c = record { nothing = unserved; one = one_fault }
