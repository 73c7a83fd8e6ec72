use Rattle.gateway_run.proofs.AnswerLemmas.{declared_is_linked, one_api}
use Rattle.gateway_run.proofs.laws.one_api_is_declared.Goals as goal

pub returns : goal.returns
returns c = record { one = one_api c.faultless_sets_have_one_api.ensures.one; linked = declared_is_linked c.what_is_linked_of_a_set_is_linked.ensures }
