use Rattle.transcoding.proofs.FirstCause.{by_body, by_form, by_message, by_method, by_path, by_value, by_wrong_method}
use Rattle.transcoding.proofs.laws.first_cause_counts.Goals as goal

pub returns-clause-method : goal.returns-clause-method
returns-clause-method c api method target body linked =
    by_method c.one_path_of_a_target.ensures c.one_choice.ensures c.one_path_binding.ensures c.one_request_message.ensures
    api method target body linked

pub returns-clause-wrong_method : goal.returns-clause-wrong_method
returns-clause-wrong_method c api method target body path bits linked =
    by_wrong_method c.one_path_of_a_target.ensures c.one_choice.ensures c.one_path_binding.ensures
    c.one_request_message.ensures api method target body linked path bits

pub returns-clause-path : goal.returns-clause-path
returns-clause-path c api method target body linked =
    by_path c.one_path_of_a_target.ensures c.one_choice.ensures c.one_path_binding.ensures c.one_request_message.ensures
    api method target body linked

pub returns-clause-not_built : goal.returns-clause-not_built
returns-clause-not_built c api method target body linked =
    by_form c.one_path_of_a_target.ensures c.one_choice.ensures c.one_path_binding.ensures c.one_request_message.ensures
    api method target body linked

pub returns-clause-value : goal.returns-clause-value
returns-clause-value c api method target body path index spans n fault linked =
    by_value c.one_path_of_a_target.ensures c.one_choice.ensures c.one_path_binding.ensures c.one_request_message.ensures
    api method target body linked path index spans n fault

pub returns-clause-body : goal.returns-clause-body
returns-clause-body c api method target body index a linked =
    by_body c.one_path_of_a_target.ensures c.one_choice.ensures c.one_path_binding.ensures c.one_request_message.ensures
    api method target body linked index a

pub returns-clause-message : goal.returns-clause-message
returns-clause-message c api method target body path bytes linked =
    by_message c.one_path_of_a_target.ensures c.one_choice.ensures c.one_path_binding.ensures
    c.one_request_message.ensures api method target body linked path bytes
