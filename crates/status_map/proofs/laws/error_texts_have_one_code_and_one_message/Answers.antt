use Rattle.status_map.proofs.TextLemmas.{one_code, one_message}
use Rattle.status_map.proofs.laws.error_texts_have_one_code_and_one_message.Goals as goal

pub returns-clause-code : goal.returns-clause-code
returns-clause-code c = one_code c.texts_have_one_tree.ensures.tree c.texts_mean_one_value.ensures.numbers

pub returns-clause-message : goal.returns-clause-message
returns-clause-message c = one_message c.texts_have_one_tree.ensures.tree
