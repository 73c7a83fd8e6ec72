use Rattle.json_integers.proofs.ExactLemmas.{number_tested, exact_is}
use Rattle.json_integers.proofs.laws.integers_are_computed.Goals as goal

pub returns-clause-numbers : goal.returns-clause-numbers
returns-clause-numbers c text = number_tested text

pub returns-clause-integers : goal.returns-clause-integers
returns-clause-integers c text z = exact_is text z
