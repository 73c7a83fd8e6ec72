use Rattle.query_parameters.proofs.Splits.{encoded_pairs, decoded_pairs}
use Rattle.query_parameters.proofs.laws.parameters_are_the_forms_pairs.Goals as goal

pub returns-clause-encoded : goal.returns-clause-encoded
returns-clause-encoded c = encoded_pairs

pub returns-clause-decoded : goal.returns-clause-decoded
returns-clause-decoded c = decoded_pairs
