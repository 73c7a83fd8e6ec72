use Rattle.json_meanings.proofs.NestingLemmas.{nesting_laws}
use Rattle.json_meanings.proofs.laws.brackets_nest_within_a_limit.Goals as goal

pub returns : goal.returns
returns c = nesting_laws
