use Rattle.http_rules.proofs.AnswerLemmas.{one_meaning}
use Rattle.http_rules.proofs.laws.one_meaning.Goals as goal

pub returns : goal.returns
returns c = one_meaning
