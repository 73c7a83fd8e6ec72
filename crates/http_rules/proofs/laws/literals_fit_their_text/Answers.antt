use Rattle.http_rules.proofs.MatchLemmas.{literals_exact}
use Rattle.http_rules.proofs.laws.literals_fit_their_text.Goals as goal

pub returns : goal.returns
returns c = literals_exact
