use Rattle.http_rules.proofs.Theorems.{literal_no_slash}
use Rattle.http_rules.proofs.laws.literals_have_no_slash.Goals as goal

pub returns : goal.returns
returns c = literal_no_slash
