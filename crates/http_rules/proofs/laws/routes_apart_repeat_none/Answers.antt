use Rattle.http_rules.proofs.RepeatLemmas.{apart_exact}
use Rattle.http_rules.proofs.laws.routes_apart_repeat_none.Goals as goal

pub returns : goal.returns
returns c = apart_exact
