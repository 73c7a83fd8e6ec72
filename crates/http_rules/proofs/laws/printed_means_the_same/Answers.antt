use Rattle.http_rules.proofs.PrintLemmas.{printed_means}
use Rattle.http_rules.proofs.laws.printed_means_the_same.Goals as goal

pub returns : goal.returns
returns c = printed_means
