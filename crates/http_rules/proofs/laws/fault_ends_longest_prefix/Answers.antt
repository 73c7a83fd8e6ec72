use Rattle.http_rules.proofs.PrefixLemmas.{longest_prefix}
use Rattle.http_rules.proofs.laws.fault_ends_longest_prefix.Goals as goal

pub returns : goal.returns
returns c = longest_prefix
