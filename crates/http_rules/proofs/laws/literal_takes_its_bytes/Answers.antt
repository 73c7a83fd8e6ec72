use Rattle.http_rules.proofs.MatchLemmas.{literal_share}
use Rattle.http_rules.proofs.laws.literal_takes_its_bytes.Goals as goal

pub returns : goal.returns
returns c = literal_share
