use Rattle.http_rules.proofs.SlashLemmas.{parts_escaped, parts_whole}
use Rattle.http_rules.proofs.laws.decodings_differ_at_slashes.Goals as goal

pub returns : goal.returns
returns c = record { escaped = parts_escaped; whole = parts_whole }
