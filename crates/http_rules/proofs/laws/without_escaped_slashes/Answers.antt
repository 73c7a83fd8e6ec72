use Rattle.http_rules.proofs.SlashLemmas.{captured_alike, slashes_alike}
use Rattle.http_rules.proofs.laws.without_escaped_slashes.Goals as goal

pub returns : goal.returns
returns c = record { decoded = slashes_alike; captured = captured_alike }
