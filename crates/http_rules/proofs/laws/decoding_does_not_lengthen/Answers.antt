use Rattle.http_rules.proofs.DecodingLemmas.{captured_shorter}
use Rattle.http_rules.proofs.laws.decoding_does_not_lengthen.Goals as goal

pub returns : goal.returns
returns c = captured_shorter
