use Rattle.http_rules.proofs.SpanLemmas.{segments_lawful}
use Rattle.http_rules.proofs.laws.segments_are_lawful.Goals as goal

pub returns : goal.returns
returns c = segments_lawful
