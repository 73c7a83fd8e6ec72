use Rattle.http_rules.proofs.SpanLemmas.{spans_inside}
use Rattle.http_rules.proofs.laws.spans_lie_inside.Goals as goal

pub returns : goal.returns
returns c = spans_inside
