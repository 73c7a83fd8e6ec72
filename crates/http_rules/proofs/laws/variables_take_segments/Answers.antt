use Rattle.http_rules.proofs.RangeLemmas.{range_within}
use Rattle.http_rules.proofs.laws.variables_take_segments.Goals as goal

pub returns : goal.returns
returns c = range_within
