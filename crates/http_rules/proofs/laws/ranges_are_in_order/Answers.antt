use Rattle.http_rules.proofs.RangeLemmas.{ranges_of}
use Rattle.http_rules.proofs.laws.ranges_are_in_order.Goals as goal

pub returns : goal.returns
returns c = ranges_of
