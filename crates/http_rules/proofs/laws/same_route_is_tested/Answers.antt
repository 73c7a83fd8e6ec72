use Rattle.http_rules.proofs.RouteLemmas.{route_exact}
use Rattle.http_rules.proofs.laws.same_route_is_tested.Goals as goal

pub returns : goal.returns
returns c = route_exact
