use Rattle.std.proofs.Common.{refl}
use Rattle.http_rules.proofs.examples.route_examples.Goals as goal

pub returns : goal.returns
returns c = record {
  spelled_out = refl;
  without_variable = refl;
  verb = refl;
  wildcard = refl;
  no_template = refl;
  method = refl;
  earliest = refl;
}
