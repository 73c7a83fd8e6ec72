use Rattle.std.proofs.Common.{refl}
use Rattle.http_rules.proofs.examples.reading_examples.Goals as goal

pub returns : goal.returns
returns c = record {
  variable = refl;
  spelled_out = refl;
  wildcard = refl;
  verb = refl;
  rest = refl;
  range = refl;
  variable_inside = refl;
  behind_rest = refl;
  no_slash = refl;
  nothing = refl;
  no_segment = refl;
  segments = refl;
  variables = refl;
}
