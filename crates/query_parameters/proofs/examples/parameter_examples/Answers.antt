use Rattle.std.proofs.Common.{refl}
use Rattle.form_urlencoded.proofs.OnLiterals.{form_urlencoded_on_literals}
use Rattle.query_parameters.proofs.examples.parameter_examples.Goals as goal

pub returns : goal.returns
unfolding form_urlencoded_on_literals
returns c = record {
  nothing = refl;
  two = refl;
  empty_pieces = refl;
  first_equals = refl;
  no_name = refl;
  semicolon = refl;
  escaped_signs = refl;
  plus = refl;
  bad_escapes = refl;
  plus_in_escape = refl;
  not_utf8 = refl;
}
