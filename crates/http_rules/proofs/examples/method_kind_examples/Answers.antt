use Rattle.std.proofs.Common.{refl}
use Rattle.httparse.specs.Grammar.{is_token_byte}
use Rattle.http_rules.proofs.examples.method_kind_examples.Goals as goal

pub returns : goal.returns
unfolding is_token_byte
returns c = record {
  any = refl;
  two_stars = refl;
  lower_case = refl;
  longest = refl;
  too_long = refl;
  nothing = refl;
  head = refl;
  connect = refl;
  space = refl;
  slash = refl;
}
