use Rattle.std.proofs.Common.{refl}
use Rattle.gateway_run.proofs.examples.command_examples.Goals as goal

pub returns : goal.returns
returns c = record {
  check_words = refl;
  routes_words = refl;
  bind_words = rw c.named_methods_are_tokens.ensures.get refl;
  more = refl;
  fewer = refl;
  other = refl;
  no_target = rw c.named_methods_are_tokens.ensures.get refl;
}
