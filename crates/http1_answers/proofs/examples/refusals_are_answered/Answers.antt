use Rattle.std.proofs.Common.{refl}
use Rattle.std.specs.Fmt.{digits}
use Rattle.http1_answers.proofs.examples.refusals_are_answered.Goals as goal

pub returns : goal.returns
unfolding digits
returns c = record {
  unknown_path = refl;
  method_not_allowed = refl;
  wrong_value = refl;
  unserved_method = refl;
  no_memory = refl;
}
