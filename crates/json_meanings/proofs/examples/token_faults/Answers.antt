use Rattle.std.proofs.Common.{refl}
use Rattle.json_meanings.proofs.examples.token_faults.Goals as goal

pub returns : goal.returns
returns c = record {
  unknown_key = refl;
  first_of_two = refl;
}
