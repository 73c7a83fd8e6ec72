use Rattle.std.proofs.Common.{refl}
use Rattle.json_meanings.proofs.examples.shape_meanings.Goals as goal

pub returns : goal.returns
returns c = record {
  rising = refl;
  message = refl;
  messages = refl;
  entries = refl;
  truth_key = refl;
  number_key = refl;
}
