use Rattle.std.proofs.Common.{refl}
use Rattle.base64.proofs.OnLiterals.{base64_on_literals}
use Rattle.json_meanings.proofs.examples.bytes_meanings.Goals as goal

pub returns : goal.returns
unfolding base64_on_literals
returns c = record {
  padded = refl;
  unpadded = refl;
  for_urls = refl;
  mixed = refl;
  none = refl;
}
