use Rattle.std.proofs.Common.{refl}
use Rattle.linked_api.proofs.examples.path_examples.Goals as goal

pub returns : goal.returns
returns c = record {
  name = refl;
  made = refl;
  seconds = refl;
  mask = refl;
  member = refl;
  listed = refl;
  mapped = refl;
  plain = refl;
  inner = refl;
  json = refl;
  behind = refl;
  absent = refl;
  none = refl;
  last = refl;
  begins = refl;
  begun = refl;
  itself = refl;
  apart = refl;
}
