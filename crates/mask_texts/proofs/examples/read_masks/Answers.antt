use Rattle.std.proofs.Common.{refl}
use Rattle.mask_texts.proofs.examples.read_masks.Goals as goal

pub returns-clause-read : goal.returns-clause-read
returns-clause-read c = record {
  two = refl;
  none = refl;
  all = refl;
  digits = refl;
  upper_case = refl;
  points = refl;
  one_path_twice = refl;
}

pub returns-clause-bad : goal.returns-clause-bad
returns-clause-bad c = record {
  comma = refl;
  comma_in_front = refl;
  comma_behind = refl;
  two_commas = refl;
  underscore = refl;
  space = refl;
  brackets = refl;
  not_ascii = refl;
}
