use Rattle.std.proofs.Common.{refl}
use Rattle.mask_texts.proofs.examples.written_masks.Goals as goal

pub returns-clause-written : goal.returns-clause-written
returns-clause-written c = record {
  two = refl;
  none = refl;
  all = refl;
  digits = refl;
  underscore_in_front = refl;
}

pub returns-clause-unprintable : goal.returns-clause-unprintable
returns-clause-unprintable c = record {
  empty = refl;
  upper_case = refl;
  two_underscores = refl;
  underscore_behind = refl;
  digit = refl;
  point = refl;
  upper_case_letter = refl;
  comma = refl;
  space = refl;
  not_ascii = refl;
  one_of_two = refl;
}
