use Rattle.std.proofs.Common.{refl, lit<}
use Rattle.std.specs.Prelude.{codes}
use Rattle.json_integers.proofs.AnswerLemmas.{no_number, parts_answer}
use Rattle.json_integers.proofs.examples.other_examples.Goals as goal

pub returns : goal.returns
returns c = record {
  one_and_a_half = parts_answer (codes "1.5") refl (lit< tt);
  half = parts_answer (codes "0.5") refl (lit< tt);
  tenth = parts_answer (codes "1e-1") refl (lit< tt);
  one_digit_too_many = parts_answer (codes "1200e-3") refl (lit< tt);
  past = parts_answer (codes "18446744073709551616") refl (lit< tt);
  far_past = parts_answer (codes "-1e30") refl (lit< tt);
  nothing = no_number (codes "") refl;
  leading_zero = no_number (codes "01") refl;
  no_digits_behind_the_point = no_number (codes "1.") refl;
  no_digits_before_the_point = no_number (codes ".5") refl;
  plus = no_number (codes "+1") refl;
  no_power = no_number (codes "1e") refl;
  word = no_number (codes "red") refl;
  space = no_number (codes "1 ") refl;
}
