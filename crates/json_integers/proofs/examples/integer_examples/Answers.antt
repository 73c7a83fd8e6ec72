use Rattle.std.proofs.Common.{refl, lit<}
use Rattle.std.specs.Prelude.{codes}
use Rattle.json_integers.proofs.AnswerLemmas.{parts_answer}
use Rattle.json_integers.proofs.examples.integer_examples.Goals as goal

pub returns : goal.returns
returns c = record {
  zero = parts_answer (codes "0") refl (lit< tt);
  minus_zero = parts_answer (codes "-0") refl (lit< tt);
  zero_with_an_exponent = parts_answer (codes "0e5") refl (lit< tt);
  zeros_behind_the_point = parts_answer (codes "-0.00E-5") refl (lit< tt);
  whole = parts_answer (codes "1.0") refl (lit< tt);
  larger = parts_answer (codes "1e2") refl (lit< tt);
  smaller = parts_answer (codes "100e-2") refl (lit< tt);
  point_and_exponent = parts_answer (codes "1200.0E-2") refl (lit< tt);
  moved_point = parts_answer (codes "0.00125e+5") refl (lit< tt);
  with_a_point = parts_answer (codes "7.0") refl (lit< tt);
  minus_one = parts_answer (codes "-1") refl (lit< tt);
  past_32_bits = parts_answer (codes "2147483648") refl (lit< tt);
  least_of_32_bits = parts_answer (codes "-2147483648") refl (lit< tt);
  greatest_of_64_bits = parts_answer (codes "18446744073709551615") refl (lit< tt);
}
