use Rattle.std.proofs.Common.{refl}
use Rattle.base64.proofs.OnLiterals.{base64_on_literals}
use Rattle.json_meanings.proofs.examples.value_faults.Goals as goal

pub returns : goal.returns
unfolding base64_on_literals
returns c = record {
  half_for_an_enum = refl;
  half_in_quotes_for_an_enum = refl;
  no_number = refl;
  leading_zero = refl;
  space_behind = refl;
  past_int32 = refl;
  past_int64 = refl;
  below_uint32 = refl;
  past_an_enum = refl;
  no_value_of_the_enum = refl;
  unused_bits = refl;
  padding_cut_short = refl;
  null_in_a_list = refl;
  null_in_a_map = refl;
  null_among_messages = refl;
  second_member = refl;
  level_101 = refl;
  level_101_of_a_part = refl;
}
