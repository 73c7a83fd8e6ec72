use Rattle.std.proofs.Common.{refl}
use Rattle.json_meanings.proofs.examples.presence_meanings.Goals as goal

pub returns : goal.returns
returns c = record {
  nothing = refl;
  default_is_not_stored = refl;
  minus_zero = refl;
  told_default_is_stored = refl;
  member_keeps_default = refl;
  null_is_unset = refl;
  second_member_is_null = refl;
  first_member_is_null = refl;
  two_oneofs = refl;
  null_map_and_message = refl;
  part_is_null = refl;
  empty_list = refl;
  empty_map = refl;
  empty_message = refl;
}
