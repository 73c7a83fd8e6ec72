use Rattle.std.proofs.Common.{refl}
use Rattle.json_meanings.proofs.examples.scalar_meanings.Goals as goal

pub returns : goal.returns
returns c = record {
  json_name = refl;
  proto_name = refl;
  int32_in_quotes = refl;
  least_of_int32 = refl;
  greatest_of_uint32 = refl;
  greatest_of_int64 = refl;
  int64_without_quotes = refl;
  greatest_of_fixed64 = refl;
  truth = refl;
  text = refl;
  enum_name = refl;
  enum_number = refl;
  enum_number_in_quotes = refl;
  name_like_a_number = refl;
  number_like_a_name = refl;
}
