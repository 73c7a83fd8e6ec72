use Rattle.std.proofs.Common.{refl}
use Rattle.json_meanings.proofs.examples.wrong_shapes.Goals as goal

pub returns : goal.returns
returns c = record {
  message_is_an_array = refl;
  message_is_null = refl;
  message_is_a_text = refl;
  number_is_a_truth = refl;
  truth_is_a_text = refl;
  truth_is_a_number = refl;
  text_is_a_number = refl;
  bytes_are_a_number = refl;
  enum_is_a_truth = refl;
  number_is_an_object = refl;
  list_is_a_number = refl;
  list_is_an_object = refl;
  list_in_a_list = refl;
  map_is_an_array = refl;
  number_is_an_array = refl;
}
