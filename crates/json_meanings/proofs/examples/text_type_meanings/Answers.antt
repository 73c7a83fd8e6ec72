use Rattle.std.proofs.Common.{refl}
use Rattle.json_meanings.proofs.examples.text_type_meanings.Goals as goal

pub returns : goal.returns
returns c = record {
  time = refl;
  duration = refl;
  mask = refl;
  whole = refl;
  entry = refl;
  bad_time = refl;
  far_time = refl;
  time_is_a_number = refl;
  time_is_an_object = refl;
  key_twice = refl;
  bad_key = refl;
  time_at_level_101 = refl;
  depth_before_text = refl;
  shape_before_depth = refl;
  bracket_before_depth = refl;
  time_at_level_100 = refl;
}
