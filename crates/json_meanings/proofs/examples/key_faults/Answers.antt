use Rattle.std.proofs.Common.{refl}
use Rattle.json_meanings.proofs.examples.key_faults.Goals as goal

pub returns : goal.returns
returns c = record {
  unknown = refl;
  twice = refl;
  twice_by_the_other_name = refl;
  map_key_twice = refl;
  map_key_twice_as_a_number = refl;
  no_truth = refl;
  no_number = refl;
  negative = refl;
  entry_at_level_101 = refl;
  entry_of_messages_at_level_100 = refl;
}
