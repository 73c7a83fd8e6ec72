use Rattle.field_settings.proofs.LevelFacts.{deepest_fits, deepest_time_fits, listed_fits, one_of_list_none, other_kind_none, through_time_none, too_deep_none, too_deep_time_none}
use Rattle.field_settings.proofs.examples.level_examples.Goals as goal

pub returns : goal.returns
returns c = record {
  deepest = deepest_fits;
  too_deep = too_deep_none;
  deepest_time = deepest_time_fits;
  too_deep_time = too_deep_time_none;
  listed = listed_fits;
  one_of_list = one_of_list_none;
  other_kind = other_kind_none;
  through_time = through_time_none;
}
