use Rattle.field_settings.proofs.ExampleFacts.{absent_given, behind_none, cleared_given, kept_given, last_given, listed_given, made_given, member_given, no_field_given, passed_given, present_given, replaced_given, top_given}
use Rattle.field_settings.proofs.examples.setting_examples.Goals as goal

pub returns : goal.returns
returns c = record {
  top = top_given;
  replaced = replaced_given;
  made = made_given;
  kept = kept_given;
  cleared = cleared_given;
  absent = absent_given;
  present = present_given;
  listed = listed_given;
  member = member_given;
  passed = passed_given;
  last = last_given;
  no_path = λ w h. h;
  no_field = no_field_given;
  behind = behind_none;
}
