use Rattle.field_settings.proofs.OneSetting.{all_set_once, set_once}
use Rattle.field_settings.proofs.laws.one_value_is_set.Goals as goal

pub returns-clause-one : goal.returns-clause-one
returns-clause-one c = set_once

pub returns-clause-all : goal.returns-clause-all
returns-clause-all c = all_set_once
