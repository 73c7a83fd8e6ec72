use Rattle.query_settings.proofs.OneSetting.{one_setting}
use Rattle.query_settings.proofs.laws.each_field_has_one_setting.Goals as goal

pub returns : goal.returns
returns c = one_setting
