use Rattle.field_settings.proofs.OneSetting.{set_again}
use Rattle.field_settings.proofs.laws.setting_again_replaces.Goals as goal

pub returns : goal.returns
returns c = set_again
