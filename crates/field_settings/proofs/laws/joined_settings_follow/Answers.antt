use Rattle.field_settings.proofs.OneSetting.{set_joined}
use Rattle.field_settings.proofs.laws.joined_settings_follow.Goals as goal

pub returns : goal.returns
returns c = set_joined
