use Rattle.field_settings.proofs.OneSetting.{set_holds}
use Rattle.field_settings.proofs.laws.what_is_set_is_found.Goals as goal

pub returns : goal.returns
returns c = set_holds
