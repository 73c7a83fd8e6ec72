use Rattle.field_settings.proofs.OneSetting.{set_keeps}
use Rattle.field_settings.proofs.laws.the_rest_stays.Goals as goal

pub returns : goal.returns
returns c = set_keeps
