use Rattle.field_settings.proofs.SetPaths.{all_are_set}
use Rattle.field_settings.specs.SettingSteps.{all_set}
use Rattle.field_settings.proofs.laws.what_fits_is_set.Goals as goal

pub returns : goal.returns
returns c types id settings v sound fits valid =
    let made = all_are_set types id settings v sound fits valid in (all_set types id settings v, made.0, made.1)
