use Rattle.std.proofs.Common.{◌≡◌, drop}
use Rattle.field_settings.specs.SettingSteps.{all_set}
use Rattle.field_settings.proofs.applying.apply.Given as goal

abbrev pub invariant-loop-setting : goal.invariant-loop-setting
invariant-loop-setting l =
    all_set l.types l.id (drop l.setting-index l.settings) l.changed ≡ all_set l.types l.id l.settings l.initial.changed
