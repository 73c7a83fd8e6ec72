use Rattle.std.proofs.Common.{◌≡◌, ◌∙◌, sym, subst}
use Rattle.std.proofs.lemmas.List.{at_drop_all}
use Rattle.field_settings.specs.AppliedSettings.{AreSet}
use Rattle.field_settings.specs.SettingSteps.{all_set}
use Rattle.schema.specs.Validity.{IsValid}
use Rattle.field_settings.proofs.SetPaths.{all_are_set}
use Rattle.field_settings.proofs.applying.apply.Goals as goal

-- what the loop leaves is what all settings make
made : (c : goal.After-loop-setting)
    → all_set c.args.types.now c.args.id c.args.settings.now c.args.value ≡ c.loop-setting.changed
made c =
    sym c.loop-setting.invariant
    ∙ at_drop_all (λ ss. all_set c.args.types.now c.args.id ss c.loop-setting.changed) c.args.settings.now
    c.loop-setting.setting-index c.loop-setting-test.false

pub returns-clause-set : goal.returns-clause-set
returns-clause-set c =
    subst (AreSet c.args.types.now c.args.id c.args.settings.now c.args.value) (made c)
    (all_are_set c.args.types.now c.args.id c.args.settings.now c.args.value c.requires.sound c.requires.fits
    c.requires.valid).0

pub returns-clause-valid : goal.returns-clause-valid
returns-clause-valid c =
    subst (IsValid c.args.types.now c.args.id) (made c)
    (all_are_set c.args.types.now c.args.id c.args.settings.now c.args.value c.requires.sound c.requires.fits
    c.requires.valid).1
