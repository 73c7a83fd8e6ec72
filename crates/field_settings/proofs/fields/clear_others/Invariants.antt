use Rattle.std.proofs.Common.{◌≡◌, drop}
use Rattle.schema.specs.Value.{slots_of}
use Rattle.field_settings.specs.SettingSteps.{without_others}
use Rattle.field_settings.proofs.fields.clear_others.Given as goal

abbrev pub invariant-loop-other : goal.invariant-loop-other
invariant-loop-other l =
    without_others l.field (drop l.other-index l.fields) (slots_of l.value)
    ≡ without_others l.field l.fields (slots_of l.initial.value)
