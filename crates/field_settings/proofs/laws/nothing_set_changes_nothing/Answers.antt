use Rattle.field_settings.proofs.laws.nothing_set_changes_nothing.Goals as goal

pub returns : goal.returns
returns c types id v w = (λ h. h, λ h. h)
