use Rattle.std.proofs.Common.{◌∙◌, ap}
use Rattle.std.specs.Prelude.{slice_set}
use Rattle.query_settings.proofs.Places.{extended_there}
use Rattle.query_settings.proofs.gathered.extend_at.Goals as goal

pub returns : goal.returns
returns c =
    ap (λ slot. slice_set c.args.settings.now.items c.args.place
    (record { path = c.index_mut-setting.result.now.path; slot = slot })) c.in_ok-extend.ensures
    ∙ extended_there c.args.settings.now.items c.args.place c.index_mut-setting.result.now c.args.item c.requires
    c.index_mut-setting.ensures.value
