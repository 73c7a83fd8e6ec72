use Rattle.query_settings.proofs.Fitting.{query_fits}
use Rattle.query_settings.proofs.laws.settings_fit.Goals as goal

pub returns : goal.returns
returns c s ignore query settings sound h =
    query_fits
    (record { scalars = c.leaves_are_valid.ensures.scalars; leaves = c.leaves_are_valid.ensures.leaves }) s sound ignore
    query settings h
