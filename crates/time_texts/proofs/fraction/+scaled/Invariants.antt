use Rattle.std.proofs.Common.{◌-◌}
use Rattle.time_texts.proofs.fraction.+scaled.Given as goal

abbrev pub decreases-scaled : goal.decreases-scaled
decreases-scaled l = 9 - l.places
