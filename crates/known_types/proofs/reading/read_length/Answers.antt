use Rattle.std.proofs.Common.{subst}
use Rattle.known_types.specs.KnownAnswers.{IsAnswer}
use Rattle.known_types.specs.KnownTexts.{timed}
use Rattle.known_types.proofs.reading.read_length.Goals as goal

pub returns : goal.returns
returns c =
    subst (λ r. IsAnswer (timed r) c.timed.result)
    (c.readings_are_computed.ensures.durations _ _ c.read_duration.ensures) c.timed.ensures
