use Rattle.std.proofs.Common.{ap, ◌∙◌, rules}
use Rattle.std.specs.Prelude.{unsigned_abs}
use Rattle.std.proofs.lemmas.Int.{to_z-of_z}
use Rattle.time_texts.proofs.ShownLemmas.{utc_day}
use Rattle.time_texts.proofs.timestamp.utc_at.Goals as goal
use mir.Syntax.{w16, w64}

pub returns-clause-date : goal.returns-clause-date
returns-clause-date c =
    utc_day c.in-Ok.date c.unsigned_abs-year.result c.args.day c.args.clock
    (c.unsigned_abs-year.ensures.value ∙ ap unsigned_abs (to_z-of_z w16 c.in-Ok.date.year (search rules)))
    (c.in-Ok.ensures.value ∙ to_z-of_z w64 c.args.day (search rules)) c.requires.from
