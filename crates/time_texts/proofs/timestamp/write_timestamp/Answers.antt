use Rattle.std.proofs.Common.{ap, subst, ◌∙◌, rules}
use Rattle.std.specs.Prelude.{unsigned_abs}
use Rattle.std.proofs.lemmas.Int.{to_z-of_z}
use Rattle.time_texts.specs.TimestampTexts.{IsUtcOf}
use Rattle.time_texts.proofs.ShownLemmas.{appended}
use Rattle.time_texts.proofs.timestamp.write_timestamp.Goals as goal
use mir.Syntax.{w32, w64}

pub returns-clause-ok : goal.returns-clause-ok
returns-clause-ok c =
    appended c.args.moment c.utc_of-utc.result c.unsigned_abs-nanos.result c.args.out.now.items c.write_utc.new.out.items
    c.write_utc.result
    (subst (λ z. IsUtcOf z c.utc_of-utc.result) (to_z-of_z w64 c.args.moment.seconds (search rules)) c.utc_of-utc.ensures)
    (c.unsigned_abs-nanos.ensures.value ∙ ap unsigned_abs (to_z-of_z w32 c.args.moment.nanos (search rules)))
    c.write_utc.ensures.ok
