use Rattle.std.proofs.Common.{ap, ◌∙◌, rules}
use Rattle.std.specs.Prelude.{unsigned_abs}
use Rattle.std.proofs.lemmas.Int.{to_z-of_z}
use Rattle.time_texts.proofs.ShownLemmas.{appended_duration}
use Rattle.time_texts.proofs.duration.write_duration.Goals as goal
use mir.Syntax.{w32, w64}

pub returns-clause-ok : goal.returns-clause-ok
returns-clause-ok c =
    appended_duration c.args.moment c.has_negative-is_negative.result c.unsigned_abs-seconds.result c.unsigned_abs-nanos.result
    c.args.out.now.items c.write_parts.new.out.items c.write_parts.result c.has_negative-is_negative.ensures
    (c.unsigned_abs-seconds.ensures.value ∙ ap unsigned_abs (to_z-of_z w64 c.args.moment.seconds (search rules)))
    (c.unsigned_abs-nanos.ensures.value ∙ ap unsigned_abs (to_z-of_z w32 c.args.moment.nanos (search rules)))
    c.write_parts.ensures.ok
