use Rattle.std.proofs.Common.{◌∙◌}
use Rattle.known_types.specs.KnownTexts.{known_text}
use Rattle.protojson_write.proofs.ShownLemmas.{part_some, whole_some}
use Rattle.protojson_write.proofs.printable.has_text.Goals as goal

pub returns-in-None : goal.returns-in-None
returns-in-None c =
    rw c.in-None.is (c.is_message_printable.ensures ∙ whole_some known_text c.args.types.now c.args.id c.args.value.now)

pub returns-in-Some : goal.returns-in-Some
returns-in-Some c =
    rw c.in-Some.is (c.is_part_printable.ensures ∙ part_some known_text c.args.types.now c.args.id c.in-Some.number c.args.value.now c.fields.result.now _ _ c.fields.ensures c.by_number.ensures c.get.ensures)
