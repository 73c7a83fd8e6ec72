use Rattle.std.proofs.Common.{ap, subst, sym, ◌∙◌}
use Rattle.known_types.specs.KnownTexts.{known_text}
use Rattle.json_meanings.specs.TextTypes.{IsByFields}
use Rattle.protojson_write.specs.KnownParts.{have_texts, parts_within}
use Rattle.schema.specs.declared.value.Slot.{out-Slot}
use Rattle.protojson_write.proofs.LevelLemmas.{parts_fields, parts_known, parts_none}
use Rattle.protojson_write.proofs.PartLemmas.{one_parts}
use Rattle.protojson_write.proofs.printable.+walk.Goals as goal

pub is_message_printable-returns-then-levels-eq0 : goal.is_message_printable-returns-then-levels-eq0
is_message_printable-returns-then-levels-eq0 t c =
    ap (have_texts known_text) (sym (parts_none c.args.levels c.args.types.now c.args.id c.args.value.now c.if-levels-eq0.true))

pub is_message_printable-returns-in-Plain : goal.is_message_printable-returns-in-Plain
is_message_printable-returns-in-Plain t c =
    c.are_slots_printable.ensures ∙ parts_fields known_text c.args.levels c.args.types.now c.args.id c.args.value.now c.find_known.result _ _ c.if-levels-eq0.false c.find_known.ensures (subst IsByFields (sym c.in-Plain.is) tt) c.fields.ensures c.fields-in-Plain.ensures

pub is_message_printable-returns-in-Wrapper : goal.is_message_printable-returns-in-Wrapper
is_message_printable-returns-in-Wrapper t c =
    c.are_slots_printable-in-Wrapper.ensures ∙ parts_fields known_text c.args.levels c.args.types.now c.args.id c.args.value.now c.find_known.result _ _ c.if-levels-eq0.false c.find_known.ensures (subst IsByFields (sym c.in-Wrapper.is) tt) c.fields-in-Wrapper.ensures c.fields-in-Wrapper-2.ensures

pub is_message_printable-returns-in_default : goal.is_message_printable-returns-in_default
is_message_printable-returns-in_default t c =
    let e = parts_known known_text c.args.levels c.args.types.now c.args.id c.args.value.now c.find_known.result c.if-levels-eq0.false c.find_known.ensures c.in_default.not-Plain c.in_default.not-Wrapper in
    cc

pub is_slot_printable-returns-in_default : goal.is_slot_printable-returns-in_default
is_slot_printable-returns-in_default t c =
    one_parts known_text (parts_within c.args.levels c.args.types.now) c.args.kind c.in_default.field-0 (out-Slot c.args.slot.now) c.in_default.is
