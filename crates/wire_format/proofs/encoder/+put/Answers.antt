use Rattle.std.proofs.Common.{◌++◌, ◌∙◌, ap, arith}
use Rattle.std.proofs.lemmas.Result.{on_ok_weaker}
use Rattle.base.proofs.ExtendsLemmas.{on_any, extends_more}
use Rattle.wire_format.proofs.encoding.ValidLemmas.{no_message, message_slots, canonical_open}
use Rattle.wire_format.proofs.encoder.+put.Goals as goal

pub put_items-returns-in_err-put_item-clause-err : goal.put_items-returns-in_err-put_item-clause-err
put_items-returns-in_err-put_item-clause-err t c = on_any c.from_residual.result (extends_more _ _ _ c.loop-item.invariant.grown c.in_err-put_item.ensures.err)

pub put_records-returns-in_err-put_record-clause-err : goal.put_records-returns-in_err-put_record-clause-err
put_records-returns-in_err-put_record-clause-err t c = on_any c.from_residual.result (extends_more _ _ _ c.loop-item.invariant.grown c.in_err-put_record.ensures.err)

pub put_entries-returns-in_err-put_entry-clause-err : goal.put_entries-returns-in_err-put_entry-clause-err
put_entries-returns-in_err-put_entry-clause-err t c = on_any c.from_residual.result (extends_more _ _ _ c.loop-key.invariant.grown c.in_err-put_entry.ensures.err)

pub put_slots-returns-in_err-put_field-clause-err : goal.put_slots-returns-in_err-put_field-clause-err
put_slots-returns-in_err-put_field-clause-err t c = on_any c.from_residual.result (extends_more _ _ _ c.loop-number.invariant.grown c.in_err-put_field.ensures.err)

pub put_message-returns-then-within-eq0-clause-ok : goal.put_message-returns-then-within-eq0-clause-ok
put_message-returns-then-within-eq0-clause-ok t c = absurd (no_message c.args.within.level c.args.within.types.now c.args.id c.args.value.now c.if-within-eq0.true c.requires)

pub put_message-put_slots-requires : goal.put_message-put_slots-requires
put_message-put_slots-requires t c =
    (omega (arith, c.if-within-eq0.false), message_slots c.args.within.level c.args.within.types.now c.args.id c.args.value.now _ _ c.if-within-eq0.false c.fields.ensures c.fields-2.ensures c.requires)

pub put_message-returns-clause-ok : goal.put_message-returns-clause-ok
put_message-returns-clause-ok t c =
    on_ok_weaker c.put_slots.result (λ e. e ∙ ap (λ x. c.args.out.now.items ++ x) (canonical_open c.args.within.level c.args.within.types.now c.args.id c.args.value.now _ _ c.if-within-eq0.false c.fields.ensures c.fields-2.ensures)) c.put_slots.ensures.ok
