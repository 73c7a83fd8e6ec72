use Rattle.std.proofs.Common.{append-nil, sym}
use Rattle.base.proofs.ExtendsLemmas.{on_any}
use Rattle.known_types.specs.KnownTexts.{known_text}
use Rattle.protojson_write.proofs.LevelLemmas.{text_known, text_none, text_plain, text_wrapper}
use Rattle.protojson_write.proofs.StopLemmas.{extends_over}
use Rattle.protojson_write.proofs.writer.+put.Goals as goal

pub put_message-returns-then-within-eq0-clause-ok : goal.put_message-returns-then-within-eq0-clause-ok
put_message-returns-then-within-eq0-clause-ok t c = rw (text_none known_text c.args.within.level c.args.within.types.now c.args.id c.args.value.now c.if-within-eq0.true) (sym (append-nil _))

pub put_message-returns-in-Plain-clause-ok : goal.put_message-returns-in-Plain-clause-ok
put_message-returns-in-Plain-clause-ok t c =
    rw (text_plain known_text c.args.within.level c.args.within.types.now c.args.id c.args.value.now _ _ _ c.if-within-eq0.false c.find_known-known.ensures c.in-Plain.is c.fields-fields.ensures c.fields.ensures) c.put_object.ensures.ok

pub put_message-returns-in-Plain-clause-stop : goal.put_message-returns-in-Plain-clause-stop
put_message-returns-in-Plain-clause-stop t c =
    rw (text_plain known_text c.args.within.level c.args.within.types.now c.args.id c.args.value.now _ _ _ c.if-within-eq0.false c.find_known-known.ensures c.in-Plain.is c.fields-fields.ensures c.fields.ensures) c.put_object.ensures.stop

pub put_message-returns-in-Wrapper-clause-ok : goal.put_message-returns-in-Wrapper-clause-ok
put_message-returns-in-Wrapper-clause-ok t c =
    rw (text_wrapper known_text c.args.within.level c.args.within.types.now c.args.id c.args.value.now _ _ _ _ c.if-within-eq0.false c.find_known-known.ensures c.in-Wrapper.is c.fields-fields.ensures c.by_number.ensures c.get.ensures) c.put_part.ensures.ok

pub put_message-returns-in-Wrapper-clause-stop : goal.put_message-returns-in-Wrapper-clause-stop
put_message-returns-in-Wrapper-clause-stop t c =
    rw (text_wrapper known_text c.args.within.level c.args.within.types.now c.args.id c.args.value.now _ _ _ _ c.if-within-eq0.false c.find_known-known.ensures c.in-Wrapper.is c.fields-fields.ensures c.by_number.ensures c.get.ensures) c.put_part.ensures.stop

pub put_message-returns-in_ok-put_known-in_default : goal.put_message-returns-in_ok-put_known-in_default
put_message-returns-in_ok-put_known-in_default t c = record {
  ok = rw (text_known known_text c.args.within.level c.args.within.types.now c.args.id c.args.value.now c.find_known-known.result c.if-within-eq0.false c.find_known-known.ensures c.in_default.not-Plain c.in_default.not-Wrapper) c.in_ok-put_known-in_default.ensures.ok;
  err = tt;
  stop = tt;
}

pub put_other_items-returns-in_err-put_item-clause-err : goal.put_other_items-returns-in_err-put_item-clause-err
put_other_items-returns-in_err-put_item-clause-err t c =
    on_any c.from_residual-in_err-put_item.result (extends_over _ _ _ _ _ c.loop-item.invariant.grown c.in_ok-put_comma.ensures.ok c.in_err-put_item.ensures.err)

pub put_other_entries-returns-in_err-put_entry-clause-err : goal.put_other_entries-returns-in_err-put_entry-clause-err
put_other_entries-returns-in_err-put_entry-clause-err t c =
    on_any c.from_residual-in_err-put_entry.result (extends_over _ _ _ _ _ c.loop-key.invariant.grown c.in_ok-put_comma.ensures.ok c.in_err-put_entry.ensures.err)

pub put_other_members-returns-in_err-put_member-clause-err : goal.put_other_members-returns-in_err-put_member-clause-err
put_other_members-returns-in_err-put_member-clause-err t c =
    on_any c.from_residual-in_err-put_member.result (extends_over _ _ _ _ _ c.loop-number.invariant.grown c.in_ok-put_comma.ensures.ok c.in_err-put_member.ensures.err)

pub put_other_items-returns-in_err-put_comma-clause-err : goal.put_other_items-returns-in_err-put_comma-clause-err
put_other_items-returns-in_err-put_comma-clause-err t c =
    on_any c.from_residual.result (rw c.in_err-put_comma.ensures.err c.loop-item.invariant.grown)

pub put_other_entries-returns-in_err-put_comma-clause-err : goal.put_other_entries-returns-in_err-put_comma-clause-err
put_other_entries-returns-in_err-put_comma-clause-err t c =
    on_any c.from_residual.result (rw c.in_err-put_comma.ensures.err c.loop-key.invariant.grown)

pub put_other_members-returns-in_err-put_comma-clause-err : goal.put_other_members-returns-in_err-put_comma-clause-err
put_other_members-returns-in_err-put_comma-clause-err t c =
    on_any c.from_residual.result (rw c.in_err-put_comma.ensures.err c.loop-number.invariant.grown)
