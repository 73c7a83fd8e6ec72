use Rattle.std.proofs.Common.{◌-◌, ◌+◌, ◌^◌, ◌++◌, ◌∙◌, ap, arith, refl}
use Rattle.std.specs.Prelude.{min}
use Rattle.wire_format.specs.CanonicalBytes.{canonical_within, key_bytes, record_bytes, items_bytes, records_bytes, entries_bytes, slots_bytes}
use Rattle.wire_records.specs.RecordBytes.{tag}
use Rattle.wire_format.specs.Sizes.{size_of}
use Rattle.wire_format.proofs.encoding.SizeLemmas.{size_three, size_end}
use Rattle.wire_format.proofs.encoding.ValidLemmas.{no_message, message_slots, canonical_open}
use Rattle.wire_format.proofs.sizes.+size.Goals as goal

pub items_len-returns : goal.items_len-returns
items_len-returns t c =
    size_end (items_bytes (canonical_within c.args.within.level c.args.within.types.now) c.args.kind) c.loop-item.total c.loop-item.item-index c.args.items.now (omega (arith, c.loop-item-test.false)) refl c.loop-item.invariant.small c.loop-item.invariant.told

pub records_len-returns : goal.records_len-returns
records_len-returns t c =
    size_end (records_bytes (canonical_within c.args.within.level c.args.within.types.now) c.args.number c.args.kind) c.loop-item.total c.loop-item.item-index c.args.items.now (omega (arith, c.loop-item-test.false)) refl c.loop-item.invariant.small c.loop-item.invariant.told

pub entries_len-returns : goal.entries_len-returns
entries_len-returns t c =
    size_end (entries_bytes (canonical_within c.args.within.level c.args.within.types.now) c.args.number c.args.scalar c.args.kind) c.loop-key.total c.loop-key.key-index c.args.entries.now (omega (arith, c.loop-key-test.false)) refl c.loop-key.invariant.small c.loop-key.invariant.told

pub slots_len-returns : goal.slots_len-returns
slots_len-returns t c =
    size_end (slots_bytes (canonical_within c.args.within.level c.args.within.types.now) c.args.fields.now) c.loop-number.total c.loop-number.number-index c.args.slots.now (omega (arith, c.loop-number-test.false)) refl c.loop-number.invariant.small c.loop-number.invariant.told

pub entry_len-returns : goal.entry_len-returns
entry_len-returns t c =
    c.saturating_add-2.ensures ∙ ap (λ x. min (c.tag_len.result + x) (2 ^ 64 - 1)) c.saturating_add.ensures
    ∙ size_three (tag 1 c.scalar_wire.result) (key_bytes c.args.scalar c.args.key.now) (record_bytes (canonical_within c.args.within.level c.args.within.types.now) 2 c.args.kind c.args.item.now) c.tag_len.result c.key_len.result c.record_len-value_len.result
    c.tag_len.ensures c.key_len.ensures c.record_len-value_len.ensures
    ∙ ap (λ w. size_of (tag 1 w ++ (key_bytes c.args.scalar c.args.key.now ++ record_bytes (canonical_within c.args.within.level c.args.within.types.now) 2 c.args.kind c.args.item.now))) c.scalar_wire.ensures.value

pub message_len-returns-then-within-eq0 : goal.message_len-returns-then-within-eq0
message_len-returns-then-within-eq0 t c = absurd (no_message c.args.within.level c.args.within.types.now c.args.id c.args.value.now c.if-within-eq0.true c.requires)

pub message_len-slots_len-requires : goal.message_len-slots_len-requires
message_len-slots_len-requires t c =
    (omega (arith, c.if-within-eq0.false), message_slots c.args.within.level c.args.within.types.now c.args.id c.args.value.now _ _ c.if-within-eq0.false c.fields.ensures c.fields-2.ensures c.requires)

pub message_len-returns : goal.message_len-returns
message_len-returns t c =
    c.slots_len.ensures ∙ ap size_of (canonical_open c.args.within.level c.args.within.types.now c.args.id c.args.value.now _ _ c.if-within-eq0.false c.fields.ensures c.fields-2.ensures)
