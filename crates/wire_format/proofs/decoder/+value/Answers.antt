use Rattle.std.proofs.Common.{◌-◌, ◌∙◌, ℕ, List, Bor, map, filter_map, ap, sym, subst, refl, arith}
use Rattle.message_types.specs.declared.fields.Kind.TheVariants.{One as OneOf}
use Rattle.wire_format.specs.FieldValues.{payloads, counted, slot_of, meaning_within}
use Rattle.wire_format.specs.GoodBytes.{AreGood}
use Rattle.wire_records.specs.RecordViews.{raw_of, payload_of}
use Rattle.wire_format.specs.WireFaults.{entry_field, entry_fields}
use Rattle.wire_records.specs.WireRecord.{records}
use Rattle.wire_format.proofs.decoding.EntryLemmas.{puts, puts_all, puts_rise}
use Rattle.std.proofs.lemmas.Result.{IfOk-weaker}
use Rattle.wire_format.proofs.decoding.GoodLemmas.{good_some, good_open, chunks_good, chunks_entries, joined_good, payloads_good, counted_good, single_good}
use Rattle.wire_format.proofs.decoding.ItemLemmas.{gather_onto, gather_step, gather_is}
use Rattle.wire_format.proofs.decoding.MeaningLemmas.{message_open, entry_is, entry_open}
use Rattle.wire_format.proofs.decoder.+value.Goals as goal

abbrev bytes_in : Bor (List ℕ) → List ℕ
bytes_in b = b.now

pub message_by-merged-requires : goal.message_by-merged-requires
message_by-merged-requires t c =
    (omega arith, chunks_good (AreGood c.args.within.level c.args.within.types.now) c.args.within.types.now c.args.id (map payload_of c.args.payloads.now) _ c.fields.result.now (ap (map bytes_in) c.as_slice.ensures.value ∙ c.in_ok-chunks.ensures) c.fields.ensures c.requires)

pub joined_message-message_of-requires-2 : goal.joined_message-message_of-requires-2
joined_message-message_of-requires-2 t c = (
  omega arith,
  subst (AreGood c.args.within.level c.args.within.types.now c.args.fields.now) (sym (c.as_slice.ensures.value ∙ c.in_ok-bytes.ensures))
      (joined_good c.args.within.level c.args.within.types.now c.args.fields.now c.args.first.now (map bytes_in c.args.rest.now) c.requires.good c.requires.rest),
)

pub map_by-pairs_of-requires : goal.map_by-pairs_of-requires
map_by-pairs_of-requires t c =
    (omega arith, chunks_entries (AreGood c.args.within.level c.args.within.types.now) c.args.within.types.now c.args.scalar c.args.kind (map payload_of c.args.payloads.now) _ (ap (map bytes_in) c.as_slice.ensures.value ∙ c.in_ok-chunks.ensures) c.requires)

pub entry_of-overflow_sub-inner : goal.entry_of-overflow_sub-inner
entry_of-overflow_sub-inner t c = good_some c.args.within.level c.args.within.types.now (entry_fields c.args.scalar c.args.kind) c.args.bytes.now c.requires

pub entry_of-part_of-requires : goal.entry_of-part_of-requires
entry_of-part_of-requires t c =
    let fields = entry_fields c.args.scalar c.args.kind in
    let some = good_some c.args.within.level c.args.within.types.now fields c.args.bytes.now c.requires in
    let goods = good_open c.args.within.level c.args.within.types.now fields c.args.bytes.now (map raw_of c.as_slice.result.now) c.requires (ap (map raw_of) c.as_slice.ensures.value ∙ c.in_ok-records.ensures) in (
      omega (arith, some),
      single_good (AreGood (c.args.within.level - 1) c.args.within.types.now) c.args.within.types.now (OneOf c.args.scalar) _
          (payloads_good (AreGood (c.args.within.level - 1) c.args.within.types.now) c.args.within.types.now fields 1 (entry_field 1 (OneOf c.args.scalar)) refl (map raw_of c.as_slice.result.now) _ goods refl),
    )

pub entry_of-part_of-requires-2 : goal.entry_of-part_of-requires-2
entry_of-part_of-requires-2 t c =
    let fields = entry_fields c.args.scalar c.args.kind in
    let some = good_some c.args.within.level c.args.within.types.now fields c.args.bytes.now c.requires in
    let goods = good_open c.args.within.level c.args.within.types.now fields c.args.bytes.now (map raw_of c.as_slice-2.result.now) c.requires (ap (map raw_of) c.as_slice-2.ensures.value ∙ c.in_ok-records.ensures) in (
      omega (arith, some),
      single_good (AreGood (c.args.within.level - 1) c.args.within.types.now) c.args.within.types.now c.args.kind _
          (payloads_good (AreGood (c.args.within.level - 1) c.args.within.types.now) c.args.within.types.now fields 2 (entry_field 2 c.args.kind) refl (map raw_of c.as_slice-2.result.now) _ goods refl),
    )

pub entry_of-returns : goal.entry_of-returns
entry_of-returns t c =
    let fields = entry_fields c.args.scalar c.args.kind in
    let some = good_some c.args.within.level c.args.within.types.now fields c.args.bytes.now c.requires in
    sym (entry_is (meaning_within (c.args.within.level - 1) c.args.within.types.now) c.args.within.types.now c.args.scalar c.args.kind (records (c.args.within.level - 1) 0 c.args.bytes.now) (map raw_of c.as_slice.result.now) (map raw_of c.as_slice-2.result.now)
    c.key_of.result c.in_ok-key.key c.in_ok-item.item
    (ap (map raw_of) c.as_slice.ensures.value ∙ c.in_ok-records.ensures) (ap (map raw_of) c.as_slice-2.ensures.value ∙ c.in_ok-records.ensures) c.key_of.ensures c.in_ok-key.ensures c.in_ok-item.ensures
    ∙ entry_open c.args.within.level c.args.within.types.now c.args.scalar c.args.kind c.args.bytes.now (records (c.args.within.level - 1) 0 c.args.bytes.now) some refl)

pub pairs_of-loop-chunk-init : goal.pairs_of-loop-chunk-init
pairs_of-loop-chunk-init t c =
    let all = filter_map ((meaning_within c.args.within.level c.args.within.types.now).entry c.args.scalar c.args.kind) (map bytes_in c.args.chunks.now) in
    record { rest = c.requires; told = ap (λ es. puts es all) c.new-last.ensures.empty ∙ puts_all all }

pub pairs_of-entries_pairs-requires : goal.pairs_of-entries_pairs-requires
pairs_of-entries_pairs-requires t c =
    let entry = (meaning_within c.args.within.level c.args.within.types.now).entry c.args.scalar c.args.kind in
    puts_rise (λ (bs : List (Bor (List ℕ))). filter_map entry (map bytes_in bs)) c.loop-chunk.last.entries c.loop-chunk.chunk-index c.args.chunks.now (omega (arith, c.loop-chunk-test.false)) refl c.loop-chunk.invariant.told

pub field_slot-slot_by-requires : goal.field_slot-slot_by-requires
field_slot-slot_by-requires t c =
    let all = map raw_of c.args.records.now in (
      omega arith,
      payloads_good (AreGood c.args.within.level c.args.within.types.now) c.args.within.types.now c.args.fields.now c.args.number c.args.field.now c.requires.known (counted c.args.within.types.now c.args.fields.now c.args.number c.args.field.now.shape all) (map payload_of c.as_slice.result.now)
          (counted_good (AreGood c.args.within.level c.args.within.types.now) c.args.within.types.now c.args.fields.now c.args.number c.args.field.now.shape all c.requires.good)
          (ap (map payload_of) c.as_slice.ensures.value ∙ c.in_ok-payloads.ensures ∙ ap (payloads c.args.number) c.counted-counting.ensures),
    )

pub gathered-loop-field-init : goal.gathered-loop-field-init
gathered-loop-field-init t c =
    let slot = slot_of (meaning_within c.args.within.level c.args.within.types.now) c.args.within.types.now c.args.fields.now (map raw_of c.args.records.now) in
    ap (gather_onto slot c.args.fields.now) c.new-value.ensures ∙ gather_is slot c.args.fields.now

pub gathered-loop-field-preserved : goal.gathered-loop-field-preserved
gathered-loop-field-preserved t c =
    let slot = slot_of (meaning_within c.args.within.level c.args.within.types.now) c.args.within.types.now c.args.fields.now (map raw_of c.args.records.now) in
    gather_step slot c.loop-field.left.now c.in-Some.rest.now c.in-Some.field.now c.loop-field.value.fields c.put.new.value.fields c.in_ok-slot.slot _ c.in-Some.ensures.cases c.in_ok-slot.ensures c.in_ok-put.ensures c.loop-field.invariant

pub message_of-overflow_sub-inner : goal.message_of-overflow_sub-inner
message_of-overflow_sub-inner t c = good_some c.args.within.level c.args.within.types.now c.args.fields.now c.args.bytes.now c.requires

pub message_of-gathered-requires : goal.message_of-gathered-requires
message_of-gathered-requires t c =
    let some = good_some c.args.within.level c.args.within.types.now c.args.fields.now c.args.bytes.now c.requires in
    (omega (arith, some), good_open c.args.within.level c.args.within.types.now c.args.fields.now c.args.bytes.now (map raw_of c.as_slice.result.now) c.requires (ap (map raw_of) c.as_slice.ensures.value ∙ c.in_ok-records.ensures))

pub message_of-returns : goal.message_of-returns
message_of-returns t c =
    let some = good_some c.args.within.level c.args.within.types.now c.args.fields.now c.args.bytes.now c.requires in
    IfOk-weaker c.gathered.result _ _
    (λ v h. message_open c.args.within.level c.args.within.types.now c.args.fields.now c.args.bytes.now (map raw_of c.as_slice.result.now) v some (ap (map raw_of) c.as_slice.ensures.value ∙ c.in_ok-records.ensures) h)
    c.gathered.ensures
