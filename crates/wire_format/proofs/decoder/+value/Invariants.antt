use Rattle.std.proofs.Common.{◌≡◌, ◌+◌, ◌*◌, ◌++◌, length, drop, map}
use Rattle.std.specs.List.{AllByRecursion, flat_map, filter_map}
use Rattle.schema.specs.Value.{slots_of}
use Rattle.schema.specs.declared.value.Item.{out-Item}
use Rattle.wire_format.specs.FieldValues.{items_of, last_entries, slot_of, gather, meaning_within}
use Rattle.wire_format.specs.GoodBytes.{IsGoodItem, AreGood}
use Rattle.wire_records.specs.RecordViews.{raw_of, payload_of}
use Rattle.wire_format.specs.WireFaults.{entry_fields}
use Rattle.wire_format.proofs.decoding.EntryLemmas.{puts}
use Rattle.wire_format.proofs.decoding.ItemLemmas.{gather_onto}
use Rattle.wire_format.proofs.decoder.+value.Given as goal

abbrev pub invariant-list_of-loop-payload : goal.invariant-list_of-loop-payload
invariant-list_of-loop-payload l = record {
  rest : AllByRecursion (IsGoodItem (AreGood l.within.level l.within.types.now) l.within.types.now l.kind) (map payload_of (drop l.payload-index l.payloads));
  told : map out-Item l.items ++ flat_map (items_of (meaning_within l.within.level l.within.types.now) l.within.types.now l.kind) (map payload_of (drop l.payload-index l.payloads)) ≡ flat_map (items_of (meaning_within l.within.level l.within.types.now) l.within.types.now l.kind) (map payload_of l.payloads);
}

abbrev pub invariant-pairs_of-loop-chunk : goal.invariant-pairs_of-loop-chunk
invariant-pairs_of-loop-chunk l = record {
  rest : AllByRecursion (AreGood l.within.level l.within.types.now (entry_fields l.scalar l.kind)) (map (λ b. b.now) (drop l.chunk-index l.chunks));
  told : puts l.last.entries (filter_map ((meaning_within l.within.level l.within.types.now).entry l.scalar l.kind) (map (λ b. b.now) (drop l.chunk-index l.chunks))) ≡ last_entries (filter_map ((meaning_within l.within.level l.within.types.now).entry l.scalar l.kind) (map (λ b. b.now) l.chunks));
}

abbrev pub decreases-gathered-loop-field : goal.decreases-gathered-loop-field
decreases-gathered-loop-field l = length l.left

abbrev pub invariant-gathered-loop-field : goal.invariant-gathered-loop-field
invariant-gathered-loop-field l =
    gather_onto (slot_of (meaning_within l.within.level l.within.types.now) l.within.types.now l.fields (map raw_of l.records)) l.left (slots_of l.value) ≡ gather (slot_of (meaning_within l.within.level l.within.types.now) l.within.types.now l.fields (map raw_of l.records)) l.fields

abbrev pub decreases-joined_message : goal.decreases-joined_message
decreases-joined_message l = 16 * l.within.level + 1

abbrev pub decreases-merged : goal.decreases-merged
decreases-merged l = 16 * l.within.level + 2

abbrev pub decreases-message_by : goal.decreases-message_by
decreases-message_by l = 16 * l.within.level + 3

abbrev pub decreases-item_of : goal.decreases-item_of
decreases-item_of l = 16 * l.within.level + 4

abbrev pub decreases-single_by : goal.decreases-single_by
decreases-single_by l = 16 * l.within.level + 5

abbrev pub decreases-map_by : goal.decreases-map_by
decreases-map_by l = 16 * l.within.level + 5

abbrev pub decreases-field_slot : goal.decreases-field_slot
decreases-field_slot l = 16 * l.within.level + 7

abbrev pub decreases-push_items : goal.decreases-push_items
decreases-push_items l = 16 * l.within.level + 4

abbrev pub decreases-list_of : goal.decreases-list_of
decreases-list_of l = 16 * l.within.level + 5

abbrev pub decreases-part_of : goal.decreases-part_of
decreases-part_of l = 16 * l.within.level + 5

abbrev pub decreases-entry_of : goal.decreases-entry_of
decreases-entry_of l = 16 * l.within.level + 0

abbrev pub decreases-pairs_of : goal.decreases-pairs_of
decreases-pairs_of l = 16 * l.within.level + 1

abbrev pub decreases-slot_by : goal.decreases-slot_by
decreases-slot_by l = 16 * l.within.level + 6

abbrev pub decreases-slot_at : goal.decreases-slot_at
decreases-slot_at l = 16 * l.within.level + 8

abbrev pub decreases-gathered : goal.decreases-gathered
decreases-gathered l = 16 * l.within.level + 9

abbrev pub decreases-message_of : goal.decreases-message_of
decreases-message_of l = 16 * l.within.level + 0
