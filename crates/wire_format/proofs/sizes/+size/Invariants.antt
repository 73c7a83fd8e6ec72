use Rattle.std.proofs.Common.{◌≡◌, ◌+◌, ◌*◌, ◌^◌, ◌<◌, drop, length}
use Rattle.std.specs.List.{AllByRecursion}
use Rattle.schema.specs.Validity.{IsItem, AreFieldSlots, valid_within}
use Rattle.schema.specs.declared.value.Item.{out-Item}
use Rattle.wire_format.specs.CanonicalBytes.{canonical_within, items_bytes, records_bytes, entries_bytes, slots_bytes}
use Rattle.base.specs.Saturated.{saturated}
use Rattle.wire_format.specs.Sizes.{size_of}
use Rattle.wire_format.proofs.sizes.+size.Given as goal

abbrev pub invariant-items_len-loop-item : goal.invariant-items_len-loop-item
invariant-items_len-loop-item l = record {
  rest : AllByRecursion (λ i. IsItem (valid_within l.within.level l.within.types.now) l.kind (out-Item i)) (drop l.item-index l.items);
  small : l.total < 2 ^ 64;
  told : saturated (l.total + length (items_bytes (canonical_within l.within.level l.within.types.now) l.kind (drop l.item-index l.items))) ≡ size_of (items_bytes (canonical_within l.within.level l.within.types.now) l.kind l.items);
}

abbrev pub invariant-records_len-loop-item : goal.invariant-records_len-loop-item
invariant-records_len-loop-item l = record {
  rest : AllByRecursion (λ i. IsItem (valid_within l.within.level l.within.types.now) l.kind (out-Item i)) (drop l.item-index l.items);
  small : l.total < 2 ^ 64;
  told : saturated (l.total + length (records_bytes (canonical_within l.within.level l.within.types.now) l.number l.kind (drop l.item-index l.items))) ≡ size_of (records_bytes (canonical_within l.within.level l.within.types.now) l.number l.kind l.items);
}

abbrev pub invariant-entries_len-loop-key : goal.invariant-entries_len-loop-key
invariant-entries_len-loop-key l = record {
  rest : AllByRecursion ((valid_within l.within.level l.within.types.now).entry l.scalar l.kind) (drop l.key-index l.entries);
  small : l.total < 2 ^ 64;
  told : saturated (l.total + length (entries_bytes (canonical_within l.within.level l.within.types.now) l.number l.scalar l.kind (drop l.key-index l.entries))) ≡ size_of (entries_bytes (canonical_within l.within.level l.within.types.now) l.number l.scalar l.kind l.entries);
}

abbrev pub invariant-slots_len-loop-number : goal.invariant-slots_len-loop-number
invariant-slots_len-loop-number l = record {
  rest : AreFieldSlots (valid_within l.within.level l.within.types.now) l.fields (drop l.number-index l.slots);
  small : l.total < 2 ^ 64;
  told : saturated (l.total + length (slots_bytes (canonical_within l.within.level l.within.types.now) l.fields (drop l.number-index l.slots))) ≡ size_of (slots_bytes (canonical_within l.within.level l.within.types.now) l.fields l.slots);
}

abbrev pub decreases-item_len : goal.decreases-item_len
decreases-item_len l = 9 * l.within.level + 1

abbrev pub decreases-record_len : goal.decreases-record_len
decreases-record_len l = 9 * l.within.level + 2

abbrev pub decreases-items_len : goal.decreases-items_len
decreases-items_len l = 9 * l.within.level + 3

abbrev pub decreases-records_len : goal.decreases-records_len
decreases-records_len l = 9 * l.within.level + 3

abbrev pub decreases-entry_len : goal.decreases-entry_len
decreases-entry_len l = 9 * l.within.level + 3

abbrev pub decreases-entry_record_len : goal.decreases-entry_record_len
decreases-entry_record_len l = 9 * l.within.level + 4

abbrev pub decreases-entries_len : goal.decreases-entries_len
decreases-entries_len l = 9 * l.within.level + 5

abbrev pub decreases-list_len : goal.decreases-list_len
decreases-list_len l = 9 * l.within.level + 5

abbrev pub decreases-slot_len : goal.decreases-slot_len
decreases-slot_len l = 9 * l.within.level + 6

abbrev pub decreases-field_len : goal.decreases-field_len
decreases-field_len l = 9 * l.within.level + 7

abbrev pub decreases-slots_len : goal.decreases-slots_len
decreases-slots_len l = 9 * l.within.level + 8

abbrev pub decreases-message_len : goal.decreases-message_len
decreases-message_len l = 9 * l.within.level + 0
