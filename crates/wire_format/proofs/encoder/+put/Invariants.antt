use Rattle.std.proofs.Common.{◌≡◌, ◌+◌, ◌*◌, ◌++◌, drop}
use Rattle.std.specs.List.{AllByRecursion}
use Rattle.schema.specs.Validity.{IsItem, AreFieldSlots, valid_within}
use Rattle.schema.specs.declared.value.Item.{out-Item}
use Rattle.wire_format.specs.CanonicalBytes.{canonical_within, items_bytes, records_bytes, entries_bytes, slots_bytes}
use Rattle.base.specs.Extends.{Extends}
use Rattle.wire_format.proofs.encoder.+put.Given as goal

abbrev pub invariant-put_items-loop-item : goal.invariant-put_items-loop-item
invariant-put_items-loop-item l = record {
  rest : AllByRecursion (λ i. IsItem (valid_within l.within.level l.within.types.now) l.kind (out-Item i)) (drop l.item-index l.items);
  grown : Extends l.initial.out.items l.out.items;
  told : l.out.items ++ items_bytes (canonical_within l.within.level l.within.types.now) l.kind (drop l.item-index l.items) ≡ l.initial.out.items ++ items_bytes (canonical_within l.within.level l.within.types.now) l.kind l.items;
}

abbrev pub invariant-put_records-loop-item : goal.invariant-put_records-loop-item
invariant-put_records-loop-item l = record {
  rest : AllByRecursion (λ i. IsItem (valid_within l.within.level l.within.types.now) l.kind (out-Item i)) (drop l.item-index l.items);
  grown : Extends l.initial.out.items l.out.items;
  told : l.out.items ++ records_bytes (canonical_within l.within.level l.within.types.now) l.number l.kind (drop l.item-index l.items) ≡ l.initial.out.items ++ records_bytes (canonical_within l.within.level l.within.types.now) l.number l.kind l.items;
}

abbrev pub invariant-put_entries-loop-key : goal.invariant-put_entries-loop-key
invariant-put_entries-loop-key l = record {
  rest : AllByRecursion ((valid_within l.within.level l.within.types.now).entry l.scalar l.kind) (drop l.key-index l.entries);
  grown : Extends l.initial.out.items l.out.items;
  told : l.out.items ++ entries_bytes (canonical_within l.within.level l.within.types.now) l.number l.scalar l.kind (drop l.key-index l.entries) ≡ l.initial.out.items ++ entries_bytes (canonical_within l.within.level l.within.types.now) l.number l.scalar l.kind l.entries;
}

abbrev pub invariant-put_slots-loop-number : goal.invariant-put_slots-loop-number
invariant-put_slots-loop-number l = record {
  rest : AreFieldSlots (valid_within l.within.level l.within.types.now) l.fields (drop l.number-index l.slots);
  grown : Extends l.initial.out.items l.out.items;
  told : l.out.items ++ slots_bytes (canonical_within l.within.level l.within.types.now) l.fields (drop l.number-index l.slots) ≡ l.initial.out.items ++ slots_bytes (canonical_within l.within.level l.within.types.now) l.fields l.slots;
}

abbrev pub decreases-put_inner : goal.decreases-put_inner
decreases-put_inner l = 10 * l.within.level + 1

abbrev pub decreases-put_item : goal.decreases-put_item
decreases-put_item l = 10 * l.within.level + 2

abbrev pub decreases-put_record : goal.decreases-put_record
decreases-put_record l = 10 * l.within.level + 3

abbrev pub decreases-put_items : goal.decreases-put_items
decreases-put_items l = 10 * l.within.level + 4

abbrev pub decreases-put_records : goal.decreases-put_records
decreases-put_records l = 10 * l.within.level + 4

abbrev pub decreases-put_pair : goal.decreases-put_pair
decreases-put_pair l = 10 * l.within.level + 4

abbrev pub decreases-put_entry : goal.decreases-put_entry
decreases-put_entry l = 10 * l.within.level + 5

abbrev pub decreases-put_entries : goal.decreases-put_entries
decreases-put_entries l = 10 * l.within.level + 6

abbrev pub decreases-put_list : goal.decreases-put_list
decreases-put_list l = 10 * l.within.level + 6

abbrev pub decreases-put_slot : goal.decreases-put_slot
decreases-put_slot l = 10 * l.within.level + 7

abbrev pub decreases-put_field : goal.decreases-put_field
decreases-put_field l = 10 * l.within.level + 8

abbrev pub decreases-put_slots : goal.decreases-put_slots
decreases-put_slots l = 10 * l.within.level + 9

abbrev pub decreases-put_message : goal.decreases-put_message
decreases-put_message l = 10 * l.within.level + 0
