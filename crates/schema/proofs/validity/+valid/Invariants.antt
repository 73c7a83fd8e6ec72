use Rattle.std.proofs.Common.{◌↔◌, drop}
use Rattle.std.specs.List.{AllByRecursion}
use Rattle.schema.specs.Validity.{IsItem, AreFieldSlots, valid_within}
use Rattle.schema.specs.declared.value.Item.{out-Item}
use Rattle.schema.proofs.validity.+valid.Given as goal

abbrev pub invariant-are_items-loop-item : goal.invariant-are_items-loop-item
invariant-are_items-loop-item l =
    AllByRecursion (λ i. IsItem (valid_within l.level l.types) l.kind (out-Item i)) (drop l.item-index l.items)
    ↔ AllByRecursion (λ i. IsItem (valid_within l.level l.types) l.kind (out-Item i)) l.items

abbrev pub invariant-are_entries-loop-key : goal.invariant-are_entries-loop-key
invariant-are_entries-loop-key l =
    AllByRecursion ((valid_within l.level l.types).entry l.scalar l.kind) (drop l.key-index l.entries)
    ↔ AllByRecursion ((valid_within l.level l.types).entry l.scalar l.kind) l.entries

abbrev pub invariant-are_slots-loop-number : goal.invariant-are_slots-loop-number
invariant-are_slots-loop-number l =
    AreFieldSlots (valid_within l.level l.types) l.fields (drop l.number-index l.slots)
    ↔ AreFieldSlots (valid_within l.level l.types) l.fields l.slots
