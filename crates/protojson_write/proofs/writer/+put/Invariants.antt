use Rattle.std.proofs.Common.{◌≡◌, ◌+◌, ◌*◌, ◌++◌, ℕ, drop}
use Rattle.base.specs.Extends.{Extends}
use Rattle.known_types.specs.KnownTexts.{known_text}
use Rattle.message_types.specs.Types.{field_in}
use Rattle.schema.specs.declared.value.Item.{out-Item}
use Rattle.schema.specs.declared.value.Slot.{Slot}
use Rattle.protojson_write.specs.JsonOutput.{entry_text, followers, item_text, member_text, text_within}
use Rattle.protojson_write.proofs.writer.+put.Given as goal

abbrev pub invariant-put_other_items-loop-item : goal.invariant-put_other_items-loop-item
invariant-put_other_items-loop-item l = record {
  grown : Extends l.initial.out.items l.out.items;
  told : l.out.items ++ followers (λ i. item_text (text_within known_text l.within.level l.within.types.now) l.within.types.now l.kind (out-Item i)) (drop l.item-index l.items) ≡ l.initial.out.items ++ followers (λ i. item_text (text_within known_text l.within.level l.within.types.now) l.within.types.now l.kind (out-Item i)) l.items;
}

abbrev pub invariant-put_other_entries-loop-key : goal.invariant-put_other_entries-loop-key
invariant-put_other_entries-loop-key l = record {
  grown : Extends l.initial.out.items l.out.items;
  told : l.out.items ++ followers (entry_text (text_within known_text l.within.level l.within.types.now) l.within.types.now l.kind) (drop l.key-index l.entries) ≡ l.initial.out.items ++ followers (entry_text (text_within known_text l.within.level l.within.types.now) l.within.types.now l.kind) l.entries;
}

abbrev pub invariant-put_other_members-loop-number : goal.invariant-put_other_members-loop-number
invariant-put_other_members-loop-number l = record {
  grown : Extends l.initial.out.items l.out.items;
  told : l.out.items ++ followers (λ (e : ℕ × Slot). member_text (text_within known_text l.within.level l.within.types.now) l.within.types.now (field_in l.fields e.0) e.1) (drop l.number-index l.slots) ≡ l.initial.out.items ++ followers (λ (e : ℕ × Slot). member_text (text_within known_text l.within.level l.within.types.now) l.within.types.now (field_in l.fields e.0) e.1) l.slots;
}

abbrev pub decreases-put_message : goal.decreases-put_message
decreases-put_message l = 20 * l.within.level + 0

abbrev pub decreases-put_item : goal.decreases-put_item
decreases-put_item l = 20 * l.within.level + 1

abbrev pub decreases-put_other_items : goal.decreases-put_other_items
decreases-put_other_items l = 20 * l.within.level + 2

abbrev pub decreases-put_items : goal.decreases-put_items
decreases-put_items l = 20 * l.within.level + 3

abbrev pub decreases-put_array : goal.decreases-put_array
decreases-put_array l = 20 * l.within.level + 4

abbrev pub decreases-put_entry : goal.decreases-put_entry
decreases-put_entry l = 20 * l.within.level + 2

abbrev pub decreases-put_other_entries : goal.decreases-put_other_entries
decreases-put_other_entries l = 20 * l.within.level + 3

abbrev pub decreases-put_entries : goal.decreases-put_entries
decreases-put_entries l = 20 * l.within.level + 4

abbrev pub decreases-put_map : goal.decreases-put_map
decreases-put_map l = 20 * l.within.level + 5

abbrev pub decreases-put_slot : goal.decreases-put_slot
decreases-put_slot l = 20 * l.within.level + 6

abbrev pub decreases-put_member : goal.decreases-put_member
decreases-put_member l = 20 * l.within.level + 7

abbrev pub decreases-put_other_members : goal.decreases-put_other_members
decreases-put_other_members l = 20 * l.within.level + 8

abbrev pub decreases-put_members : goal.decreases-put_members
decreases-put_members l = 20 * l.within.level + 9

abbrev pub decreases-put_object : goal.decreases-put_object
decreases-put_object l = 20 * l.within.level + 10

abbrev pub decreases-put_part : goal.decreases-put_part
decreases-put_part l = 20 * l.within.level + 10
