use Rattle.std.proofs.Common.{◌≡◌, ◌+◌, ◌*◌, ℕ, drop}
use Rattle.std.specs.List.{flat_map}
use Rattle.known_types.specs.KnownTexts.{known_text}
use Rattle.message_types.specs.Types.{field_in}
use Rattle.message_types.specs.declared.fields.Kind.TheVariants.{Message as MessageOf}
use Rattle.schema.specs.declared.key.Key.{Key}
use Rattle.schema.specs.declared.value.Item.{out-Item, Item}
use Rattle.schema.specs.declared.value.Slot.{Slot}
use Rattle.protojson_write.specs.KnownParts.{field_parts, have_texts, item_parts, parts_within}
use Rattle.protojson_write.proofs.printable.+walk.Given as goal

abbrev pub invariant-are_items_printable-loop-item : goal.invariant-are_items_printable-loop-item
invariant-are_items_printable-loop-item l =
    have_texts known_text (flat_map (λ i. item_parts (parts_within l.levels l.types) (MessageOf l.id) (out-Item i)) (drop l.item-index l.items))
    ≡ have_texts known_text (flat_map (λ i. item_parts (parts_within l.levels l.types) (MessageOf l.id) (out-Item i)) l.items)

abbrev pub invariant-are_entries_printable-loop-item : goal.invariant-are_entries_printable-loop-item
invariant-are_entries_printable-loop-item l =
    have_texts known_text (flat_map (λ (e : Key × Item). item_parts (parts_within l.levels l.types) (MessageOf l.id) (out-Item e.1)) (drop l.item-index l.entries))
    ≡ have_texts known_text (flat_map (λ (e : Key × Item). item_parts (parts_within l.levels l.types) (MessageOf l.id) (out-Item e.1)) l.entries)

abbrev pub invariant-are_slots_printable-loop-number : goal.invariant-are_slots_printable-loop-number
invariant-are_slots_printable-loop-number l =
    have_texts known_text (flat_map (λ (e : ℕ × Slot). field_parts (parts_within l.levels l.types) (field_in l.fields e.0) e.1) (drop l.number-index l.slots))
    ≡ have_texts known_text (flat_map (λ (e : ℕ × Slot). field_parts (parts_within l.levels l.types) (field_in l.fields e.0) e.1) l.slots)

abbrev pub decreases-is_message_printable : goal.decreases-is_message_printable
decreases-is_message_printable l = 20 * l.levels + 0

abbrev pub decreases-is_item_printable : goal.decreases-is_item_printable
decreases-is_item_printable l = 20 * l.levels + 1

abbrev pub decreases-are_items_printable : goal.decreases-are_items_printable
decreases-are_items_printable l = 20 * l.levels + 2

abbrev pub decreases-are_entries_printable : goal.decreases-are_entries_printable
decreases-are_entries_printable l = 20 * l.levels + 3

abbrev pub decreases-is_slot_printable : goal.decreases-is_slot_printable
decreases-is_slot_printable l = 20 * l.levels + 4

abbrev pub decreases-is_field_printable : goal.decreases-is_field_printable
decreases-is_field_printable l = 20 * l.levels + 5

abbrev pub decreases-are_slots_printable : goal.decreases-are_slots_printable
decreases-are_slots_printable l = 20 * l.levels + 6
