-- The texts of the well-known types that JSON writes as strings: timestamps, durations and field masks (the ProtoJSON
-- guide; timestamp.proto, duration.proto, field_mask.proto, JSON Mapping). Texts stand here without their quotes.
use Rattle.std.specs.Prelude.{◌==◌, ◌&&◌, ℕ, ℤ, pos, Bool, not, nat_le, List, [], ◌∷◌, ◌++◌, Option, Some, None, option_and_then, Result, Ok, Err, if◌then◌else◌}
use Rattle.std.specs.Ordering.{int_eq}
use Rattle.mask_texts.specs.MaskItems.{item_paths, paths_as_items}
use Rattle.mask_texts.specs.MaskTexts.{mask_reading, mask_text}
use Rattle.message_types.specs.declared.messages.Known.{Known}
use Rattle.message_types.specs.declared.messages.Known.TheVariants.{Timestamp, Duration, FieldMask}
use Rattle.schema.specs.Layers.{SlotLayer, ItemLayer}
use Rattle.schema.specs.Value.{slot_at}
use Rattle.schema.specs.declared.value.Item.TheOpen.{Number, One, Many}
use Rattle.schema.specs.declared.value.Item.{out-Item, roll-Item, Item}
use Rattle.schema.specs.declared.value.Slot.{out-Slot, roll-Slot, Slot}
use Rattle.schema.specs.declared.value.Value.{Value}
use Rattle.time_texts.specs.DurationReading.{duration_reading}
use Rattle.time_texts.specs.DurationTexts.{duration_text}
use Rattle.time_texts.specs.PrintableTimes.{is_printable_duration, is_printable_timestamp}
use Rattle.time_texts.specs.TimestampReading.{timestamp_reading}
use Rattle.time_texts.specs.UtcTimes.{timestamp_text}
use Rattle.time_texts.specs.declared.fault.TimeFault.{TimeFault}
use Rattle.time_texts.specs.declared.fault.TimeFault.TheVariants as time_faults
use Rattle.time_texts.specs.declared.moment.Moment.{Moment}
use Rattle.known_types.specs.declared.fault.TextFault.{TextFault}
use Rattle.known_types.specs.declared.fault.TextFault.TheVariants.{BadText, OutOfRange}

-- a number as a slot
abbrev pub number_as_slot : ℤ → Slot
number_as_slot z = roll-Slot (One (roll-Item (Number z)))

-- the slot of a number with implicit presence: none where it is 0
abbrev pub number_slot : ℕ → ℤ → List (ℕ × Slot)
number_slot n z = if int_eq z (pos 0) then [] else (n, number_as_slot z) ∷ []

-- the message of a duration or of an instant: its seconds are field 1, its billionths field 2
abbrev pub moment_value : Moment → Value
moment_value m = record { fields = number_slot 1 m.seconds ++ number_slot 2 m.nanos }

-- the slot of the paths of a field mask: none where there is no path
abbrev pub paths_slot : List Item → List (ℕ × Slot)
paths_slot [] = []
paths_slot (i ∷ is) = (1, roll-Slot (Many (i ∷ is))) ∷ []

-- the message of a field mask: its paths are field 1
abbrev pub mask_value : List Item → Value
mask_value is = record { fields = paths_slot is }

-- the message of a time, or its fault
abbrev pub timed : Result Moment TimeFault → Result Value TextFault
timed (Ok m) = Ok (moment_value m)
timed (Err time_faults.BadText) = Err BadText
timed (Err time_faults.OutOfRange) = Err OutOfRange

-- the message of a mask's paths, or BadText
abbrev pub masked : Option (List (List ℕ)) → Result Value TextFault
masked (Some ps) = Ok (mask_value (paths_as_items ps))
masked None = Err BadText

-- what a text is read as: the message of its type, or its fault; no other type has texts of its own
abbrev pub known_value : Known → List ℕ → Result Value TextFault
known_value Timestamp text = timed (timestamp_reading text)
known_value Duration text = timed (duration_reading text)
known_value FieldMask text = masked (mask_reading text)
known_value _ text = Err BadText

-- the number of an item, which is one in a valid time
abbrev pub number_of_item : ItemLayer → ℤ
number_of_item (Number z) = z
number_of_item _ = pos 0

-- the number of an opened slot
abbrev pub number_in_slot : SlotLayer → ℤ
number_in_slot (One i) = number_of_item (out-Item i)
number_in_slot _ = pos 0

-- the number of a slot: 0 where the field is absent
abbrev pub number_of_slot : Option Slot → ℤ
number_of_slot None = pos 0
number_of_slot (Some s) = number_in_slot (out-Slot s)

-- the duration or the instant of a message
abbrev pub moment_of : Value → Moment
moment_of v = record { seconds = number_of_slot (slot_at v 1); nanos = number_of_slot (slot_at v 2) }

-- the items of an opened slot, where it has a list
abbrev pub items_in_slot : SlotLayer → Option (List Item)
items_in_slot (Many is) = Some is
items_in_slot _ = None

-- the items of a slot: no item where the field is absent
abbrev pub items_of_slot : Option Slot → Option (List Item)
items_of_slot None = Some []
items_of_slot (Some s) = items_in_slot (out-Slot s)

-- the paths of the message of a field mask, as items
abbrev pub mask_items : Value → Option (List Item)
mask_items v = items_of_slot (slot_at v 1)

-- the text of an instant, or none
abbrev pub instant_text : Moment → Option (List ℕ)
instant_text m = if is_printable_timestamp m then Some (timestamp_text m) else None

-- the text of a length of time, or none
abbrev pub length_text : Moment → Option (List ℕ)
length_text m = if is_printable_duration m then Some (duration_text m) else None

-- the text of paths, or none
abbrev pub paths_text : List Item → Option (List ℕ)
paths_text is = mask_text (item_paths is)

-- the text of a message of this type, or none; no other type has texts of its own
abbrev pub known_text : Known → Value → Option (List ℕ)
known_text Timestamp v = instant_text (moment_of v)
known_text Duration v = length_text (moment_of v)
known_text FieldMask v = option_and_then paths_text (mask_items v)
known_text _ v = None

-- a byte that stands in a JSON string as it is (RFC 8259, section 7): visible ASCII or a space, and neither quotation
-- mark nor backslash
abbrev pub is_plain_byte : ℕ → Bool
is_plain_byte b = (nat_le 32 b && nat_le b 126) && (not (b == 34) && not (b == 92))
