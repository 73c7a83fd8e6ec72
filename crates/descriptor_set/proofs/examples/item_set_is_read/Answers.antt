use Rattle.std.proofs.Common.{◌≡◌, ◌∷◌, [], ◌∙◌, ap, refl, ℕ, pos, List, Ok, Result, codes}
use Rattle.std.specs.Str.{is_utf8, chars}
use lib.Utf8.{encode}
use Rattle.descriptor_set.specs.DescriptorFields.{message_info, rule_info}
use Rattle.descriptor_set.specs.DescriptorTypes.{descriptor_types, type_of}
use Rattle.descriptor_set.specs.ItemSet.{item_bytes, item_set}
use Rattle.descriptor_set.specs.SetReading.{set_of, set_reading}
use Rattle.descriptor_set.specs.declared.described.Described.TheVariants.{Set}
use Rattle.descriptor_set.specs.declared.fault.SetFault.{SetFault}
use Rattle.descriptors.specs.declared.file_set.FileSet.{FileSet}
use Rattle.schema.specs.declared.value.Item.TheOpen as opened
use Rattle.schema.specs.declared.value.Item.TheVariants.{outs-Text, outs-Message, outs-Number, rolls-Text, rolls-Message, rolls-Number}
use Rattle.schema.specs.declared.value.Item.{Item, roll-Item}
use Rattle.schema.specs.declared.value.Slot.TheVariants.{outs-One, outs-Many, rolls-One, rolls-Many}
use Rattle.schema.specs.declared.value.Slot.{Slot, roll-Slot}
use Rattle.schema.specs.declared.value.Value.{Value}
use Rattle.wire_format.specs.Decoding.{decoding}
use Rattle.wire_format.specs.FieldValues.{meaning_within}
use Rattle.wire_records.specs.Varint.{number_in}
use Rattle.wire_format.specs.WireFaults.{first_fault}
use Rattle.wire_records.specs.WireRecord.{tag_in, payload_in, record_with, group_in, record_in}
use Rattle.descriptor_set.proofs.examples.item_set_is_read.Goals as goal

-- slots as they are decoded
abbrev text_slot : List ℕ → Slot
text_slot t = roll-Slot (opened.One (roll-Item (opened.Text t)))

abbrev number_slot : ℕ → Slot
number_slot n = roll-Slot (opened.One (roll-Item (opened.Number (pos n))))

abbrev message_item : List (ℕ × Slot) → Item
message_item fields = roll-Item (opened.Message (record { fields = fields }))

abbrev message_slot : List (ℕ × Slot) → Slot
message_slot fields = roll-Slot (opened.One (message_item fields))

abbrev messages_slot : List (ℕ × Slot) → Slot
messages_slot fields = roll-Slot (opened.Many (message_item fields ∷ []))

-- the message, the service and the file
abbrev message_fields : List (ℕ × Slot)
message_fields =
    (1, text_slot (codes "M"))
    ∷ (
      2,
      messages_slot ((1, text_slot (codes "id")) ∷ (3, number_slot 1) ∷ (4, number_slot 1) ∷ (5, number_slot 9)
          ∷ (10, text_slot (codes "id")) ∷ []),
    )
    ∷ []

abbrev options : Slot
options = message_slot ((72295728, message_slot ((2, text_slot (codes "/v1/items/{id}")) ∷ [])) ∷ [])

abbrev service_fields : List (ℕ × Slot)
service_fields =
    (1, text_slot (codes "S"))
    ∷ (
      2,
      messages_slot ((1, text_slot (codes "Get")) ∷ (2, text_slot (codes ".p.M")) ∷ (3, text_slot (codes ".p.M"))
          ∷ (4, options) ∷ []),
    )
    ∷ []

abbrev item_value : Value
item_value = record {
  fields = (
    1,
    messages_slot (
        (1, text_slot (codes "a.proto")) ∷ (2, text_slot (codes "p")) ∷ (4, messages_slot message_fields)
        ∷ (6, messages_slot service_fields) ∷ (12, text_slot (codes "proto3")) ∷ []
        ),
  ) ∷ [];
}

-- what the bytes are decoded to
decodes_item : decoding descriptor_types (type_of Set) item_bytes ≡ Ok item_value
unfolding decoding first_fault meaning_within record_in group_in record_with payload_in tag_in number_in is_utf8 chars
    encode
decodes_item = refl

-- what that declares
declares_item : ◌≡◌ {A = Result FileSet SetFault} (set_of (Ok item_value)) (Ok item_set)
unfolding message_info rule_info
declares_item = simp (
  rolls-Text,
  rolls-Number,
  rolls-Message,
  rolls-One,
  rolls-Many,
  outs-Many,
  outs-Message,
  outs-One,
  outs-Text,
  outs-Number,
) refl

pub returns : goal.returns
unfolding set_reading
returns c = ap set_of decodes_item ∙ declares_item
