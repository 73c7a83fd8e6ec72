use Rattle.std.proofs.Common.{◌≡◌, ◌∷◌, [], ◌∙◌, ap, refl, ℕ, List, Ok, Result, true, codes}
use Rattle.std.specs.Str.{is_utf8, chars}
use lib.Utf8.{encode}
use Rattle.descriptor_set.specs.DescriptorFields.{message_info}
use Rattle.descriptor_set.specs.DescriptorTypes.{descriptor_types, type_of}
use Rattle.descriptor_set.specs.SetExamples.{empty_file, set_entry}
use Rattle.descriptor_set.specs.SetReading.{set_of, set_reading}
use Rattle.descriptor_set.specs.declared.described.Described.TheVariants.{Set}
use Rattle.descriptor_set.specs.declared.fault.SetFault.{SetFault}
use Rattle.descriptors.specs.declared.file_set.FileSet.{FileSet}
use Rattle.schema.specs.declared.value.Item.TheOpen as opened
use Rattle.schema.specs.declared.value.Item.TheVariants.{outs-Text, outs-Message, outs-Truth, rolls-Text, rolls-Message, rolls-Truth}
use Rattle.schema.specs.declared.value.Item.{Item, roll-Item}
use Rattle.schema.specs.declared.value.Slot.TheVariants.{outs-One, outs-Many, rolls-One, rolls-Many}
use Rattle.schema.specs.declared.value.Slot.{Slot, roll-Slot}
use Rattle.schema.specs.declared.value.Value.{Value}
use Rattle.wire_format.specs.Decoding.{decoding}
use Rattle.wire_format.specs.FieldValues.{meaning_within}
use Rattle.wire_records.specs.Varint.{number_in}
use Rattle.wire_format.specs.WireFaults.{first_fault}
use Rattle.wire_records.specs.WireRecord.{tag_in, payload_in, record_with, group_in, record_in}
use Rattle.descriptor_set.proofs.examples.set_examples.Goals as goal

-- slots as they are decoded
abbrev text_slot : List ℕ → Slot
text_slot t = roll-Slot (opened.One (roll-Item (opened.Text t)))

abbrev message_item : List (ℕ × Slot) → Item
message_item fields = roll-Item (opened.Message (record { fields = fields }))

abbrev messages_slot : List (ℕ × Slot) → Slot
messages_slot fields = roll-Slot (opened.Many (message_item fields ∷ []))

-- a set of one file with these fields
abbrev file_value : List (ℕ × Slot) → Value
file_value fields = record { fields = (1, messages_slot fields) ∷ [] }

-- the fields of each example's file
abbrev named : List (ℕ × Slot)
named = (1, text_slot (codes "a.proto")) ∷ (2, text_slot (codes "p")) ∷ []

abbrev packaged : List (ℕ × Slot)
packaged = (2, text_slot (codes "p")) ∷ []

abbrev truth_slot : Slot
truth_slot = roll-Slot (opened.One (roll-Item (opened.Truth true)))

abbrev optioned : List (ℕ × Slot)
optioned = (4, messages_slot ((7, roll-Slot (opened.One (message_item ((1, truth_slot) ∷ (7, truth_slot) ∷ [])))) ∷ [])) ∷ []

-- what they are decoded to
decodes_named : decoding descriptor_types (type_of Set) (0x0a ∷ 0x0c ∷ 0x0a ∷ 0x07 ∷ 0x61 ∷ 0x2e ∷ 0x70 ∷ 0x72 ∷ 0x6f ∷ 0x74 ∷ 0x6f ∷ 0x12 ∷ 0x01 ∷ 0x70 ∷ []) ≡ Ok (file_value named)
unfolding decoding first_fault meaning_within record_in group_in record_with payload_in tag_in number_in is_utf8 chars encode
decodes_named = refl

decodes_packaged : decoding descriptor_types (type_of Set) (0x0a ∷ 0x06 ∷ 0x12 ∷ 0x01 ∷ 0x71 ∷ 0x12 ∷ 0x01 ∷ 0x70 ∷ []) ≡ Ok (file_value packaged)
unfolding decoding first_fault meaning_within record_in group_in record_with payload_in tag_in number_in is_utf8 chars encode
decodes_packaged = refl

decodes_optioned : decoding descriptor_types (type_of Set) (0x0a ∷ 0x0a ∷ 0x22 ∷ 0x08 ∷ 0x3a ∷ 0x02 ∷ 0x08 ∷ 0x01 ∷ 0x3a ∷ 0x02 ∷ 0x38 ∷ 0x01 ∷ []) ≡ Ok (file_value optioned)
unfolding decoding first_fault meaning_within record_in group_in record_with payload_in tag_in number_in is_utf8 chars encode
decodes_optioned = refl

decodes_empty : decoding descriptor_types (type_of Set) (0x0a ∷ 0x03 ∷ 0x1a ∷ 0x01 ∷ 0xff ∷ []) ≡ Ok (file_value [])
unfolding decoding first_fault meaning_within record_in group_in record_with payload_in tag_in number_in is_utf8 chars encode
decodes_empty = refl

-- what that declares
declares_named : ◌≡◌ {A = Result FileSet SetFault} (set_of (Ok (file_value named))) (Ok (record { files = record empty_file { name = codes "a.proto"; «package» = codes "p" } ∷ [] }))
declares_named = simp (rolls-Text, rolls-Message, rolls-One, rolls-Many, outs-Many, outs-Message, outs-One, outs-Text) refl

declares_packaged : ◌≡◌ {A = Result FileSet SetFault} (set_of (Ok (file_value packaged))) (Ok (record { files = record empty_file { «package» = codes "p" } ∷ [] }))
declares_packaged = simp (rolls-Text, rolls-Message, rolls-One, rolls-Many, outs-Many, outs-Message, outs-One, outs-Text) refl

declares_optioned : ◌≡◌ {A = Result FileSet SetFault} (set_of (Ok (file_value optioned))) (Ok (record { files = record empty_file { message_type = set_entry ∷ [] } ∷ [] }))
unfolding message_info
declares_optioned = simp (rolls-Truth, rolls-Message, rolls-One, rolls-Many, outs-Many, outs-Message, outs-One, outs-Truth) refl

declares_empty : ◌≡◌ {A = Result FileSet SetFault} (set_of (Ok (file_value []))) (Ok (record { files = empty_file ∷ [] }))
declares_empty = simp (rolls-Message, rolls-Many, outs-Many, outs-Message) refl

pub returns : goal.returns
unfolding set_reading decoding first_fault record_in group_in record_with payload_in tag_in number_in is_utf8 chars encode
returns c = record {
  file = ap set_of decodes_named ∙ declares_named;
  last_package = ap set_of decodes_packaged ∙ declares_packaged;
  merged_options = ap set_of decodes_optioned ∙ declares_optioned;
  unlisted = ap set_of decodes_empty ∙ declares_empty;
  not_utf8 = refl;
  cut = refl;
  first_of_two = refl;
}
