use Rattle.std.proofs.Common.{◌≡◌, ◌∷◌, [], ◌∙◌, refl, Ok, Result, pos}
use Rattle.std.specs.Str.{is_utf8, chars}
use lib.Utf8.{encode}
use Rattle.schema.specs.declared.value.Item.TheOpen as opened
use Rattle.schema.specs.declared.value.Item.TheVariants.{rolls-Text, rolls-Message, rolls-Number}
use Rattle.schema.specs.declared.value.Item.{roll-Item, Message}
use Rattle.schema.specs.declared.value.Slot.TheVariants.{rolls-One, rolls-Many}
use Rattle.schema.specs.declared.value.Slot.{roll-Slot, One}
use Rattle.schema.specs.declared.value.Value.{Value}
use Rattle.wire_format.specs.Decoding.{decoding}
use Rattle.wire_format.specs.FieldValues.{meaning_within}
use Rattle.wire_records.specs.Varint.{number_in}
use Rattle.wire_format.specs.WireFaults.{Fault, first_fault}
use Rattle.wire_format.specs.WorkedExamples.{book_types, book, marked}
use Rattle.wire_records.specs.WireRecord.{tag_in, payload_in, record_with, group_in, record_in}
use Rattle.wire_format.proofs.examples.decoding_examples.Goals as goal

-- values as they are read, level by level
rolled_marks : Value
rolled_marks = record { fields = (4, roll-Slot (opened.Many (roll-Item (opened.Number (pos 1)) ∷ roll-Item (opened.Number (pos 2)) ∷ roll-Item (opened.Number (pos 300)) ∷ []))) ∷ [] }

rolled_owner : Value
rolled_owner = record { fields = (11, roll-Slot (opened.One (roll-Item (opened.Message (record { fields = [] }))))) ∷ [] }

marks_rolled : ◌≡◌ {A = Result Value Fault} (Ok rolled_marks) (Ok marked)
unfolding rolled_marks
marks_rolled = simp (rolls-Number, rolls-Many) refl

owner_rolled : ◌≡◌ {A = Result Value Fault} (Ok rolled_owner) (Ok (record { fields = (11, One (Message (record { fields = [] }))) ∷ [] }))
unfolding rolled_owner
owner_rolled = simp (rolls-Message, rolls-One) refl

reads_marks : decoding book_types book (0x22 ∷ 0x02 ∷ 0x01 ∷ 0x02 ∷ 0x20 ∷ 0xac ∷ 0x02 ∷ []) ≡ Ok rolled_marks
unfolding rolled_marks decoding first_fault meaning_within record_in group_in record_with payload_in tag_in number_in is_utf8 chars encode
reads_marks = refl

reads_owner : decoding book_types book (0x52 ∷ 0x01 ∷ 0x78 ∷ 0x5a ∷ 0x00 ∷ []) ≡ Ok rolled_owner
unfolding rolled_owner decoding first_fault meaning_within record_in group_in record_with payload_in tag_in number_in is_utf8 chars encode
reads_owner = refl

pub returns : goal.returns
unfolding decoding first_fault meaning_within record_in group_in record_with payload_in tag_in number_in is_utf8 chars encode
returns c = record {
  merged_message = simp (rolls-Text, rolls-One, rolls-Message) refl;
  packed_and_not = reads_marks ∙ marks_rolled;
  last_of_oneof = reads_owner ∙ owner_rolled;
  first_of_oneof = simp (rolls-Text, rolls-One) refl;
  zigzag = simp (rolls-Number, rolls-One) refl;
  long_varint = refl;
  open_group = refl;
  end_of_outer_group = refl;
  short = refl;
  short_element = refl;
  not_utf8 = refl;
}
