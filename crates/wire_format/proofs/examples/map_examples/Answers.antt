use Rattle.std.proofs.Common.{◌≡◌, ◌∷◌, [], ◌∙◌, refl, Ok, Result, pos, codes}
use Rattle.std.specs.Str.{is_utf8, chars}
use lib.Utf8.{encode}
use Rattle.schema.specs.declared.key.Key.TheVariants.{Text as TextKey}
use Rattle.schema.specs.declared.value.Item.TheOpen as opened
use Rattle.schema.specs.declared.value.Item.TheVariants.{rolls-Number}
use Rattle.schema.specs.declared.value.Item.{roll-Item}
use Rattle.schema.specs.declared.value.Slot.TheVariants.{rolls-Pairs}
use Rattle.schema.specs.declared.value.Slot.{roll-Slot}
use Rattle.schema.specs.declared.value.Value.{Value}
use Rattle.wire_format.specs.Decoding.{decoding}
use Rattle.wire_format.specs.FieldValues.{meaning_within}
use Rattle.wire_records.specs.Varint.{number_in}
use Rattle.wire_format.specs.WireFaults.{Fault, first_fault}
use Rattle.wire_format.specs.WorkedExamples.{book_types, book, stocked}
use Rattle.wire_records.specs.WireRecord.{tag_in, payload_in, record_with, group_in, record_in}
use Rattle.wire_format.proofs.examples.map_examples.Goals as goal

-- the map as it is read, level by level
rolled_stock : Value
rolled_stock = record { fields = (9, roll-Slot (opened.Pairs (record { entries = (TextKey (codes "a"), roll-Item (opened.Number (pos 2))) ∷ (TextKey (codes "b"), roll-Item (opened.Number (pos 0))) ∷ [] }))) ∷ [] }

stock_rolled : ◌≡◌ {A = Result Value Fault} (Ok rolled_stock) (Ok stocked)
unfolding rolled_stock
stock_rolled = simp (rolls-Number, rolls-Pairs) refl

reads_stock : decoding book_types book (0x4a ∷ 0x03 ∷ 0x0a ∷ 0x01 ∷ 0x62 ∷ 0x4a ∷ 0x05 ∷ 0x0a ∷ 0x01 ∷ 0x61 ∷ 0x10 ∷ 0x01 ∷ 0x4a ∷ 0x05 ∷ 0x0a ∷ 0x01 ∷ 0x61 ∷ 0x10 ∷ 0x02 ∷ []) ≡ Ok rolled_stock
unfolding rolled_stock decoding first_fault meaning_within record_in group_in record_with payload_in tag_in number_in is_utf8 chars encode
reads_stock = refl

pub returns : goal.returns
returns c = record { last_entries = reads_stock ∙ stock_rolled }
