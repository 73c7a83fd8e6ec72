-- The worked examples of values that are shown and read again, computed.
use Rattle.std.proofs.Common.{refl}
use Rattle.std.specs.Fmt.{digits}
use Rattle.json_meanings.specs.MeaningExamples.{BytesMeaningsHold}
use Rattle.known_types.specs.BytesExamples.{BytesExamplesHold}
use Rattle.schema.specs.declared.value.Item.{out-roll-Item}
use Rattle.schema.specs.declared.value.Slot.{out-roll-Slot}
use Rattle.protojson_write.specs.JsonOutput.{json_text, text_within}
use Rattle.protojson_write.specs.KnownParts.{parts_within}
use Rattle.protojson_write.specs.ShownExamples.{ShownFieldsHold, ShownMessagesHold}

-- messages
pub shown_messages_hold : ShownMessagesHold
unfolding json_text text_within parts_within digits
shown_messages_hold = record {
  nothing = record { shown = refl; read = refl };
  by_number = record { shown = simp (out-roll-Slot, out-roll-Item) refl; read = refl };
  text_keys = record { shown = simp (out-roll-Slot, out-roll-Item) refl; read = refl };
  number_and_truth_keys = record { shown = simp (out-roll-Slot, out-roll-Item) refl; read = refl };
  nested = record { shown = simp (out-roll-Slot, out-roll-Item) refl; read = refl };
}

-- single fields
pub shown_fields_hold : BytesExamplesHold → BytesMeaningsHold → ShownFieldsHold
unfolding json_text text_within parts_within digits
shown_fields_hold known meanings = record {
  int64 = record { shown = simp (out-roll-Slot, out-roll-Item) refl; read = refl };
  no_name = record { shown = simp (out-roll-Slot, out-roll-Item) refl; read = refl };
  name_like_a_number = record { shown = simp (out-roll-Slot, out-roll-Item) refl; read = refl };
  bytes = record { shown = simp (out-roll-Slot, out-roll-Item, known.two) refl; read = meanings.padded };
  beside = record { shown = simp (out-roll-Slot, out-roll-Item) refl; read = refl };
  absent_number = record { shown = refl; read = refl };
  absent_message = record { shown = refl; read = refl };
  absent_list = record { shown = refl; read = refl };
  absent_map = record { shown = refl; read = refl };
}
