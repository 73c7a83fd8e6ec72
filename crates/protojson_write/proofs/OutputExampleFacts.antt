-- The worked examples of the texts of values, computed.
use Rattle.std.proofs.Common.{refl}
use Rattle.std.specs.Fmt.{digits}
use Rattle.known_types.specs.BytesExamples.{BytesExamplesHold}
use Rattle.schema.specs.declared.value.Item.TheVariants.{outs-Text, outs-Number, outs-Message, outs-Truth, outs-Bytes}
use Rattle.schema.specs.declared.value.Slot.TheVariants.{outs-One, outs-Many, outs-Pairs}
use Rattle.protojson_write.specs.JsonOutput.{json_text, text_within}
use Rattle.protojson_write.specs.KnownParts.{parts_within}
use Rattle.protojson_write.specs.OutputExamples.{MessageExamplesHold, PartExamplesHold, ScalarExamplesHold}

-- messages
pub messages_hold : BytesExamplesHold → MessageExamplesHold
unfolding json_text text_within parts_within digits
messages_hold known = record {
  empty = refl;
  book = simp (outs-One, outs-Many, outs-Number) refl;
  cover = simp (outs-One, outs-Bytes, known.high) refl;
  texts = simp (outs-Pairs, outs-Number) refl;
  numbers = simp (outs-Pairs, outs-Truth) refl;
  truths = simp (outs-Pairs, outs-Message) refl;
  nested = simp (outs-One, outs-Many, outs-Truth, outs-Message) refl;
  wrapper = simp (outs-One, outs-Message, outs-Number) refl;
  empty_wrapper = simp (outs-One, outs-Message) refl;
  wrappers = simp (outs-Many, outs-One, outs-Message, outs-Number) refl;
  optional = simp (outs-One, outs-Number) refl;
  wrappers_by_key = simp (outs-Pairs, outs-One, outs-Message, outs-Number) refl;
  wrapper_in_a_oneof = simp (outs-One, outs-Message) refl;
  wrapper_alone = refl;
}

-- scalars
pub scalars_hold : ScalarExamplesHold
unfolding json_text text_within parts_within digits
scalars_hold = record {
  string = simp (outs-One, outs-Text) refl;
  int32 = simp (outs-One, outs-Number) refl;
  uint64 = simp (outs-One, outs-Number) refl;
  uint32 = simp (outs-One, outs-Number) refl;
  sint32 = simp (outs-One, outs-Number) refl;
  fixed32 = simp (outs-One, outs-Number) refl;
  sfixed32 = simp (outs-One, outs-Number) refl;
  sint64 = simp (outs-One, outs-Number) refl;
  fixed64 = simp (outs-One, outs-Number) refl;
  sfixed64 = simp (outs-One, outs-Number) refl;
  truth = simp (outs-One, outs-Truth) refl;
  first_name = simp (outs-One, outs-Number) refl;
  no_name = simp (outs-One, outs-Number) refl;
}

-- single fields
pub parts_hold : BytesExamplesHold → PartExamplesHold
unfolding json_text text_within parts_within digits
parts_hold known = record {
  text = refl;
  int32 = refl;
  list = refl;
  kind = refl;
  bytes = simp known.none refl;
  map = refl;
  member = refl;
  truth = refl;
  message = refl;
  int64 = refl;
  list_of_one = simp (outs-Many, outs-Number) refl;
  optional = refl;
  beside = simp (outs-One, outs-Number) refl;
  unprintable = simp (outs-One, outs-Number, outs-Message) refl;
  no_field = refl;
}
