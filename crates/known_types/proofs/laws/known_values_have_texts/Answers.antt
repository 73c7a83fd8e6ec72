use Rattle.std.proofs.Common.{◌≡◌, ℕ, List, true, Ok, subst}
use Rattle.std.specs.Prelude.{is_some}
use Rattle.known_types.specs.KnownTexts.{known_text, known_value}
use Rattle.known_types.proofs.KnownLemmas.{mask_has_text, time_has_text}
use Rattle.known_types.proofs.laws.known_values_have_texts.Goals as goal
use Rattle.message_types.specs.declared.messages.Known.{Known}
use Rattle.message_types.specs.declared.messages.Known.TheVariants.{Plain, Timestamp, Duration, FieldMask, Wrapper}
use Rattle.schema.specs.declared.value.Value.{Value}
use Rattle.time_texts.specs.DurationReading.{duration_reading}
use Rattle.time_texts.specs.DurationTexts.{IsDurationReading, duration_text}
use Rattle.time_texts.specs.PrintableTimes.{is_printable_duration, is_printable_timestamp}
use Rattle.time_texts.specs.TimestampReading.{timestamp_reading}
use Rattle.time_texts.specs.TimestampTexts.{IsTimestampReading}
use Rattle.time_texts.specs.UtcTimes.{timestamp_text}

pub returns : goal.returns
returns c = by
  where
    by : (known : Known) (text : List ℕ) (v : Value) → known_value known text ≡ Ok v
        → is_some (known_text known v) ≡ true
    by Timestamp text v h =
        time_has_text timestamp_reading is_printable_timestamp timestamp_text text v
        (λ m e. (c.printable_is_computed.ensures.instants m).1 (c.read_times_are_printable.ensures.instants text m
        (subst (IsTimestampReading text) e (c.readings_are_computed.ensures.instant_of_text text)))) h
    by Duration text v h =
        time_has_text duration_reading is_printable_duration duration_text text v
        (λ m e. (c.printable_is_computed.ensures.durations m).1 (c.read_times_are_printable.ensures.durations text m
        (subst (IsDurationReading text) e (c.readings_are_computed.ensures.duration_of_text text)))) h
    by FieldMask text v h =
        mask_has_text text v
        (λ ps e. (c.written_masks_are_read_back.ensures.meant text ps).1
        ((c.meanings_are_computed.ensures text ps).0 e)) c.items_keep_their_paths.ensures h
    by Plain text v h = absurd cc
    by Wrapper text v h = absurd cc
