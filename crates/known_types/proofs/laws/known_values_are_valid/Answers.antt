use Rattle.std.proofs.Common.{◌≡◌, ℕ, suc, List, Ok, subst}
use Rattle.known_types.specs.KnownTexts.{known_value}
use Rattle.known_types.proofs.KnownLemmas.{instant_ranged, length_ranged, mask_valid, time_valid}
use Rattle.known_types.proofs.laws.known_values_are_valid.Goals as goal
use Rattle.message_types.specs.Types.{fields_of}
use Rattle.message_types.specs.declared.messages.Known.{Known}
use Rattle.message_types.specs.declared.messages.Known.TheVariants.{Plain, Timestamp, Duration, FieldMask, Wrapper}
use Rattle.message_types.specs.declared.messages.TypeId.{TypeId}
use Rattle.message_types.specs.declared.messages.Types.{Types}
use Rattle.schema.specs.Soundness.{HasKnownFields}
use Rattle.schema.specs.Validity.{valid_within}
use Rattle.schema.specs.declared.value.Value.{Value}
use Rattle.time_texts.specs.DurationReading.{duration_reading}
use Rattle.time_texts.specs.DurationTexts.{IsDurationReading, duration_text}
use Rattle.time_texts.specs.PrintableTimes.{is_printable_duration, is_printable_timestamp}
use Rattle.time_texts.specs.TimestampReading.{timestamp_reading}
use Rattle.time_texts.specs.TimestampTexts.{IsTimestampReading}
use Rattle.time_texts.specs.UtcTimes.{timestamp_text}

pub returns : goal.returns
unfolding valid_within
returns c = by
  where
    by : (types : Types) (id : TypeId) (k : ℕ) (known : Known) (text : List ℕ) (v : Value)
        → HasKnownFields known (fields_of types id) → known_value known text ≡ Ok v
        → (valid_within (suc k) types).message id v
    by types id k Timestamp text v fields h =
        time_valid timestamp_reading is_printable_timestamp timestamp_text (valid_within k types) types id text v
        (λ m e. instant_ranged m (c.read_times_are_printable.ensures.instants text m
        (subst (IsTimestampReading text) e (c.readings_are_computed.ensures.instant_of_text text)))) fields h
    by types id k Duration text v fields h =
        time_valid duration_reading is_printable_duration duration_text (valid_within k types) types id text v
        (λ m e. length_ranged m (c.read_times_are_printable.ensures.durations text m
        (subst (IsDurationReading text) e (c.readings_are_computed.ensures.duration_of_text text)))) fields h
    by types id k FieldMask text v fields h =
        mask_valid (valid_within k types) types id text v
        (λ ps e. c.masks_are_plain_text.ensures.read text ps ((c.meanings_are_computed.ensures text ps).0 e)) fields h
    by types id k Plain text v fields h = absurd cc
    by types id k Wrapper text v fields h = absurd cc
