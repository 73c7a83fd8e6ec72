use Rattle.std.proofs.Common.{◌≡◌, ◌∙◌, ℕ, suc, List, Some, Ok, sym, subst}
use Rattle.known_types.specs.KnownTexts.{known_text, known_value}
use Rattle.known_types.proofs.KnownLemmas.{mask_read_back, same_value, time_read_back}
use Rattle.known_types.proofs.laws.known_texts_are_read_back.Goals as goal
use Rattle.message_types.specs.Types.{fields_of}
use Rattle.message_types.specs.declared.messages.Known.{Known}
use Rattle.message_types.specs.declared.messages.Known.TheVariants.{Plain, Timestamp, Duration, FieldMask, Wrapper}
use Rattle.message_types.specs.declared.messages.TypeId.{TypeId}
use Rattle.message_types.specs.declared.messages.Types.{Types}
use Rattle.schema.specs.Soundness.{HasKnownFields}
use Rattle.schema.specs.Validity.{valid_within}
use Rattle.schema.specs.declared.value.Value.{Value}
use Rattle.time_texts.specs.DurationReading.{duration_reading}
use Rattle.time_texts.specs.DurationTexts.{duration_text}
use Rattle.time_texts.specs.PrintableTimes.{is_printable_duration, is_printable_timestamp}
use Rattle.time_texts.specs.TimestampReading.{timestamp_reading}
use Rattle.time_texts.specs.UtcTimes.{timestamp_text}

pub returns-clause-read : goal.returns-clause-read
unfolding valid_within
returns-clause-read c = by
  where
    by : (types : Types) (id : TypeId) (k : ℕ) (known : Known) (v : Value) (text : List ℕ)
        → HasKnownFields known (fields_of types id) → (valid_within (suc k) types).message id v
        → known_text known v ≡ Some text → known_value known text ≡ Ok v
    by types id k Timestamp v text fields valid h =
        time_read_back timestamp_reading is_printable_timestamp timestamp_text (valid_within k types) types id v text
        (λ m e. let printable = (c.printable_is_computed.ensures.instants m).0 e in
        sym (c.readings_are_computed.ensures.instants (timestamp_text m) (Ok m)
        (c.written_texts_are_read_back.ensures.instants m (timestamp_text m) printable
        (c.printable_instants_have_texts.ensures m printable)))) fields valid h
    by types id k Duration v text fields valid h =
        time_read_back duration_reading is_printable_duration duration_text (valid_within k types) types id v text
        (λ m e. sym (c.readings_are_computed.ensures.durations (duration_text m) (Ok m)
        (c.written_texts_are_read_back.ensures.durations m ((c.printable_is_computed.ensures.durations m).0 e))))
        fields valid h
    by types id k FieldMask v text fields valid h =
        mask_read_back (valid_within k types) types id v text
        (λ ps e. (c.meanings_are_computed.ensures text ps).1
        ((c.written_masks_are_read_back.ensures.meant text ps).0 e)) fields valid h
    by types id k Plain v text fields valid h = absurd cc
    by types id k Wrapper v text fields valid h = absurd cc

pub returns-clause-apart : goal.returns-clause-apart
returns-clause-apart c types id k known v w text fields first second h i =
    same_value (known_value known text) v w (returns-clause-read c types id k known v text fields first h)
    (returns-clause-read c types id k known w text fields second i)
