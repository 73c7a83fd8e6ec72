-- The worked examples of texts of well-known types, computed.
use Rattle.std.proofs.Common.{◌≡◌, ◌∙◌, sym, ap, refl, ℕ, Bool, List, [], ◌∷◌, Option, Some, None, Result, Ok, Err}
use Rattle.std.specs.Prelude.{codes, pos, negsuc, ℤ, option_and_then}
use Rattle.std.specs.Fmt.{digits}
use Rattle.known_types.specs.KnownTextExamples.{KnownFaultsHold, KnownReadingsHold, KnownShowingsHold, UnprintableHold}
use Rattle.known_types.specs.KnownTexts.{instant_text, items_in_slot, known_text, length_text, mask_value, masked, moment_value, number_as_slot, paths_text, timed}
use Rattle.known_types.proofs.MomentLemmas.{moment_back, moment_with}
use Rattle.known_types.proofs.PathSlots.{mask_back}
use Rattle.mask_texts.specs.MaskExamples.{BadMasksHold, ReadMasksHold, UnprintableMasksHold, WrittenMasksHold}
use Rattle.mask_texts.specs.MaskItems.{item_paths, paths_as_items}
use Rattle.mask_texts.specs.MaskTexts.{mask_text}
use Rattle.message_types.specs.declared.messages.Known.TheVariants.{Timestamp, Duration, FieldMask}
use Rattle.schema.specs.declared.value.Item.TheOpen.{Number, One}
use Rattle.schema.specs.declared.value.Item.{roll-Item}
use Rattle.schema.specs.declared.value.Slot.{out-roll-Slot}
use Rattle.time_texts.specs.DurationExamples.{DurationExamplesHold}
use Rattle.time_texts.specs.DurationReading.{duration_reading}
use Rattle.time_texts.specs.DurationTexts.{IsDurationReading}
use Rattle.time_texts.specs.TimestampExamples.{BadTimestampsHold, FarTimestampsHold, TimestampExamplesHold}
use Rattle.time_texts.specs.TimestampReading.{timestamp_reading}
use Rattle.time_texts.specs.TimestampTexts.{IsTimestampReading}
use Rattle.time_texts.specs.declared.fault.TimeFault.{TimeFault}
use Rattle.time_texts.specs.declared.fault.TimeFault.TheVariants.{BadText, OutOfRange}
use Rattle.time_texts.specs.declared.moment.Moment.{Moment}

module _ (durations : (t : List ℕ) (r : Result Moment TimeFault) → IsDurationReading t r → r ≡ duration_reading t)
    (instants : (t : List ℕ) (r : Result Moment TimeFault) → IsTimestampReading t r → r ≡ timestamp_reading t) where
  -- what is read of an instant's text
  instant_read : (t : List ℕ) (r : Result Moment TimeFault) → IsTimestampReading t r
      → timed (timestamp_reading t) ≡ timed r
  instant_read t r h = ap timed (sym (instants t r h))

  -- and of a duration's
  length_read : (t : List ℕ) (r : Result Moment TimeFault) → IsDurationReading t r
      → timed (duration_reading t) ≡ timed r
  length_read t r h = ap timed (sym (durations t r h))

  -- texts that are read
  pub readings_hold : DurationExamplesHold → TimestampExamplesHold → ReadMasksHold → KnownReadingsHold
  readings_hold lengths times masks = record {
    epoch = instant_read (codes "1970-01-01T00:00:00Z") (Ok (moment_with (pos 0) (pos 0))) times.epoch;
    before =
        instant_read (codes "1969-12-31T23:59:59.25Z") (Ok (moment_with (negsuc 0) (pos 250_000_000))) times.before;
    leap_day =
        instant_read (codes "2024-02-29T12:00:00+01:30") (Ok (moment_with (pos 1_709_202_600) (pos 0))) times.leap_2024;
    half = length_read (codes "-0.5s") (Ok (moment_with (pos 0) (negsuc 499_999_999))) lengths.minus_a_half;
    zero = length_read (codes "-0s") (Ok (moment_with (pos 0) (pos 0))) lengths.minus_zero;
    paths = ap masked masks.two;
    no_paths = ap masked masks.none;
  }

  -- texts that are refused
  pub faults_hold : DurationExamplesHold → FarTimestampsHold → BadTimestampsHold → BadMasksHold → KnownFaultsHold
  faults_hold lengths far bad masks = record {
    year_0000 = instant_read (codes "0000-12-31T23:59:59-00:01") (Err OutOfRange) far.year_0000;
    second_60 = instant_read (codes "2016-12-31T23:59:60Z") (Err BadText) bad.second_60;
    far = length_read (codes "315576000001s") (Err OutOfRange) lengths.too_many;
    minutes = length_read (codes "1m") (Err BadText) lengths.other_unit;
    underscore = ap masked masks.underscore;
    plain = refl;
    wrapper = refl;
  }

-- the text of a duration's numbers
length_is : (s n : ℤ) → known_text Duration (moment_value (moment_with s n)) ≡ length_text (moment_with s n)
length_is s n = ap length_text (moment_back (moment_with s n))

-- and of an instant's
instant_is : (s n : ℤ) → known_text Timestamp (moment_value (moment_with s n)) ≡ instant_text (moment_with s n)
instant_is s n = ap instant_text (moment_back (moment_with s n))

module _ (back : (ps : List (List ℕ)) → item_paths (paths_as_items ps) ≡ ps) where
  -- the text of paths
  paths_are : (ps : List (List ℕ)) → known_text FieldMask (mask_value (paths_as_items ps)) ≡ mask_text ps
  paths_are ps =
      ap (λ o. option_and_then paths_text o) (mask_back (paths_as_items ps)) ∙ ap mask_text (back ps)

  -- messages with texts
  pub showings_hold : WrittenMasksHold → KnownShowingsHold
  unfolding digits
  showings_hold masks = record {
    one_and_a_half = length_is (pos 1) (pos 500_000_000);
    below = length_is (pos 0) (negsuc 999);
    zero = length_is (pos 0) (pos 0);
    paths = paths_are (codes "user.display_name" ∷ codes "photo" ∷ []) ∙ masks.two;
    no_paths = paths_are [] ∙ masks.none;
  }

  -- messages without
  pub unprintable_hold : UnprintableMasksHold → UnprintableHold
  unprintable_hold masks = record {
    signs = length_is (pos 1) (negsuc 0);
    far_duration = length_is (pos 315_576_000_001) (pos 0);
    far_instant = instant_is (pos 253_402_300_800) (pos 0);
    nanos_below = instant_is (pos 0) (negsuc 0);
    empty_path = paths_are ([] ∷ []) ∙ masks.empty;
    number_of_paths =
        ap (λ l. option_and_then paths_text (items_in_slot l)) (out-roll-Slot (One (roll-Item (Number (pos 1)))));
    plain = refl;
  }
