-- The worked examples, computed.
use Rattle.std.proofs.Common.{◌≡◌, ℕ, suc, ◌+◌, ◌≤◌, refl, sym, ap, ap₂, subst, ◌∙◌, lit≤, arith, Ok, Err}
use Rattle.std.specs.Prelude.{codes, ℤ, pos, negsuc, ◌+ℤ◌, ◌≤ℤ◌}
use Rattle.std.proofs.lemmas.Int.{ints}
use Rattle.jiff_core.proofs.CalendarLemmas.{days_from_civil-day_count}
use Rattle.jiff_core.proofs.MarchLemmas.{day_count-early, day_count-late}
use Rattle.jiff_core.proofs.SignedLemmas.{signed_arith}
use Rattle.jiff_core.specs.March.{march_days, march_months}
use Rattle.jiff_core.specs.Calendar.{days_from_civil, days_in_month}
use Rattle.std.specs.Fmt.{digits}
use Rattle.time_texts.specs.DurationExamples.{DurationExamplesHold, ShownDurationsHold}
use Rattle.time_texts.specs.declared.fault.TimeFault.TheVariants.{BadText, OutOfRange}
use Rattle.time_texts.specs.TimestampTexts.{IsCivilReading, IsRealCivil, IsTimestampRange, IsTimestampSeconds, civil_of, instant, seconds_at}
use Rattle.time_texts.specs.TimestampCut.{cut_timestamp}
use Rattle.time_texts.specs.TimestampExamples.{TimestampExamplesHold, FarTimestampsHold, BadTimestampsHold}
use Rattle.time_texts.specs.declared.civil.Civil.{Civil}
use Rattle.time_texts.proofs.TimestampReads.{no_timestamp, timestamp_read}
use Rattle.time_texts.proofs.ReadingLemmas.{duration_is}

-- the examples of durations hold
pub durations_hold : DurationExamplesHold
durations_hold = record {
  one_and_a_half = duration_is (codes "1.5s");
  minus_a_half = duration_is (codes "-0.5s");
  minus_zero = duration_is (codes "-0s");
  zeros_in_front = duration_is (codes "0007.000000001s");
  most = duration_is (codes "315576000000.000000000s");
  billionth_past = duration_is (codes "315576000000.000000001s");
  least = duration_is (codes "-315576000000.999999999s");
  too_many = duration_is (codes "315576000001s");
  far_too_many = duration_is (codes "-99999999999999999999999999.5s");
  nothing = duration_is (codes "");
  no_unit = duration_is (codes "1");
  no_seconds = duration_is (codes ".5s");
  no_fraction = duration_is (codes "1.s");
  ten_digits = duration_is (codes "1.0000000000s");
  plus = duration_is (codes "+1s");
  two_minuses = duration_is (codes "--1s");
  space = duration_is (codes "1 s");
  byte_behind = duration_is (codes "1s ");
  other_unit = duration_is (codes "1m");
}

-- and so do those of texts that are written
pub shown_durations_hold : ShownDurationsHold
unfolding digits
shown_durations_hold = record {
  whole = refl;
  milliseconds = refl;
  microseconds = refl;
  nanoseconds = refl;
  zero = refl;
}

-- a day number in closed form, from March on and before
late_day : (y n m d : ℕ) (z : ℤ) → pos y +ℤ pos 10000 ≡ pos n → 3 ≤ m → m ≤ 12 → 1 ≤ d
    → z +ℤ pos 4_371_953 ≡ pos (march_days n + march_months m + d + 59) → days_from_civil (pos y) m d ≡ z
late_day y n m d z e low high day is =
    omega (arith, signed_arith, days_from_civil-day_count (pos y) m d, day_count-late (pos y) n m d e low high day, is)

early_day : (y n m d : ℕ) (z : ℤ) → pos y +ℤ pos 10000 ≡ pos (suc n) → 1 ≤ m → m ≤ 2 → 1 ≤ d
    → z +ℤ pos 4_371_953 ≡ pos (march_days n + march_months (m + 12) + d + 59) → days_from_civil (pos y) m d ≡ z
early_day y n m d z e low high day is =
    omega (arith, signed_arith, days_from_civil-day_count (pos y) m d, day_count-early (pos y) n m d e low high day, is)

-- a time of which all is known
at_day : (c : Civil) (day s : ℤ) (n : ℕ) → IsRealCivil c → 1 ≤ c.year → days_from_civil (pos c.year) c.month c.day ≡ day
    → seconds_at day c ≡ s → IsTimestampSeconds s → c.nanos ≡ n
    → IsCivilReading c (Ok (record { seconds = s; nanos = pos n }))
at_day c day s n real year number is within nanos =
    let at : instant c ≡ s = ap (λ z. seconds_at z c) number ∙ is in (
      real,
      record { year = year; seconds = subst IsTimestampSeconds (sym at) within },
      ap₂ (λ x y. record { seconds = x; nanos = pos y }) (sym at) (sym nanos),
    )

far_day : (c : Civil) (day s : ℤ) → IsRealCivil c → days_from_civil (pos c.year) c.month c.day ≡ day
    → seconds_at day c ≡ s → (IsTimestampSeconds s → ⊥) → IsCivilReading c (Err OutOfRange)
far_day c day s real number is past =
    let at : instant c ≡ s = ap (λ z. seconds_at z c) number ∙ is in
    (real, λ (r : IsTimestampRange c). past (subst IsTimestampSeconds at r.seconds))

-- a real time, by tests of literals
real_is : (c : Civil) → (negsuc 9998 ≤ℤ pos c.year) → (pos c.year ≤ℤ pos 9999) → 1 ≤ c.month → c.month ≤ 12 → 1 ≤ c.day
    → c.day ≤ days_in_month (pos c.year) c.month → c.hour ≤ 23 → c.minute ≤ 59 → c.second ≤ 59 → c.zone.hours ≤ 23
    → c.zone.minutes ≤ 59 → IsRealCivil c
real_is c a b d e f g h i j k l = record {
  date = ((a, b), (d, e), (f, g));
  clock = record { hour = h; minute = i; second = j; zone_hours = k; zone_minutes = l };
}

-- the examples of instants hold
pub timestamps_hold : TimestampExamplesHold
timestamps_hold = record {
  epoch = timestamp_read (codes "1970-01-01T00:00:00Z") (civil_of (cut_timestamp (codes "1970-01-01T00:00:00Z")))
      (Ok (record { seconds = pos 0; nanos = pos 0 })) refl
      (at_day (civil_of (cut_timestamp (codes "1970-01-01T00:00:00Z"))) (pos 0) (pos 0) 0
      (real_is (civil_of (cut_timestamp (codes "1970-01-01T00:00:00Z"))) (omega (arith, ints)) (omega (arith, ints))
      (lit≤ tt) (lit≤ tt) (lit≤ tt) (lit≤ tt) (lit≤ tt) (lit≤ tt) (lit≤ tt) (lit≤ tt) (lit≤ tt)) (lit≤ tt)
      (early_day 1970 11969 1 1 (pos 0) refl (lit≤ tt) (lit≤ tt) (lit≤ tt) refl) refl
      (record { from = omega (arith, ints); to = omega (arith, ints) }) refl);
  before = timestamp_read (codes "1969-12-31T23:59:59.25Z")
      (civil_of (cut_timestamp (codes "1969-12-31T23:59:59.25Z")))
      (Ok (record { seconds = negsuc 0; nanos = pos 250_000_000 })) refl
      (at_day (civil_of (cut_timestamp (codes "1969-12-31T23:59:59.25Z"))) (negsuc 0) (negsuc 0) 250000000
      (real_is (civil_of (cut_timestamp (codes "1969-12-31T23:59:59.25Z"))) (omega (arith, ints)) (omega (arith, ints))
      (lit≤ tt) (lit≤ tt) (lit≤ tt) (lit≤ tt) (lit≤ tt) (lit≤ tt) (lit≤ tt) (lit≤ tt) (lit≤ tt)) (lit≤ tt)
      (late_day 1969 11969 12 31 (negsuc 0) refl (lit≤ tt) (lit≤ tt) (lit≤ tt) refl) refl
      (record { from = omega (arith, ints); to = omega (arith, ints) }) refl);
  first = timestamp_read (codes "0001-01-01T00:00:00Z") (civil_of (cut_timestamp (codes "0001-01-01T00:00:00Z")))
      (Ok (record { seconds = negsuc 62_135_596_799; nanos = pos 0 })) refl
      (at_day (civil_of (cut_timestamp (codes "0001-01-01T00:00:00Z"))) (negsuc 719161) (negsuc 62135596799) 0
      (real_is (civil_of (cut_timestamp (codes "0001-01-01T00:00:00Z"))) (omega (arith, ints)) (omega (arith, ints))
      (lit≤ tt) (lit≤ tt) (lit≤ tt) (lit≤ tt) (lit≤ tt) (lit≤ tt) (lit≤ tt) (lit≤ tt) (lit≤ tt)) (lit≤ tt)
      (early_day 1 10000 1 1 (negsuc 719161) refl (lit≤ tt) (lit≤ tt) (lit≤ tt) refl) refl
      (record { from = omega (arith, ints); to = omega (arith, ints) }) refl);
  last = timestamp_read (codes "9999-12-31T23:59:59.999999999Z")
      (civil_of (cut_timestamp (codes "9999-12-31T23:59:59.999999999Z")))
      (Ok (record { seconds = pos 253_402_300_799; nanos = pos 999_999_999 })) refl
      (at_day
      (civil_of (cut_timestamp (codes "9999-12-31T23:59:59.999999999Z"))) (pos 2932896) (pos 253402300799) 999999999
      (real_is (civil_of (cut_timestamp (codes "9999-12-31T23:59:59.999999999Z"))) (omega (arith, ints))
      (omega (arith, ints)) (lit≤ tt) (lit≤ tt) (lit≤ tt) (lit≤ tt) (lit≤ tt) (lit≤ tt) (lit≤ tt) (lit≤ tt)
      (lit≤ tt)) (lit≤ tt) (late_day 9999 19999 12 31 (pos 2932896) refl (lit≤ tt) (lit≤ tt) (lit≤ tt) refl) refl
      (record { from = omega (arith, ints); to = omega (arith, ints) }) refl);
  first_ahead = timestamp_read (codes "0001-01-01T23:59:00+23:59")
      (civil_of (cut_timestamp (codes "0001-01-01T23:59:00+23:59")))
      (Ok (record { seconds = negsuc 62_135_596_799; nanos = pos 0 })) refl
      (at_day (civil_of (cut_timestamp (codes "0001-01-01T23:59:00+23:59"))) (negsuc 719161) (negsuc 62135596799) 0
      (real_is (civil_of (cut_timestamp (codes "0001-01-01T23:59:00+23:59"))) (omega (arith, ints))
      (omega (arith, ints)) (lit≤ tt) (lit≤ tt) (lit≤ tt) (lit≤ tt) (lit≤ tt) (lit≤ tt) (lit≤ tt) (lit≤ tt)
      (lit≤ tt)) (lit≤ tt) (early_day 1 10000 1 1 (negsuc 719161) refl (lit≤ tt) (lit≤ tt) (lit≤ tt) refl) refl
      (record { from = omega (arith, ints); to = omega (arith, ints) }) refl);
  last_behind = timestamp_read (codes "9999-12-31T00:00:59-23:59")
      (civil_of (cut_timestamp (codes "9999-12-31T00:00:59-23:59")))
      (Ok (record { seconds = pos 253_402_300_799; nanos = pos 0 })) refl
      (at_day (civil_of (cut_timestamp (codes "9999-12-31T00:00:59-23:59"))) (pos 2932896) (pos 253402300799) 0
      (real_is (civil_of (cut_timestamp (codes "9999-12-31T00:00:59-23:59"))) (omega (arith, ints))
      (omega (arith, ints)) (lit≤ tt) (lit≤ tt) (lit≤ tt) (lit≤ tt) (lit≤ tt) (lit≤ tt) (lit≤ tt) (lit≤ tt)
      (lit≤ tt)) (lit≤ tt) (late_day 9999 19999 12 31 (pos 2932896) refl (lit≤ tt) (lit≤ tt) (lit≤ tt) refl) refl
      (record { from = omega (arith, ints); to = omega (arith, ints) }) refl);
  leap_2000 = timestamp_read (codes "2000-02-29T00:00:00Z")
      (civil_of (cut_timestamp (codes "2000-02-29T00:00:00Z")))
      (Ok (record { seconds = pos 951_782_400; nanos = pos 0 })) refl
      (at_day (civil_of (cut_timestamp (codes "2000-02-29T00:00:00Z"))) (pos 11016) (pos 951782400) 0
      (real_is (civil_of (cut_timestamp (codes "2000-02-29T00:00:00Z"))) (omega (arith, ints)) (omega (arith, ints))
      (lit≤ tt) (lit≤ tt) (lit≤ tt) (lit≤ tt) (lit≤ tt) (lit≤ tt) (lit≤ tt) (lit≤ tt) (lit≤ tt)) (lit≤ tt)
      (early_day 2000 11999 2 29 (pos 11016) refl (lit≤ tt) (lit≤ tt) (lit≤ tt) refl) refl
      (record { from = omega (arith, ints); to = omega (arith, ints) }) refl);
  leap_2024 = timestamp_read (codes "2024-02-29T12:00:00+01:30")
      (civil_of (cut_timestamp (codes "2024-02-29T12:00:00+01:30")))
      (Ok (record { seconds = pos 1_709_202_600; nanos = pos 0 })) refl
      (at_day (civil_of (cut_timestamp (codes "2024-02-29T12:00:00+01:30"))) (pos 19782) (pos 1709202600) 0
      (real_is (civil_of (cut_timestamp (codes "2024-02-29T12:00:00+01:30"))) (omega (arith, ints))
      (omega (arith, ints)) (lit≤ tt) (lit≤ tt) (lit≤ tt) (lit≤ tt) (lit≤ tt) (lit≤ tt) (lit≤ tt) (lit≤ tt) (lit≤ tt))
      (lit≤ tt) (early_day 2024 12023 2 29 (pos 19782) refl (lit≤ tt) (lit≤ tt) (lit≤ tt) refl) refl
      (record { from = omega (arith, ints); to = omega (arith, ints) }) refl);
}

-- and those that are out of range
pub far_timestamps_hold : FarTimestampsHold
far_timestamps_hold = record {
  before_first = timestamp_read (codes "0001-01-01T00:00:00+00:01")
      (civil_of (cut_timestamp (codes "0001-01-01T00:00:00+00:01"))) (Err OutOfRange) refl
      (far_day (civil_of (cut_timestamp (codes "0001-01-01T00:00:00+00:01"))) (negsuc 719161) (negsuc 62135596859)
      (real_is (civil_of (cut_timestamp (codes "0001-01-01T00:00:00+00:01"))) (omega (arith, ints))
      (omega (arith, ints)) (lit≤ tt) (lit≤ tt) (lit≤ tt) (lit≤ tt) (lit≤ tt) (lit≤ tt) (lit≤ tt) (lit≤ tt)
      (lit≤ tt)) (early_day 1 10000 1 1 (negsuc 719161) refl (lit≤ tt) (lit≤ tt) (lit≤ tt) refl) refl
      (λ (w : IsTimestampSeconds (negsuc 62135596859)). absurd (omega (arith, ints, w.from, w.to))));
  past_last = timestamp_read (codes "9999-12-31T23:59:59-00:01")
      (civil_of (cut_timestamp (codes "9999-12-31T23:59:59-00:01"))) (Err OutOfRange) refl
      (far_day (civil_of (cut_timestamp (codes "9999-12-31T23:59:59-00:01"))) (pos 2932896) (pos 253402300859)
      (real_is (civil_of (cut_timestamp (codes "9999-12-31T23:59:59-00:01"))) (omega (arith, ints))
      (omega (arith, ints)) (lit≤ tt) (lit≤ tt) (lit≤ tt) (lit≤ tt) (lit≤ tt) (lit≤ tt) (lit≤ tt) (lit≤ tt)
      (lit≤ tt)) (late_day 9999 19999 12 31 (pos 2932896) refl (lit≤ tt) (lit≤ tt) (lit≤ tt) refl) refl
      (λ (w : IsTimestampSeconds (pos 253402300859)). absurd (omega (arith, ints, w.from, w.to))));
  year_0000 = timestamp_read (codes "0000-12-31T23:59:59-00:01")
      (civil_of (cut_timestamp (codes "0000-12-31T23:59:59-00:01"))) (Err OutOfRange) refl (
        (real_is (civil_of (cut_timestamp (codes "0000-12-31T23:59:59-00:01"))) (omega (arith, ints))
            (omega (arith, ints)) (lit≤ tt) (lit≤ tt) (lit≤ tt) (lit≤ tt) (lit≤ tt) (lit≤ tt) (lit≤ tt) (lit≤ tt)
            (lit≤ tt)),
        λ (r : IsTimestampRange (civil_of (cut_timestamp (codes "0000-12-31T23:59:59-00:01")))). absurd
            (omega (arith, r.year)),
      );
}

-- and texts that are no timestamp's
pub bad_timestamps_hold : BadTimestampsHold
bad_timestamps_hold = record {
  nothing = no_timestamp (codes "") refl;
  leap_1900 = timestamp_read (codes "1900-02-29T00:00:00Z")
      (civil_of (cut_timestamp (codes "1900-02-29T00:00:00Z"))) (Err BadText) refl
      (λ (x : IsRealCivil (civil_of (cut_timestamp (codes "1900-02-29T00:00:00Z")))). absurd
      (omega (arith, x.date.2.1)));
  leap_2023 = timestamp_read (codes "2023-02-29T00:00:00Z")
      (civil_of (cut_timestamp (codes "2023-02-29T00:00:00Z"))) (Err BadText) refl
      (λ (x : IsRealCivil (civil_of (cut_timestamp (codes "2023-02-29T00:00:00Z")))). absurd
      (omega (arith, x.date.2.1)));
  month_13 = timestamp_read (codes "2023-13-01T00:00:00Z") (civil_of (cut_timestamp (codes "2023-13-01T00:00:00Z")))
      (Err BadText) refl
      (λ (x : IsRealCivil (civil_of (cut_timestamp (codes "2023-13-01T00:00:00Z")))). absurd
      (omega (arith, x.date.1.1)));
  day_0 = timestamp_read (codes "2023-01-00T00:00:00Z") (civil_of (cut_timestamp (codes "2023-01-00T00:00:00Z")))
      (Err BadText) refl
      (λ (x : IsRealCivil (civil_of (cut_timestamp (codes "2023-01-00T00:00:00Z")))). absurd
      (omega (arith, x.date.2.0)));
  unreal_day_of_0000 = timestamp_read (codes "0000-02-30T00:00:00Z")
      (civil_of (cut_timestamp (codes "0000-02-30T00:00:00Z"))) (Err BadText) refl
      (λ (x : IsRealCivil (civil_of (cut_timestamp (codes "0000-02-30T00:00:00Z")))). absurd
      (omega (arith, x.date.2.1)));
  hour_24 = timestamp_read (codes "2023-01-01T24:00:00Z") (civil_of (cut_timestamp (codes "2023-01-01T24:00:00Z")))
      (Err BadText) refl
      (λ (x : IsRealCivil (civil_of (cut_timestamp (codes "2023-01-01T24:00:00Z")))). absurd
      (omega (arith, x.clock.hour)));
  second_60 = timestamp_read (codes "2016-12-31T23:59:60Z")
      (civil_of (cut_timestamp (codes "2016-12-31T23:59:60Z"))) (Err BadText) refl
      (λ (x : IsRealCivil (civil_of (cut_timestamp (codes "2016-12-31T23:59:60Z")))). absurd
      (omega (arith, x.clock.second)));
  zone_24 = timestamp_read (codes "2023-01-01T00:00:00+24:00")
      (civil_of (cut_timestamp (codes "2023-01-01T00:00:00+24:00"))) (Err BadText) refl
      (λ (x : IsRealCivil (civil_of (cut_timestamp (codes "2023-01-01T00:00:00+24:00")))). absurd
      (omega (arith, x.clock.zone_hours)));
  zone_minute_60 = timestamp_read (codes "2023-01-01T00:00:00+00:60")
      (civil_of (cut_timestamp (codes "2023-01-01T00:00:00+00:60"))) (Err BadText) refl
      (λ (x : IsRealCivil (civil_of (cut_timestamp (codes "2023-01-01T00:00:00+00:60")))). absurd
      (omega (arith, x.clock.zone_minutes)));
  ten_digits = no_timestamp (codes "2023-01-01T00:00:00.0000000000Z") refl;
  no_fraction = no_timestamp (codes "2023-01-01T00:00:00.Z") refl;
  no_zone = no_timestamp (codes "2023-01-01T00:00:00") refl;
  small_t = no_timestamp (codes "2023-01-01t00:00:00Z") refl;
  small_z = no_timestamp (codes "2023-01-01T00:00:00z") refl;
  five_digits_of_a_year = no_timestamp (codes "12023-01-01T00:00:00Z") refl;
  byte_behind = no_timestamp (codes "2023-01-01T00:00:00Z ") refl;
}
