-- What one computes for a text is what is read of it.
use Rattle.std.proofs.Common.{◌≡◌, ℕ, ◌<◌, ◌≤◌, Bool, true, false, List, length, not, eqb, refl, sym, subst, arith, Option, Some, None, Ok, Err}
use Rattle.std.specs.Prelude.{ℤ, pos, neg_ℤ, ◌≤ℤ◌, nat_le, int_le, cond}
use Rattle.std.specs.Bool.{Decides}
use Rattle.std.proofs.lemmas.Bool.Decides.{nat_tests, Decides-and, Decides-like, not_from_Decides}
use Rattle.std.proofs.lemmas.Int.{ints}
use Rattle.jiff_core.specs.Calendar.{IsCivilDate, days_in_month}
use Rattle.std.specs.Str.Parse.{digits_value}
use Rattle.time_texts.specs.DurationTexts.{IsDurationReading, duration_moment}
use Rattle.time_texts.specs.DurationCut.{cut_duration, are_cut_parts}
use Rattle.time_texts.specs.DurationReading.{ranged_duration, duration_reading}
use Rattle.time_texts.specs.TimestampTexts.{IsTimestampReading, IsCivilReading, IsRealCivil, IsClock, IsTimestampRange, IsTimestampSeconds, civil_moment, instant}
use Rattle.time_texts.specs.TimestampCut.{civil_in}
use Rattle.time_texts.specs.TimestampReading.{is_calendar_day, is_clock_time, is_real_time, are_timestamp_seconds, is_ranged_time, ranged_instant, numbers_reading, timestamp_reading}
use Rattle.time_texts.specs.declared.civil.Civil.{Civil}
use Rattle.time_texts.specs.declared.fault.TimeFault.TheVariants.{BadText, OutOfRange}
use Rattle.time_texts.proofs.TimestampReads.{no_timestamp, timestamp_read}
use Rattle.time_texts.proofs.DurationLemmas.{bad_duration, cut_written, signed_size}

-- a test of order on numbers
pub at_most : (a b : ℕ) → Decides (nat_le a b) (a ≤ b)
at_most a b = (λ e. told a b e, λ h. tests a b h)
  where
    told : (a b : ℕ) → nat_le a b ≡ true → a ≤ b
    told a b e = grind (arith, nat_tests)

    tests : (a b : ℕ) → a ≤ b → nat_le a b ≡ true
    tests a b h = grind (arith, nat_tests)

-- and on integers
pub at_most_z : (a b : ℤ) → Decides (int_le a b) (a ≤ℤ b)
at_most_z a b = (λ e. omega (arith, ints), λ h. by (int_le a b) refl h)
  where
    by : (t : Bool) → int_le a b ≡ t → a ≤ℤ b → t ≡ true
    by true e h = refl
    by false e h = absurd (omega (arith, ints, h))

-- what one computes of a duration's text is what is read of it
pub duration_is : (s : List ℕ) → IsDurationReading s (duration_reading s)
duration_is s = parts (are_cut_parts (cut_duration s)) refl
  where
    ranged : (t : Bool) → nat_le (digits_value 10 (cut_duration s).whole) 315_576_000_000 ≡ t
        → are_cut_parts (cut_duration s) ≡ true
        → IsDurationReading s (cond t (Ok (duration_moment (cut_duration s))) (Err OutOfRange))
    ranged true e h = record {
      parts = cut_duration s;
      written = cut_written s h;
      in_range = subst (λ n. n ≤ 315_576_000_000)
          (sym (signed_size (not (eqb (length (cut_duration s).minus) 0)) (digits_value 10 (cut_duration s).whole)))
          ((at_most (digits_value 10 (cut_duration s).whole) 315_576_000_000).0 e);
      moment_is = refl;
    }
    ranged false e h = (cut_duration s, cut_written s h, past (digits_value 10 (cut_duration s).whole) e)
      where
        past : (n : ℕ) → nat_le n 315_576_000_000 ≡ false → 315_576_000_000 < n
        past n h = grind (arith, nat_tests)

    parts : (t : Bool) → are_cut_parts (cut_duration s) ≡ t
        → IsDurationReading s (cond t (ranged_duration (cut_duration s)) (Err BadText))
    parts true e = ranged (nat_le (digits_value 10 (cut_duration s).whole) 315_576_000_000) refl e
    parts false e = bad_duration s (cut_duration s) refl e

-- the calendar has a day
day_decides : (y m d : ℕ) → Decides (is_calendar_day y m d) (IsCivilDate (pos y) m d)
day_decides y m d =
    Decides-like (is_calendar_day y m d) (λ k. ((before y, year k.0), (k.1.0, k.1.1.0), (k.1.1.1.0, k.1.1.1.1)))
    (λ k. (within y k.0.1, (k.1.0, (k.1.1, (k.2.0, k.2.1)))))
    (Decides-and (nat_le y 9_999) _ (at_most y 9_999) (Decides-and (nat_le 1 m) _ (at_most 1 m)
    (Decides-and (nat_le m 12) _ (at_most m 12) (Decides-and (nat_le 1 d) _ (at_most 1 d)
    (at_most d (days_in_month (pos y) m))))))
  where
    before : (y : ℕ) → neg_ℤ (pos 9_999) ≤ℤ pos y
    before y = omega (arith, ints)

    year : {y : ℕ} → y ≤ 9_999 → pos y ≤ℤ pos 9_999
    year h = omega (arith, ints, h)

    within : (y : ℕ) → pos y ≤ℤ pos 9_999 → y ≤ 9_999
    within y h = omega (arith, ints, h)

-- the clock has a time
clock_decides : (c : Civil) → Decides (is_clock_time c) (IsClock c)
clock_decides c =
    Decides-like (is_clock_time c)
    (λ k. record { hour = k.0; minute = k.1.0; second = k.1.1.0; zone_hours = k.1.1.1.0; zone_minutes = k.1.1.1.1 })
    (λ k. (k.hour, (k.minute, (k.second, (k.zone_hours, k.zone_minutes)))))
    (Decides-and (nat_le c.hour 23) _ (at_most c.hour 23) (Decides-and (nat_le c.minute 59) _ (at_most c.minute 59)
    (Decides-and (nat_le c.second 59) _ (at_most c.second 59)
    (Decides-and (nat_le c.zone.hours 23) _ (at_most c.zone.hours 23) (at_most c.zone.minutes 59)))))

-- there is a time
pub real_decides : (c : Civil) → Decides (is_real_time c) (IsRealCivil c)
real_decides c =
    Decides-like (is_real_time c) (λ k. record { date = k.0; clock = k.1 }) (λ k. (k.date, k.clock))
    (Decides-and (is_calendar_day c.year c.month c.day) (is_clock_time c) (day_decides c.year c.month c.day)
    (clock_decides c))

-- seconds are in range
pub seconds_decide : (s : ℤ) → Decides (are_timestamp_seconds s) (IsTimestampSeconds s)
seconds_decide s =
    Decides-like (are_timestamp_seconds s) (λ k. record { from = k.0; to = k.1 }) (λ k. (k.from, k.to))
    (Decides-and (int_le (neg_ℤ (pos 62_135_596_800)) s) (int_le s (pos 253_402_300_799))
    (at_most_z (neg_ℤ (pos 62_135_596_800)) s) (at_most_z s (pos 253_402_300_799)))

-- a time is in range
pub range_decides : (c : Civil) → Decides (is_ranged_time c) (IsTimestampRange c)
range_decides c =
    Decides-like (is_ranged_time c) (λ k. record { year = k.0; seconds = k.1 }) (λ k. (k.year, k.seconds))
    (Decides-and (nat_le 1 c.year) (are_timestamp_seconds (instant c)) (at_most 1 c.year) (seconds_decide (instant c)))

-- what one computes of numbers is what they say
pub numbers_are_read : (c : Civil) → IsCivilReading c (numbers_reading (Some c))
numbers_are_read c = real (is_real_time c) refl
  where
    ranged : (t : Bool) → is_ranged_time c ≡ t → IsRealCivil c
        → IsCivilReading c (cond t (Ok (civil_moment c)) (Err OutOfRange))
    ranged true e h = (h, (range_decides c).0 e, refl)
    ranged false e h = (h, not_from_Decides (is_ranged_time c) (range_decides c) e)

    real : (t : Bool) → is_real_time c ≡ t → IsCivilReading c (cond t (ranged_instant c) (Err BadText))
    real true e = ranged (is_ranged_time c) refl ((real_decides c).0 e)
    real false e = not_from_Decides (is_real_time c) (real_decides c) e

-- and of a timestamp's text
pub timestamp_is : (s : List ℕ) → IsTimestampReading s (timestamp_reading s)
timestamp_is s = found (civil_in s) refl
  where
    found : (o : Option Civil) → civil_in s ≡ o → IsTimestampReading s (numbers_reading o)
    found None e = no_timestamp s e
    found (Some c) e = timestamp_read s c (numbers_reading (Some c)) e (numbers_are_read c)
