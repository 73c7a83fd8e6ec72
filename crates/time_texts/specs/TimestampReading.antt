-- What is read of a timestamp's text, as one computes it.
use Rattle.std.specs.Prelude.{◌&&◌, ℕ, Bool, List, if◌then◌else◌, nat_le, ℤ, pos, neg_ℤ, int_le, Option, Some, None, Result, Ok, Err}
use Rattle.jiff_core.specs.Calendar.{days_in_month}
use Rattle.time_texts.specs.TimestampTexts.{instant, civil_moment}
use Rattle.time_texts.specs.TimestampCut.{civil_in}
use Rattle.time_texts.specs.declared.civil.Civil.{Civil}
use Rattle.time_texts.specs.declared.moment.Moment.{Moment}
use Rattle.time_texts.specs.declared.fault.TimeFault.{TimeFault}
use Rattle.time_texts.specs.declared.fault.TimeFault.TheVariants.{BadText, OutOfRange}

-- the calendar has the day, in the years that four digits write
abbrev pub is_calendar_day : ℕ → ℕ → ℕ → Bool
is_calendar_day year month day =
    nat_le year 9_999 && (nat_le 1 month && (nat_le month 12
    && (nat_le 1 day && nat_le day (days_in_month (pos year) month))))

-- the clock has the time, and zones the distance from UTC
abbrev pub is_clock_time : Civil → Bool
is_clock_time c =
    nat_le c.hour 23 && (nat_le c.minute 59 && (nat_le c.second 59
    && (nat_le c.zone.hours 23 && nat_le c.zone.minutes 59)))

-- there is such a time
abbrev pub is_real_time : Civil → Bool
is_real_time c = is_calendar_day c.year c.month c.day && is_clock_time c

-- the seconds of a Timestamp are in range
abbrev pub are_timestamp_seconds : ℤ → Bool
are_timestamp_seconds s = int_le (neg_ℤ (pos 62_135_596_800)) s && int_le s (pos 253_402_300_799)

-- a time is in range
abbrev pub is_ranged_time : Civil → Bool
is_ranged_time c = nat_le 1 c.year && are_timestamp_seconds (instant c)

-- the instant of a time, where it is in range
abbrev pub ranged_instant : Civil → Result Moment TimeFault
ranged_instant c = if is_ranged_time c then Ok (civil_moment c) else Err OutOfRange

-- what the numbers of a text say, where there are any
abbrev pub numbers_reading : Option Civil → Result Moment TimeFault
numbers_reading None = Err BadText
numbers_reading (Some c) = if is_real_time c then ranged_instant c else Err BadText

-- what is read of a text
abbrev pub timestamp_reading : List ℕ → Result Moment TimeFault
timestamp_reading text = numbers_reading (civil_in text)
