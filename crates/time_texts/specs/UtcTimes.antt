-- The date of a day's number and the text of an instant, as one computes them: the last year and the last month that
-- begin at or before the day.
use Rattle.std.specs.Prelude.{ℕ, zero, suc, ◌+◌, ◌-◌, ◌/◌, ◌%◌, List, if◌then◌else◌, nat_le, pos, unsigned_abs, ◌+ℤ◌}
use Rattle.jiff_core.specs.Calendar.{days_of_years, days_of_months}
use Rattle.time_texts.specs.TimestampTexts.{utc_text}
use Rattle.time_texts.specs.declared.moment.Moment.{Moment}
use Rattle.time_texts.specs.declared.timestamp.Utc.{Utc}

-- the last number up to a limit at which rising values are at most x
unfoldable pub last_within : (ℕ → ℕ) → ℕ → ℕ → ℕ
last_within f zero x = zero
last_within f (suc n) x = if nat_le (f (suc n)) x then suc n else last_within f n x

-- how many years from -10000 on begin at or before the day with so many days before it, but for the first
abbrev pub year_index : ℕ → ℕ
year_index count = last_within days_of_years 19_999 count

-- how many months of a year begin at or before the day with so many days of the year before it, but for the first
abbrev pub month_index : ℕ → ℕ → ℕ
month_index year rest = last_within (days_of_months (pos year)) 11 rest

-- the time of a day and a clock, where so many days lie between 1 January of the year -10000 and the day
abbrev pub utc_at_count : ℕ → ℕ → Utc
utc_at_count count clock =
    let year = year_index count - 10_000 in
    let rest = count - days_of_years (year_index count) in
    record {
      year = year;
      month = month_index year rest + 1;
      day = rest - days_of_months (pos year) (month_index year rest) + 1;
      clock = clock;
    }

-- the time in UTC of so many seconds from 0001-01-01T00:00:00Z, a day with 3,652,791 days before it
abbrev pub utc_after : ℕ → Utc
utc_after seconds = utc_at_count (seconds / 86_400 + 3_652_791) (seconds % 86_400)

-- the text that is written for an instant
abbrev pub timestamp_text : Moment → List ℕ
timestamp_text m = utc_text (utc_after (unsigned_abs (m.seconds +ℤ pos 62_135_596_800))) (unsigned_abs m.nanos)
