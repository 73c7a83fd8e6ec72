-- The one way to cut a text into the parts of a timestamp: the numbers stand at fixed places up to the seconds.
use Rattle.std.specs.Prelude.{◌==◌, ◌&&◌, ◌||◌, ◌<◌, ℕ, Bool, List, length, take, drop, slice_index, if◌then◌else◌, nat_le, codes, Option, Some, None}
use Rattle.std.specs.Str.{bytes_eq}
use Rattle.time_texts.specs.Fractions.{is_fraction, fraction_len}
use Rattle.time_texts.specs.TimestampTexts.{OffsetParts, TimestampParts, civil_of}
use Rattle.time_texts.specs.declared.civil.Civil.{Civil}
use Rattle.time_texts.specs.Digits.{are_all_digits}

-- so many bytes from a place on
abbrev pub part_at : List ℕ → ℕ → ℕ → List ℕ
part_at text from len = take len (drop from text)

-- the marks between the numbers of date and clock stand where they do
abbrev pub has_marks : List ℕ → Bool
has_marks text =
    slice_index text 4 == 45 && (slice_index text 7 == 45
    && (slice_index text 10 == 84 && (slice_index text 13 == 58 && slice_index text 16 == 58)))

-- the numbers of the date are digits
abbrev pub has_date_digits : List ℕ → Bool
has_date_digits text =
    are_all_digits (part_at text 0 4)
    && (are_all_digits (part_at text 5 2) && are_all_digits (part_at text 8 2))

-- the numbers of the clock are digits
abbrev pub has_clock_digits : List ℕ → Bool
has_clock_digits text =
    are_all_digits (part_at text 11 2)
    && (are_all_digits (part_at text 14 2) && are_all_digits (part_at text 17 2))

-- a text begins as a date and a clock do
abbrev pub has_front : List ℕ → Bool
has_front text = nat_le 19 (length text) && (has_marks text && (has_date_digits text && has_clock_digits text))

-- a text is a number of hours and minutes with a sign
abbrev pub is_offset : List ℕ → Bool
is_offset z =
    length z == 6 && ((slice_index z 0 == 43 || slice_index z 0 == 45)
    && (slice_index z 3 == 58 && (are_all_digits (part_at z 1 2) && are_all_digits (part_at z 4 2))))

-- a text is a zone
abbrev pub is_zone : List ℕ → Bool
is_zone z = bytes_eq z (codes "Z") || is_offset z

-- the parts of a zone
abbrev pub cut_zone : List ℕ → Option OffsetParts
cut_zone z =
    if bytes_eq z (codes "Z") then None
    else Some (record { sign = slice_index z 0; hours = part_at z 1 2; minutes = part_at z 4 2 })

-- the parts of date and clock, with a fraction and a zone
abbrev pub cut_front : List ℕ → List ℕ → List ℕ → TimestampParts
cut_front text fraction zone = record {
  year = part_at text 0 4;
  month = part_at text 5 2;
  day = part_at text 8 2;
  hour = part_at text 11 2;
  minute = part_at text 14 2;
  second = part_at text 17 2;
  fraction = fraction;
  zone = cut_zone zone;
}

-- the fraction of what stands behind the seconds, and the rest
abbrev pub fraction_behind : List ℕ → List ℕ
fraction_behind s = take (fraction_len s) s

-- the rest of it: the zone
abbrev pub zone_behind : List ℕ → List ℕ
zone_behind s = drop (fraction_len s) s

-- the parts of a text
abbrev pub cut_timestamp : List ℕ → TimestampParts
cut_timestamp text = cut_front text (fraction_behind (drop 19 text)) (zone_behind (drop 19 text))

-- a text is of a timestamp's form
abbrev pub has_form : List ℕ → Bool
has_form text =
    has_front text && (is_fraction (fraction_behind (drop 19 text)) && is_zone (zone_behind (drop 19 text)))

-- the numbers of a text, where it is of that form
abbrev pub civil_in : List ℕ → Option Civil
civil_in text = if has_form text then Some (civil_of (cut_timestamp text)) else None

-- the numbers are small, as they have few digits
pub record IsSmallCivil (c : Civil) : Type 0 where
  pub year : c.year < 10_000
  pub month : c.month < 100
  pub day : c.day < 100
  pub hour : c.hour < 100
  pub minute : c.minute < 100
  pub second : c.second < 100
  pub nanos : c.nanos < 1_000_000_000
  pub zone_hours : c.zone.hours < 100
  pub zone_minutes : c.zone.minutes < 100
