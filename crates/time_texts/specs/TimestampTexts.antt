-- The text of a google.protobuf.Timestamp (RFC 3339, section 5.6, date-time; timestamp.proto, JSON Mapping).
use Rattle.std.specs.Prelude.{◌≡◌, ◌==◌, ◌&&◌, ◌||◌, ◌+◌, ◌*◌, ◌/◌, ◌%◌, ◌≤◌, ◌<◌, ℕ, Bool, true, false, List, ◌∷◌, ◌++◌, Option, Some, None, codes, ℤ, pos, neg_ℤ, unsigned_abs, ◌+ℤ◌, ◌-ℤ◌, ◌*ℤ◌, ◌≤ℤ◌, Result, Ok, Err}
use Rattle.std.specs.Str.Parse.{digits_value}
use Rattle.jiff_core.specs.Calendar.{IsCivilDate, days_from_civil}
use Rattle.jiff_core.specs.Sign.{signed}
use Rattle.time_texts.specs.Digits.{are_digits, padded}
use Rattle.time_texts.specs.Fractions.{is_fraction, nanos_of, fraction_text}
use Rattle.time_texts.specs.declared.civil.Civil.{Civil}
use Rattle.time_texts.specs.declared.civil.Zone.{Zone}
use Rattle.time_texts.specs.declared.timestamp.Utc.{Utc}
use Rattle.time_texts.specs.declared.moment.Moment.{Moment}
use Rattle.time_texts.specs.declared.fault.TimeFault.{TimeFault}
use Rattle.time_texts.specs.declared.fault.TimeFault.TheVariants.{BadText, OutOfRange}

-- what a distance from UTC is made of (time-numoffset): a sign, hours and minutes
pub record OffsetParts : Type 0 where
  pub sign : ℕ
  pub hours : List ℕ
  pub minutes : List ℕ

-- what a timestamp's text is made of (date-time): the digits of its numbers, a fraction or nothing, and a zone, which
-- is UTC or a distance from it
pub record TimestampParts : Type 0 where
  pub year : List ℕ
  pub month : List ℕ
  pub day : List ℕ
  pub hour : List ℕ
  pub minute : List ℕ
  pub second : List ℕ
  pub fraction : List ℕ
  pub zone : Option OffsetParts

-- the text of a zone (time-offset): `Z`, or a distance as `+HH:MM` or `-HH:MM`
abbrev pub zone_text : Option OffsetParts → List ℕ
zone_text None = codes "Z"
zone_text (Some o) = o.sign ∷ o.hours ++ 58 ∷ o.minutes

-- the text of date and clock (full-date, partial-time): `YYYY-MM-DDTHH:MM:SS`
abbrev pub front_text : TimestampParts → List ℕ
front_text p =
    p.year ++ (45 ∷ p.month ++ (45 ∷ p.day ++ (84 ∷ p.hour ++ (58 ∷ p.minute ++ 58 ∷ p.second))))

-- the text of the parts
abbrev pub timestamp_parts_text : TimestampParts → List ℕ
timestamp_parts_text p = front_text p ++ (p.fraction ++ zone_text p.zone)

-- the numbers of a zone have two digits, and its sign is a plus or a minus
abbrev pub is_zone_form : Option OffsetParts → Bool
is_zone_form None = true
is_zone_form (Some o) = (o.sign == 43 || o.sign == 45) && (are_digits 2 o.hours && are_digits 2 o.minutes)

-- a year has four digits, and the other numbers of date and clock two
abbrev pub is_front_form : TimestampParts → Bool
is_front_form p =
    are_digits 4 p.year && (are_digits 2 p.month && (are_digits 2 p.day
    && (are_digits 2 p.hour && (are_digits 2 p.minute && are_digits 2 p.second))))

-- the parts are of a timestamp's form
abbrev pub is_timestamp_form : TimestampParts → Bool
is_timestamp_form p = is_front_form p && (is_fraction p.fraction && is_zone_form p.zone)

-- how far a zone is from UTC
abbrev pub zone_of : Option OffsetParts → Zone
zone_of None = record { is_behind = false; hours = 0; minutes = 0 }
zone_of (Some o) = record {
  is_behind = o.sign == 45;
  hours = digits_value 10 o.hours;
  minutes = digits_value 10 o.minutes;
}

-- the numbers of the parts
abbrev pub civil_of : TimestampParts → Civil
civil_of p = record {
  year = digits_value 10 p.year;
  month = digits_value 10 p.month;
  day = digits_value 10 p.day;
  hour = digits_value 10 p.hour;
  minute = digits_value 10 p.minute;
  second = digits_value 10 p.second;
  nanos = nanos_of p.fraction;
  zone = zone_of p.zone;
}

-- the clock has the time, and zones the distance from UTC (RFC 3339, section 5.7, without leap seconds)
pub record IsClock (c : Civil) : Type 0 where
  pub hour : c.hour ≤ 23
  pub minute : c.minute ≤ 59
  pub second : c.second ≤ 59
  pub zone_hours : c.zone.hours ≤ 23
  pub zone_minutes : c.zone.minutes ≤ 59

-- and the calendar has the day
pub record IsRealCivil (c : Civil) : Type 0 where
  pub date : IsCivilDate (pos c.year) c.month c.day
  pub clock : IsClock c

-- the seconds that a zone is ahead of UTC
abbrev pub zone_seconds : Zone → ℤ
zone_seconds z = signed z.is_behind (z.hours * 3600 + z.minutes * 60)

-- the seconds of the day that a clock shows
abbrev pub clock_seconds : Civil → ℕ
clock_seconds c = c.hour * 3600 + c.minute * 60 + c.second

-- the seconds from 1970-01-01T00:00:00Z to a time in a zone on a day, counted from 1970-01-01: a day has 86,400 seconds
abbrev pub seconds_at : ℤ → Civil → ℤ
seconds_at day c = day *ℤ pos 86400 +ℤ pos (clock_seconds c) -ℤ zone_seconds c.zone

-- the same, where days are counted by the calendar
abbrev pub instant : Civil → ℤ
instant c = seconds_at (days_from_civil (pos c.year) c.month c.day) c

-- the instant that the numbers say; the billionths count forward, also before 1970
abbrev pub civil_moment : Civil → Moment
civil_moment c = record { seconds = instant c; nanos = pos c.nanos }

-- a text is a timestamp's, of these parts
pub record IsTimestampText (text : List ℕ) (parts : TimestampParts) : Type 0 where
  pub text_is : text ≡ timestamp_parts_text parts
  pub form : is_timestamp_form parts ≡ true
  pub real : IsRealCivil (civil_of parts)

-- the seconds of a Timestamp are in range: from 0001-01-01T00:00:00Z to 9999-12-31T23:59:59Z
pub record IsTimestampSeconds (s : ℤ) : Type 0 where
  pub from : neg_ℤ (pos 62_135_596_800) ≤ℤ s
  pub to : s ≤ℤ pos 253_402_300_799

-- a time is in range: its year is not 0000, and its instant is in range
pub record IsTimestampRange (c : Civil) : Type 0 where
  pub year : 1 ≤ c.year
  pub seconds : IsTimestampSeconds (instant c)

-- a text means an instant that is in range
pub record MeansTimestamp (text : List ℕ) (moment : Moment) : Type 0 where
  pub parts : TimestampParts
  pub written : IsTimestampText text parts
  pub in_range : IsTimestampRange (civil_of parts)
  pub moment_is : moment ≡ civil_moment (civil_of parts)

-- what numbers say: an instant; BadText where there is no such time; OutOfRange where there is, out of range
abbrev pub IsCivilReading : Civil → Result Moment TimeFault → Type 0
IsCivilReading c (Ok moment) = IsRealCivil c × IsTimestampRange c × (moment ≡ civil_moment c)
IsCivilReading c (Err BadText) = IsRealCivil c → ⊥
IsCivilReading c (Err OutOfRange) = IsRealCivil c × (IsTimestampRange c → ⊥)

-- what is read of a text: the instant that it means; BadText where it is no timestamp's; OutOfRange where it is one's
-- that is out of range
abbrev pub IsTimestampReading : List ℕ → Result Moment TimeFault → Type 0
IsTimestampReading text (Ok moment) = MeansTimestamp text moment
IsTimestampReading text (Err BadText) = (parts : TimestampParts) → IsTimestampText text parts → ⊥
IsTimestampReading text (Err OutOfRange) =
    (parts : TimestampParts) × IsTimestampText text parts × (IsTimestampRange (civil_of parts) → ⊥)

-- an instant has a text: both parts are in range
pub record IsPrintableTimestamp (moment : Moment) : Type 0 where
  pub seconds : IsTimestampSeconds moment.seconds
  pub nanos_from : pos 0 ≤ℤ moment.nanos
  pub nanos_to : moment.nanos ≤ℤ pos 999_999_999

-- the text of a date
abbrev pub date_text : ℕ → ℕ → ℕ → List ℕ
date_text year month day = padded 4 year ++ (45 ∷ padded 2 month ++ 45 ∷ padded 2 day)

-- the text of a time of the day, in seconds
abbrev pub clock_text : ℕ → List ℕ
clock_text s = padded 2 (s / 3600) ++ (58 ∷ padded 2 (s % 3600 / 60) ++ 58 ∷ padded 2 (s % 60))

-- the text of a time in UTC and billionths: its date, its clock, the fraction, and `Z`
abbrev pub utc_text : Utc → ℕ → List ℕ
utc_text utc nanos =
    date_text utc.year utc.month utc.day ++ (84 ∷ clock_text utc.clock ++ (fraction_text nanos ++ codes "Z"))

-- a time is on the day of a number, counted from 1970-01-01 by the calendar
pub record IsDayOf (number : ℤ) (utc : Utc) : Type 0 where
  pub real : IsCivilDate (pos utc.year) utc.month utc.day
  pub number_is : days_from_civil (pos utc.year) utc.month utc.day ≡ number

-- a time is that of so many seconds from 1970-01-01T00:00:00Z
pub record IsUtcOf (seconds : ℤ) (utc : Utc) : Type 0 where
  pub real : IsCivilDate (pos utc.year) utc.month utc.day
  pub clock_in : utc.clock < 86400
  pub seconds_are : seconds ≡ days_from_civil (pos utc.year) utc.month utc.day *ℤ pos 86400 +ℤ pos utc.clock

-- a text is what is written for an instant: that of its time in UTC and its billionths
pub record IsTimestampShown (moment : Moment) (text : List ℕ) : Type 0 where
  pub utc : Utc
  pub utc_is : IsUtcOf moment.seconds utc
  pub text_is : text ≡ utc_text utc (unsigned_abs moment.nanos)

-- a list was made longer by what is written for an instant
pub record AppendsTimestamp (moment : Moment) (old new : List ℕ) : Type 0 where
  pub text : List ℕ
  pub shown : IsTimestampShown moment text
  pub appended : new ≡ old ++ text
