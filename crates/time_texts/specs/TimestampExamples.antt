-- Worked texts of timestamps (RFC 3339, sections 5.6 and 5.8), and what they say.
use Rattle.std.specs.Prelude.{pos, negsuc, codes, Ok, Err}
use Rattle.time_texts.specs.TimestampTexts.{IsTimestampReading}
use Rattle.time_texts.specs.declared.fault.TimeFault.TheVariants.{BadText, OutOfRange}

-- instants that texts say
pub record TimestampExamplesHold : Type 0 where
  pub epoch : IsTimestampReading (codes "1970-01-01T00:00:00Z") (Ok (record { seconds = pos 0; nanos = pos 0 }))
  pub before : IsTimestampReading (codes "1969-12-31T23:59:59.25Z")
      (Ok (record { seconds = negsuc 0; nanos = pos 250_000_000 }))
  pub first : IsTimestampReading (codes "0001-01-01T00:00:00Z")
      (Ok (record { seconds = negsuc 62_135_596_799; nanos = pos 0 }))
  pub last : IsTimestampReading (codes "9999-12-31T23:59:59.999999999Z")
      (Ok (record { seconds = pos 253_402_300_799; nanos = pos 999_999_999 }))
  pub first_ahead : IsTimestampReading (codes "0001-01-01T23:59:00+23:59")
      (Ok (record { seconds = negsuc 62_135_596_799; nanos = pos 0 }))
  pub last_behind : IsTimestampReading (codes "9999-12-31T00:00:59-23:59")
      (Ok (record { seconds = pos 253_402_300_799; nanos = pos 0 }))
  pub leap_2000 : IsTimestampReading (codes "2000-02-29T00:00:00Z")
      (Ok (record { seconds = pos 951_782_400; nanos = pos 0 }))
  pub leap_2024 : IsTimestampReading (codes "2024-02-29T12:00:00+01:30")
      (Ok (record { seconds = pos 1_709_202_600; nanos = pos 0 }))

-- times that are out of range: before the first instant or past the last, and in the year 0000, whatever the zone
pub record FarTimestampsHold : Type 0 where
  pub before_first : IsTimestampReading (codes "0001-01-01T00:00:00+00:01") (Err OutOfRange)
  pub past_last : IsTimestampReading (codes "9999-12-31T23:59:59-00:01") (Err OutOfRange)
  pub year_0000 : IsTimestampReading (codes "0000-12-31T23:59:59-00:01") (Err OutOfRange)

-- texts that are no timestamp's
pub record BadTimestampsHold : Type 0 where
  pub nothing : IsTimestampReading (codes "") (Err BadText)
  pub leap_1900 : IsTimestampReading (codes "1900-02-29T00:00:00Z") (Err BadText)
  pub leap_2023 : IsTimestampReading (codes "2023-02-29T00:00:00Z") (Err BadText)
  pub month_13 : IsTimestampReading (codes "2023-13-01T00:00:00Z") (Err BadText)
  pub day_0 : IsTimestampReading (codes "2023-01-00T00:00:00Z") (Err BadText)
  pub unreal_day_of_0000 : IsTimestampReading (codes "0000-02-30T00:00:00Z") (Err BadText)
  pub hour_24 : IsTimestampReading (codes "2023-01-01T24:00:00Z") (Err BadText)
  pub second_60 : IsTimestampReading (codes "2016-12-31T23:59:60Z") (Err BadText)
  pub zone_24 : IsTimestampReading (codes "2023-01-01T00:00:00+24:00") (Err BadText)
  pub zone_minute_60 : IsTimestampReading (codes "2023-01-01T00:00:00+00:60") (Err BadText)
  pub ten_digits : IsTimestampReading (codes "2023-01-01T00:00:00.0000000000Z") (Err BadText)
  pub no_fraction : IsTimestampReading (codes "2023-01-01T00:00:00.Z") (Err BadText)
  pub no_zone : IsTimestampReading (codes "2023-01-01T00:00:00") (Err BadText)
  pub small_t : IsTimestampReading (codes "2023-01-01t00:00:00Z") (Err BadText)
  pub small_z : IsTimestampReading (codes "2023-01-01T00:00:00z") (Err BadText)
  pub five_digits_of_a_year : IsTimestampReading (codes "12023-01-01T00:00:00Z") (Err BadText)
  pub byte_behind : IsTimestampReading (codes "2023-01-01T00:00:00Z ") (Err BadText)
