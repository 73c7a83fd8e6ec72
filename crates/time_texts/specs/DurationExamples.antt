-- Worked texts of durations (the ProtoJSON guide, Duration), and what they say.
use Rattle.std.specs.Prelude.{◌≡◌, pos, negsuc, codes, Ok, Err}
use Rattle.time_texts.specs.DurationTexts.{IsDurationReading, duration_text}
use Rattle.time_texts.specs.declared.fault.TimeFault.TheVariants.{BadText, OutOfRange}

-- durations that texts say
pub record DurationExamplesHold : Type 0 where
  pub one_and_a_half : IsDurationReading (codes "1.5s") (Ok (record { seconds = pos 1; nanos = pos 500_000_000 }))
  pub minus_a_half : IsDurationReading (codes "-0.5s") (Ok (record { seconds = pos 0; nanos = negsuc 499_999_999 }))
  pub minus_zero : IsDurationReading (codes "-0s") (Ok (record { seconds = pos 0; nanos = pos 0 }))
  pub zeros_in_front : IsDurationReading (codes "0007.000000001s") (Ok (record { seconds = pos 7; nanos = pos 1 }))
  pub most : IsDurationReading (codes "315576000000.000000000s")
      (Ok (record { seconds = pos 315_576_000_000; nanos = pos 0 }))
  pub billionth_past : IsDurationReading (codes "315576000000.000000001s")
      (Ok (record { seconds = pos 315_576_000_000; nanos = pos 1 }))
  pub least : IsDurationReading (codes "-315576000000.999999999s")
      (Ok (record { seconds = negsuc 315_575_999_999; nanos = negsuc 999_999_998 }))
  pub too_many : IsDurationReading (codes "315576000001s") (Err OutOfRange)
  pub far_too_many : IsDurationReading (codes "-99999999999999999999999999.5s") (Err OutOfRange)
  pub nothing : IsDurationReading (codes "") (Err BadText)
  pub no_unit : IsDurationReading (codes "1") (Err BadText)
  pub no_seconds : IsDurationReading (codes ".5s") (Err BadText)
  pub no_fraction : IsDurationReading (codes "1.s") (Err BadText)
  pub ten_digits : IsDurationReading (codes "1.0000000000s") (Err BadText)
  pub plus : IsDurationReading (codes "+1s") (Err BadText)
  pub two_minuses : IsDurationReading (codes "--1s") (Err BadText)
  pub space : IsDurationReading (codes "1 s") (Err BadText)
  pub byte_behind : IsDurationReading (codes "1s ") (Err BadText)
  pub other_unit : IsDurationReading (codes "1m") (Err BadText)

-- texts that are written
pub record ShownDurationsHold : Type 0 where
  pub whole : duration_text (record { seconds = pos 1; nanos = pos 0 }) ≡ codes "1s"
  pub milliseconds : duration_text (record { seconds = pos 1; nanos = pos 500_000_000 }) ≡ codes "1.500s"
  pub microseconds : duration_text (record { seconds = pos 0; nanos = negsuc 999 }) ≡ codes "-0.000001s"
  pub nanoseconds : duration_text (record { seconds = negsuc 2; nanos = negsuc 0 }) ≡ codes "-3.000000001s"
  pub zero : duration_text (record { seconds = pos 0; nanos = pos 0 }) ≡ codes "0s"
