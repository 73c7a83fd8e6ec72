-- Whether a duration and an instant have a text, as one computes it.
use Rattle.std.specs.Prelude.{◌&&◌, ◌||◌, Bool, nat_le, nat_lt, pos, unsigned_abs, int_le}
use Rattle.time_texts.specs.TimestampReading.{are_timestamp_seconds}
use Rattle.time_texts.specs.declared.moment.Moment.{Moment}

-- the signs of the parts do not differ
abbrev pub are_signs_alike : Moment → Bool
are_signs_alike m =
    (int_le m.seconds (pos 0) || int_le (pos 0) m.nanos) && (int_le (pos 0) m.seconds || int_le m.nanos (pos 0))

-- a duration has a text
abbrev pub is_printable_duration : Moment → Bool
is_printable_duration m =
    nat_le (unsigned_abs m.seconds) 315_576_000_000
    && (nat_lt (unsigned_abs m.nanos) 1_000_000_000 && are_signs_alike m)

-- an instant has a text
abbrev pub is_printable_timestamp : Moment → Bool
is_printable_timestamp m =
    are_timestamp_seconds m.seconds && (int_le (pos 0) m.nanos && int_le m.nanos (pos 999_999_999))
