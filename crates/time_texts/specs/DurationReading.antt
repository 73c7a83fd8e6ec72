-- What is read of a duration's text, as one computes it.
use Rattle.std.specs.Prelude.{ℕ, List, if◌then◌else◌, nat_le, Result, Ok, Err}
use Rattle.std.specs.Str.Parse.{digits_value}
use Rattle.time_texts.specs.DurationTexts.{DurationParts, duration_moment}
use Rattle.time_texts.specs.DurationCut.{cut_duration, are_cut_parts}
use Rattle.time_texts.specs.declared.moment.Moment.{Moment}
use Rattle.time_texts.specs.declared.fault.TimeFault.{TimeFault}
use Rattle.time_texts.specs.declared.fault.TimeFault.TheVariants.{BadText, OutOfRange}

-- the duration of parts, where its seconds are not too many
abbrev pub ranged_duration : DurationParts → Result Moment TimeFault
ranged_duration p = if nat_le (digits_value 10 p.whole) 315_576_000_000 then Ok (duration_moment p) else Err OutOfRange

-- what is read of a text
abbrev pub duration_reading : List ℕ → Result Moment TimeFault
duration_reading text =
    if are_cut_parts (cut_duration text) then ranged_duration (cut_duration text) else Err BadText
