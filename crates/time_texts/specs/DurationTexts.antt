-- The text of a google.protobuf.Duration (the ProtoJSON guide, Duration; duration.proto, JSON Mapping).
use Rattle.std.specs.Prelude.{◌≡◌, ◌==◌, ◌&&◌, ◌||◌, ◌≤◌, ◌<◌, ℕ, Bool, true, not, List, [], ◌∷◌, ◌++◌, length, if◌then◌else◌, codes, ℤ, pos, unsigned_abs, ◌<ℤ◌, ◌≤ℤ◌, decimal, Result, Ok, Err}
use Rattle.std.specs.Int.{is_negative}
use Rattle.std.specs.Str.{bytes_eq}
use Rattle.std.specs.Str.Parse.{digits_value}
use Rattle.jiff_core.specs.Sign.{signed}
use Rattle.time_texts.specs.Digits.{are_some_digits}
use Rattle.time_texts.specs.Fractions.{is_fraction, nanos_of, fraction_text}
use Rattle.time_texts.specs.declared.moment.Moment.{Moment}
use Rattle.time_texts.specs.declared.fault.TimeFault.{TimeFault}
use Rattle.time_texts.specs.declared.fault.TimeFault.TheVariants.{BadText, OutOfRange}

-- what a duration's text is made of: a minus or nothing, the seconds, a fraction or nothing, and the unit
pub record DurationParts : Type 0 where
  pub minus : List ℕ
  pub whole : List ℕ
  pub fraction : List ℕ
  pub unit : List ℕ

-- the text of the parts
abbrev pub duration_parts_text : DurationParts → List ℕ
duration_parts_text p = p.minus ++ (p.whole ++ (p.fraction ++ p.unit))

-- a minus, or nothing
abbrev pub is_minus : List ℕ → Bool
is_minus [] = true
is_minus (b ∷ s) = bytes_eq (b ∷ s) (codes "-")

-- the parts are a duration's
abbrev pub are_duration_parts : DurationParts → Bool
are_duration_parts p =
    is_minus p.minus && (are_some_digits p.whole && (is_fraction p.fraction && bytes_eq p.unit (codes "s")))

-- the seconds and the billionths of the parts, both with the sign
abbrev pub duration_moment : DurationParts → Moment
duration_moment p = record {
  seconds = signed (not (length p.minus == 0)) (digits_value 10 p.whole);
  nanos = signed (not (length p.minus == 0)) (nanos_of p.fraction);
}

-- a text is a duration's, of these parts
pub record IsDurationText (text : List ℕ) (parts : DurationParts) : Type 0 where
  pub text_is : text ≡ duration_parts_text parts
  pub allowed : are_duration_parts parts ≡ true

-- the seconds of a duration are in range: within 315,576,000,000 either way
abbrev pub IsDurationSeconds : ℤ → Type 0
IsDurationSeconds s = unsigned_abs s ≤ 315_576_000_000

-- a text means a duration whose seconds are in range
pub record MeansDuration (text : List ℕ) (moment : Moment) : Type 0 where
  pub parts : DurationParts
  pub written : IsDurationText text parts
  pub in_range : IsDurationSeconds moment.seconds
  pub moment_is : moment ≡ duration_moment parts

-- what is read of a text: the duration that it means; BadText where it is no duration's; OutOfRange where it is one's
-- whose seconds are out of range
abbrev pub IsDurationReading : List ℕ → Result Moment TimeFault → Type 0
IsDurationReading text (Ok moment) = MeansDuration text moment
IsDurationReading text (Err BadText) = (parts : DurationParts) → IsDurationText text parts → ⊥
IsDurationReading text (Err OutOfRange) =
    (parts : DurationParts) × IsDurationText text parts × (315_576_000_000 < digits_value 10 parts.whole)

-- a duration has a text: both parts are in range, and their signs do not differ
pub record IsPrintableDuration (moment : Moment) : Type 0 where
  pub seconds : IsDurationSeconds moment.seconds
  pub nanos : unsigned_abs moment.nanos < 1_000_000_000
  pub positive : pos 0 <ℤ moment.seconds → pos 0 ≤ℤ moment.nanos
  pub negative : moment.seconds <ℤ pos 0 → moment.nanos ≤ℤ pos 0

-- the text of a sign, seconds and billionths
abbrev pub signed_text : Bool → ℕ → ℕ → List ℕ
signed_text negative seconds nanos =
    (if negative then codes "-" else []) ++ (decimal seconds ++ (fraction_text nanos ++ codes "s"))

-- the text that is written for a duration: a minus where a part is negative, and the sizes of the parts
abbrev pub duration_text : Moment → List ℕ
duration_text m =
    signed_text (is_negative m.seconds || is_negative m.nanos) (unsigned_abs m.seconds) (unsigned_abs m.nanos)
