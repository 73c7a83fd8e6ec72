-- The one way to cut a text into the parts of a duration.
use Rattle.std.specs.Prelude.{◌==◌, ◌&&◌, ℕ, Bool, List, [], ◌∷◌, take, drop, if◌then◌else◌, codes}
use Rattle.std.specs.List.{prefix_len}
use Rattle.std.specs.Char.{is_ascii_digit}
use Rattle.std.specs.Str.{bytes_eq}
use Rattle.time_texts.specs.Digits.{are_some_digits}
use Rattle.time_texts.specs.Fractions.{is_fraction, fraction_len}
use Rattle.time_texts.specs.DurationTexts.{DurationParts}

-- the length of a minus at the front
abbrev pub minus_len : List ℕ → ℕ
minus_len [] = 0
minus_len (b ∷ s) = if b == 45 then 1 else 0

-- the parts of what stands behind the seconds
abbrev pub cut_behind : List ℕ → List ℕ → List ℕ → DurationParts
cut_behind minus whole s = record {
  minus = minus;
  whole = whole;
  fraction = take (fraction_len s) s;
  unit = drop (fraction_len s) s;
}

-- the parts of a duration without a minus
abbrev pub cut_unsigned : List ℕ → List ℕ → DurationParts
cut_unsigned minus s = cut_behind minus (take (prefix_len is_ascii_digit s) s) (drop (prefix_len is_ascii_digit s) s)

-- the parts of a text; what is no part of a duration is left in the unit
abbrev pub cut_duration : List ℕ → DurationParts
cut_duration s = cut_unsigned (take (minus_len s) s) (drop (minus_len s) s)

-- the parts of a text that was cut are a duration's: a minus is there by the cut, or none
abbrev pub are_cut_parts : DurationParts → Bool
are_cut_parts p = are_some_digits p.whole && (is_fraction p.fraction && bytes_eq p.unit (codes "s"))
