-- Which integer the text of a JSON number is (RFC 8259, section 6), or why it is none that is told.
use Rattle.std.specs.Prelude.{◌<◌, ◌^◌, ℕ, ℤ, List, nat_abs}
use Rattle.json_events.specs.JsonNumbers.{IsNumber, DenotesInteger}
use Rattle.json_integers.specs.declared.integer_text.IntegerText.{IntegerText}
use Rattle.json_integers.specs.declared.integer_text.IntegerText.TheVariants.{NotANumber, NotAnInteger, PastRange, Integer}

-- the integers that are told: those of a magnitude in 64 bits, with either sign
abbrev pub IsTold : ℤ → Type 0
IsTold z = nat_abs z < 2 ^ 64

-- what a text is: no number; a number that is no integer; an integer that is not told; or an integer that is
abbrev pub IsIntegerText : List ℕ → IntegerText → Type 0
IsIntegerText text NotANumber = IsNumber text → ⊥
IsIntegerText text NotAnInteger = IsNumber text × ((z : ℤ) → DenotesInteger z text → ⊥)
IsIntegerText text PastRange = (z : ℤ) × DenotesInteger z text × (IsTold z → ⊥)
IsIntegerText text (Integer z) = DenotesInteger z text × IsTold z
