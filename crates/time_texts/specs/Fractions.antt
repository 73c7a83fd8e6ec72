-- Fractions of a second, in billionths (RFC 3339, section 5.6, time-secfrac; the ProtoJSON guide, Timestamp, Duration).
use Rattle.std.specs.Prelude.{◌==◌, ◌&&◌, ◌*◌, ◌-◌, ◌/◌, ◌%◌, ◌^◌, ℕ, suc, Bool, true, not, List, [], ◌∷◌, length, drop, if◌then◌else◌, nat_le}
use Rattle.std.specs.List.{prefix_len}
use Rattle.std.specs.Char.{is_ascii_digit}
use Rattle.std.specs.Str.Parse.{digits_value}
use Rattle.time_texts.specs.Digits.{are_all_digits, padded}

-- a fraction: nothing, or a point and one to nine digits
abbrev pub is_fraction : List ℕ → Bool
is_fraction [] = true
is_fraction (b ∷ ds) = (b == 46) && (not (length ds == 0) && (nat_le (length ds) 9 && are_all_digits ds))

-- the length of a point and the digits behind it at the front
abbrev pub fraction_len : List ℕ → ℕ
fraction_len [] = 0
fraction_len (b ∷ s) = if b == 46 then suc (prefix_len is_ascii_digit s) else 0

-- the billionths that a fraction is: the first digit behind the point counts tenths
abbrev pub nanos_of : List ℕ → ℕ
nanos_of fraction = digits_value 10 (drop 1 fraction) * 10 ^ (9 - length (drop 1 fraction))

-- the fraction that is written for billionths: in 0, 3, 6 or 9 digits, as few as tell it whole
abbrev pub fraction_text : ℕ → List ℕ
fraction_text n =
    if n == 0 then []
    else (if n % 1_000_000 == 0 then 46 ∷ padded 3 (n / 1_000_000)
    else (if n % 1_000 == 0 then 46 ∷ padded 6 (n / 1_000)
    else 46 ∷ padded 9 n))
