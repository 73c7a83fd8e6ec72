-- The magnitude of a number in so many bits, without a power of ten: digits are dropped, or zeros added.
use Rattle.std.specs.Prelude.{◌==◌, ◌^◌, ◌+◌, ◌-◌, ◌*◌, ℕ, Bool, false, List, [], ◌∷◌, ◌++◌, length, take, drop, min, Option, Some, None, if◌then◌else◌, nat_le, nat_lt}
use Rattle.std.specs.List.{list_all}
use Rattle.std.specs.Str.Parse.{digits_value, starts_with_minus}
use Rattle.json_events.specs.JsonNumbers.{NumberParts, fraction_digits, with_minus}
use Rattle.json_integers.specs.NumberCut.{sign_len}
use Rattle.json_integers.specs.declared.integer_text.IntegerText.{IntegerText}
use Rattle.json_integers.specs.declared.integer_text.IntegerText.TheVariants.{NotAnInteger, PastRange, Integer}
use Rattle.json_integers.specs.declared.places.Places.{Places}
use Rattle.json_integers.specs.declared.places.Places.TheVariants.{Added, Dropped}

-- a number that stands still at 2^65
abbrev pub capped : ℕ → ℕ
capped n = min n (2 ^ 65)

-- the size of an exponent
abbrev pub exponent_size : List ℕ → ℕ
exponent_size [] = 0
exponent_size (e ∷ power) = capped (digits_value 10 (drop (sign_len power) power))

-- an exponent begins with a minus
abbrev pub is_negative : List ℕ → Bool
is_negative [] = false
is_negative (e ∷ power) = starts_with_minus power

-- how many zeros are added to all digits, or how many of the digits are dropped, where so many stand behind the point
-- and this is the exponent
abbrev pub places_of : ℕ → List ℕ → Places
places_of behind exponent =
    if is_negative exponent then Dropped (behind + exponent_size exponent)
    else (if nat_le behind (exponent_size exponent) then Added (exponent_size exponent - behind)
    else Dropped (behind - exponent_size exponent))

-- the digits that stay where the last ones are dropped
abbrev pub kept : List ℕ → ℕ → List ℕ
kept ds n = take (length ds - n) ds

-- the last digits, which are dropped
abbrev pub dropped : List ℕ → ℕ → List ℕ
dropped ds n = drop (length ds - n) ds

-- each digit is 0
abbrev pub are_zeros : List ℕ → Bool
are_zeros ds = list_all (λ d. d == 48) ds

-- the magnitude of the digits with zeros added or with zeros dropped; none where another digit would be dropped
abbrev pub magnitude_of : List ℕ → List ℕ → Places → Option ℕ
magnitude_of int ds (Added n) = Some (capped (digits_value 10 (int ++ ds) * 10 ^ n))
magnitude_of int ds (Dropped n) =
    if are_zeros (dropped int (n - length ds) ++ dropped ds n)
    then Some (capped (digits_value 10 (kept int (n - length ds) ++ kept ds n))) else None

-- the answer for a magnitude
abbrev pub told : List ℕ → Option ℕ → IntegerText
told minus None = NotAnInteger
told minus (Some n) = if nat_lt n (2 ^ 64) then Integer (with_minus minus n) else PastRange

-- the answer for the parts of a number
abbrev pub parts_text : NumberParts → IntegerText
parts_text p = told p.minus (magnitude_of p.int (fraction_digits p) (places_of (length (fraction_digits p)) p.exponent))
