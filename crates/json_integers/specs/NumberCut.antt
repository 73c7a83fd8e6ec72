-- The one way to cut a text into the parts of a number, and tests of the parts.
use Rattle.std.specs.Prelude.{◌==◌, ◌&&◌, ◌||◌, ℕ, suc, Bool, true, false, List, [], ◌∷◌, length, take, drop, if◌then◌else◌, not}
use Rattle.json_events.specs.JsonNumbers.{NumberParts}
use Rattle.json_events.specs.WordSteps.{is_digit, is_e, is_sign}

-- how many digits stand at the front
abbrev pub digits_len : List ℕ → ℕ
digits_len [] = 0
digits_len (b ∷ s) = if is_digit b then suc (digits_len s) else 0

-- the length of a minus at the front
abbrev pub minus_len : List ℕ → ℕ
minus_len [] = 0
minus_len (b ∷ s) = if b == 45 then 1 else 0

-- the length of a point at the front, with the digits behind it
abbrev pub fraction_len : List ℕ → ℕ
fraction_len [] = 0
fraction_len (b ∷ s) = if b == 46 then suc (digits_len s) else 0

-- the length of a plus or a minus at the front
abbrev pub sign_len : List ℕ → ℕ
sign_len [] = 0
sign_len (b ∷ s) = if is_sign b then 1 else 0

-- the parts of what stands behind an integer part
abbrev pub cut_behind : List ℕ → List ℕ → List ℕ → NumberParts
cut_behind minus int s = record {
  minus = minus;
  int = int;
  fraction = take (fraction_len s) s;
  exponent = drop (fraction_len s) s;
}

-- the parts of a number without a minus
abbrev pub cut_unsigned : List ℕ → List ℕ → NumberParts
cut_unsigned minus s = cut_behind minus (take (digits_len s) s) (drop (digits_len s) s)

-- the parts of a text; what is no part of a number is left in the exponent
abbrev pub cut_number : List ℕ → NumberParts
cut_number s = cut_unsigned (take (minus_len s) s) (drop (minus_len s) s)

-- digits are an integer part
abbrev pub is_int : List ℕ → Bool
is_int [] = false
is_int (d ∷ ds) = length ds == 0 || not (d == 48)

-- one digit or more, and nothing else
abbrev pub are_some_digits : List ℕ → Bool
are_some_digits s = not (length s == 0) && (digits_len s == length s)

-- the list is an exponent
abbrev pub is_exponent : List ℕ → Bool
is_exponent [] = true
is_exponent (e ∷ power) = is_e e && are_some_digits (drop (sign_len power) power)

-- the parts of a text are those of a number
abbrev pub are_parts : NumberParts → Bool
are_parts p = is_int p.int && (not (length p.fraction == 1) && is_exponent p.exponent)
