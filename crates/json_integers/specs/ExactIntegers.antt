-- The exact integer that the text of a JSON number is (RFC 8259, section 6): a number is a fraction, whose lower part
-- is a power of ten.
use Rattle.std.specs.Prelude.{◌==◌, ◌*◌, ◌^◌, ◌%◌, ◌/◌, ℕ, ℤ, List, length, Option, Some, None, if◌then◌else◌}
use Rattle.json_events.specs.JsonNumbers.{NumberParts, significand, fraction_digits, multiplier, divisor, exponent_value, with_minus}
use Rattle.json_integers.specs.NumberCut.{are_parts, cut_number}

-- the integer of a fraction with a sign; none where it is not whole
abbrev pub quotient_of : List ℕ → ℕ → ℕ → Option ℤ
quotient_of minus upper lower = if upper % lower == 0 then Some (with_minus minus (upper / lower)) else None

-- the integer of a number's parts: the digits with the power of ten above, and with that of the places behind the point
-- below; none where it is not whole
abbrev pub exact_of : NumberParts → Option ℤ
exact_of p =
    quotient_of p.minus (significand p * multiplier (exponent_value p.exponent))
    (10 ^ length (fraction_digits p) * divisor (exponent_value p.exponent))

-- the integer that a text is, exactly; none where it is no number, or a number that is no integer
abbrev pub exact_integer : List ℕ → Option ℤ
exact_integer text = if are_parts (cut_number text) then exact_of (cut_number text) else None
