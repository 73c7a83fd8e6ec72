-- Decimal digits (RFC 5234, appendix B.1, DIGIT).
use Rattle.std.specs.Prelude.{◌==◌, ◌&&◌, ◌+◌, ◌/◌, ◌%◌, ℕ, zero, suc, Bool, not, List, [], ◌∷◌, ◌++◌, length}
use Rattle.std.specs.List.{list_all}
use Rattle.std.specs.Char.{is_ascii_digit}

-- each byte is a digit
abbrev pub are_all_digits : List ℕ → Bool
are_all_digits ds = list_all is_ascii_digit ds

-- one digit or more, and nothing else
abbrev pub are_some_digits : List ℕ → Bool
are_some_digits ds = not (length ds == 0) && are_all_digits ds

-- so many digits, and nothing else
abbrev pub are_digits : ℕ → List ℕ → Bool
are_digits n ds = (length ds == n) && are_all_digits ds

-- a number in so many digits, with zeros in front
abbrev pub padded : ℕ → ℕ → List ℕ
padded zero n = []
padded (suc k) n = padded k (n / 10) ++ (48 + n % 10) ∷ []
