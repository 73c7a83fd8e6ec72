-- How a text is written as a JSON string: an escape stands only where the grammar wants one.
use Rattle.std.specs.Prelude.{ℕ, Bool, ◌/◌, ◌%◌, List, [], ◌∷◌, ◌++◌, if◌then◌else◌, nat_lt, ◌==◌, ◌||◌}
use Rattle.std.specs.List.{flat_map}
use Rattle.std.specs.Char.{digit_char}

-- a control character: by its letter, else by `\u00` and two lower-case hexadecimal digits
abbrev pub control_escape : ℕ → List ℕ
control_escape b =
    if b == 8 then 92 ∷ 98 ∷ []
    else (if b == 9 then 92 ∷ 116 ∷ []
    else (if b == 10 then 92 ∷ 110 ∷ []
    else (if b == 12 then 92 ∷ 102 ∷ []
    else (if b == 13 then 92 ∷ 114 ∷ []
    else 92 ∷ 117 ∷ 48 ∷ 48 ∷ digit_char (b / 16) ∷ digit_char (b % 16) ∷ []))))

-- a byte that must be escaped, as it is written
abbrev pub escape_of : ℕ → List ℕ
escape_of b = if b == 34 || b == 92 then 92 ∷ b ∷ [] else control_escape b

-- control characters, the quotation mark and the reverse solidus must be escaped, and nothing else
abbrev pub must_escape : ℕ → Bool
must_escape b = nat_lt b 32 || (b == 34 || b == 92)

-- one byte of a text
abbrev pub escaped_byte : ℕ → List ℕ
escaped_byte b = if must_escape b then escape_of b else b ∷ []

-- a text between the quotation marks of a string
abbrev pub escaped : List ℕ → List ℕ
escaped text = flat_map escaped_byte text

-- a text as a string
abbrev pub json_string : List ℕ → List ℕ
json_string text = 34 ∷ (escaped text ++ 34 ∷ [])
