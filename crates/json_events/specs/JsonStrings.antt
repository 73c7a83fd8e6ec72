-- JSON strings (RFC 8259, section 7) in UTF-8 (section 8.1): a string is a list of characters of
-- Unicode between quotation marks, of which each is spelled as it is or by an escape.
use Rattle.std.specs.Prelude.{◌≡◌, ◌≢◌, ℕ, ◌+◌, ◌-◌, ◌*◌, ◌≤◌, List, [], ◌∷◌, ◌++◌, length, map, Bool, true, false, Option, Some, None, if◌then◌else◌, nat_le, ◌==◌, ◌&&◌}
use Rattle.std.specs.List.{flat_map, AllByRecursion}
use Rattle.std.specs.Char.{encode_utf8, IsScalar}
use Rattle.std.specs.Str.{encode_utf8_all}
use Rattle.std.specs.Str.Parse.{digits_value, AllDigits}

-- a character that may stand for itself: each but the quotation mark, the reverse solidus and the
-- control characters U+0000 to U+001F
pub record IsUnescaped (character : ℕ) : Type 0 where
  pub scalar : IsScalar character
  pub no_control : 32 ≤ character
  pub no_quotation_mark : character ≢ 34
  pub no_reverse_solidus : character ≢ 92

-- the character for which a letter behind a reverse solidus stands: `"`, `\`, `/`, and b, f, n, r and t
-- for backspace, form feed, line feed, carriage return and tab
abbrev pub escaped_character : ℕ → Option ℕ
escaped_character letter =
    if letter == 34 then Some 34
    else (if letter == 92 then Some 92
    else (if letter == 47 then Some 47
    else (if letter == 98 then Some 8
    else (if letter == 102 then Some 12
    else (if letter == 110 then Some 10
    else (if letter == 114 then Some 13
    else (if letter == 116 then Some 9
    else None)))))))

-- four hexadecimal digits, of either case
abbrev pub IsHex4 : List ℕ → Type 0
IsHex4 digits = (length digits ≡ 4) × AllDigits 16 digits

-- the first half of a surrogate pair
abbrev pub is_high_surrogate : ℕ → Bool
is_high_surrogate unit = nat_le 55296 unit && nat_le unit 56319

-- the second half of a surrogate pair
abbrev pub is_low_surrogate : ℕ → Bool
is_low_surrogate unit = nat_le 56320 unit && nat_le unit 57343

-- the character of a surrogate pair
abbrev pub paired : ℕ → ℕ → ℕ
paired high low = 65536 + (high - 55296) * 1024 + (low - 56320)

-- a character as it is spelled: as it is, by a letter behind a reverse solidus, by `\u` and four
-- digits, or by two such escapes that are a surrogate pair
pub data Spelling : Type 0 where
  unescaped : (character : ℕ) → Spelling
  short_escape : (letter character : ℕ) → Spelling
  unicode_escape : (digits : List ℕ) → Spelling
  surrogate_escapes : (high low : List ℕ) → Spelling

-- the bytes of a spelling
abbrev pub spelled : Spelling → List ℕ
spelled (unescaped c) = encode_utf8 c
spelled (short_escape letter c) = 92 ∷ letter ∷ []
spelled (unicode_escape digits) = 92 ∷ 117 ∷ digits
spelled (surrogate_escapes high low) = 92 ∷ 117 ∷ (high ++ 92 ∷ 117 ∷ low)

-- the character that is spelled
abbrev pub character_of : Spelling → ℕ
character_of (unescaped c) = c
character_of (short_escape letter c) = c
character_of (unicode_escape digits) = digits_value 16 digits
character_of (surrogate_escapes high low) = paired (digits_value 16 high) (digits_value 16 low)

-- the grammar allows the spelling; half of a surrogate pair stands for no character
abbrev pub IsSpelling : Spelling → Type 0
IsSpelling (unescaped c) = IsUnescaped c
IsSpelling (short_escape letter c) = escaped_character letter ≡ Some c
IsSpelling (unicode_escape digits) = IsHex4 digits × (is_high_surrogate (digits_value 16 digits) ≡ false) × (is_low_surrogate (digits_value 16 digits) ≡ false)
IsSpelling (surrogate_escapes high low) = IsHex4 high × IsHex4 low × (is_high_surrogate (digits_value 16 high) ≡ true) × (is_low_surrogate (digits_value 16 low) ≡ true)

-- the bytes spell the text's characters, without quotation marks around them
pub record AreCharacters (text bytes : List ℕ) : Type 0 where
  pub spellings : List Spelling
  pub allowed : AllByRecursion IsSpelling spellings
  pub bytes_are : bytes ≡ flat_map spelled spellings
  pub text_is : text ≡ encode_utf8_all (map character_of spellings)

-- the bytes are a JSON string that stands for the text
pub record IsString (text bytes : List ℕ) : Type 0 where
  pub inner : List ℕ
  pub quoted : bytes ≡ 34 ∷ (inner ++ 34 ∷ [])
  pub characters : AreCharacters text inner
