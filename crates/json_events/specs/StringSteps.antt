-- A JSON string as a machine that takes one byte at a time, behind its opening quotation mark. Bytes of
-- characters go by the table of well-formed byte sequences (the Unicode Standard, table 3-7).
use Rattle.std.specs.Prelude.{ℕ, zero, suc, ◌+◌, ◌*◌, List, [], ◌∷◌, ◌++◌, Bool, Option, Some, None, not, if◌then◌else◌, nat_le, nat_lt, ◌==◌, ◌&&◌, ◌||◌}
use Rattle.std.specs.Char.{digit_value, encode_utf8}
use Rattle.json_events.specs.declared.state.StringState.{StringState}
use Rattle.json_events.specs.declared.state.StringState.TheVariants.{Plain, Continuation, Escape, Hex, LowSolidus, LowU, Low, Closed}
use Rattle.json_events.specs.JsonStrings.{escaped_character, is_high_surrogate, paired}

-- the byte lies between these, both counted
abbrev pub within : ℕ → ℕ → ℕ → Bool
within low high b = nat_le low b && nat_le b high

-- the bytes of ASCII that stand for themselves
abbrev pub is_plain : ℕ → Bool
is_plain b = within 32 127 b && (not (b == 34) && not (b == 92))

-- what follows the first byte of a character: a byte within these, and so many more
pub record Lead : Type 0 where
  pub low : ℕ
  pub high : ℕ
  pub left : ℕ

-- a row of the table
abbrev pub led : ℕ → ℕ → ℕ → Option Lead
led low high n = Some (record { low = low; high = high; left = n })

-- the rows of the table, by the first byte
abbrev pub lead : ℕ → Option Lead
lead b =
    if within 194 223 b then led 128 191 0
    else (if b == 224 then led 160 191 1
    else (if b == 237 then led 128 159 1
    else (if within 225 239 b then led 128 191 1
    else (if b == 240 then led 144 191 2
    else (if within 241 243 b then led 128 191 2
    else (if b == 244 then led 128 143 2
    else None))))))

-- the byte is a hexadecimal digit
abbrev pub is_hex : ℕ → Bool
is_hex b = nat_lt (digit_value b) 16

-- the state behind a first byte
abbrev pub led_to : Option Lead → Option StringState
led_to None = None
led_to (Some l) = Some (Continuation l.low l.high l.left)

-- behind a byte of a character, of which so many more follow
abbrev pub tail_to : ℕ → StringState
tail_to zero = Plain
tail_to (suc n) = Continuation 128 191 n

-- behind the letter of an escape
abbrev pub short_to : Option ℕ → Option StringState
short_to None = None
short_to (Some v) = Some Plain

-- two digits that begin the second half of a surrogate pair
abbrev pub is_low_front : ℕ → Bool
is_low_front u = within 220 223 u

-- behind a digit, with so many to come; the second half of a pair is refused by itself
abbrev pub hex_to : ℕ → ℕ → Option StringState
hex_to zero u = Some (if is_high_surrogate u then LowSolidus u else Plain)
hex_to (suc n) u = if n == 1 && is_low_front u then None else Some (Hex (suc n) u)

-- the same in the second half of a pair, and nothing else is let through
abbrev pub low_to : ℕ → ℕ → ℕ → Option StringState
low_to h zero u = Some Plain
low_to h (suc n) u = if (n == 2 && not (u == 13)) || (n == 1 && not (is_low_front u)) then None else Some (Low h (suc n) u)

-- behind one more digit of four
abbrev pub more_hex : ℕ → ℕ → ℕ → Option StringState
more_hex zero v b = None
more_hex (suc n) v b = if is_hex b then hex_to n (v * 16 + digit_value b) else None

-- the same in the second half of a pair
abbrev pub more_low : ℕ → ℕ → ℕ → ℕ → Option StringState
more_low h zero v b = None
more_low h (suc n) v b = if is_hex b then low_to h n (v * 16 + digit_value b) else None

-- the state behind one more byte, where the string may have it
abbrev pub more_string : StringState → ℕ → Option StringState
more_string Plain b = if b == 34 then Some Closed else (if b == 92 then Some Escape else (if is_plain b then Some Plain else led_to (lead b)))
more_string (Continuation low high n) b = if within low high b then Some (tail_to n) else None
more_string Escape b = if b == 117 then Some (Hex 4 0) else short_to (escaped_character b)
more_string (Hex k v) b = more_hex k v b
more_string (LowSolidus h) b = if b == 92 then Some (LowU h) else None
more_string (LowU h) b = if b == 117 then Some (Low h 4 0) else None
more_string (Low h k v) b = more_low h k v b
more_string Closed b = None

-- the character of a letter, where it has one
abbrev pub short_held : Option ℕ → List ℕ
short_held None = []
short_held (Some v) = v ∷ []

-- the character of four digits, but for half of a pair
abbrev pub hex_held : ℕ → ℕ → List ℕ
hex_held zero u = if is_high_surrogate u then [] else encode_utf8 u
hex_held (suc n) u = []

-- the character of a pair
abbrev pub low_held : ℕ → ℕ → ℕ → List ℕ
low_held h zero u = encode_utf8 (paired h u)
low_held h (suc n) u = []

-- what a digit adds
abbrev pub hex_adds : ℕ → ℕ → ℕ → List ℕ
hex_adds zero v b = []
hex_adds (suc n) v b = hex_held n (v * 16 + digit_value b)

-- what a digit of the second half adds
abbrev pub low_adds : ℕ → ℕ → ℕ → ℕ → List ℕ
low_adds h zero v b = []
low_adds h (suc n) v b = low_held h n (v * 16 + digit_value b)

-- what a byte adds to the text that the string stands for
abbrev pub string_adds : StringState → ℕ → List ℕ
string_adds Plain b = if b == 34 || b == 92 then [] else b ∷ []
string_adds (Continuation low high n) b = b ∷ []
string_adds Escape b = if b == 117 then [] else short_held (escaped_character b)
string_adds (Hex k v) b = hex_adds k v b
string_adds (LowSolidus h) b = []
string_adds (LowU h) b = []
string_adds (Low h k v) b = low_adds h k v b
string_adds Closed b = []

-- the text, where the string is whole
abbrev pub string_end : StringState → List ℕ → Option (List ℕ)
string_end Plain held = None
string_end (Continuation low high n) held = None
string_end Escape held = None
string_end (Hex k v) held = None
string_end (LowSolidus h) held = None
string_end (LowU h) held = None
string_end (Low h k v) held = None
string_end Closed held = Some held

-- the text of the whole string, where these bytes end it
abbrev pub string_from : Option StringState → List ℕ → List ℕ → Option (List ℕ)
string_from None held t = None
string_from (Some s) held [] = string_end s held
string_from (Some s) held (b ∷ t) = string_from (more_string s b) (held ++ string_adds s b) t
