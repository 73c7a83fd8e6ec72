-- Bytes as text (RFC 4648): which texts spell bytes, and the one that is written.
use Rattle.std.specs.Prelude.{◌≡◌, ◌==◌, ◌⊎◌, ◌||◌, ◌&&◌, ℕ, Bool, List, nat_eq, nat_le, map, if◌then◌else◌, Result, Ok, Err}
use Rattle.std.specs.List.{list_any}
use Rattle.base.specs.declared.blob.Blob.{Blob}
use Rattle.base64.specs.Engines.{standard, standard_no_pad}
use Rattle.base64.specs.GeneralPurpose.{IsBytes, encode_of}
use Rattle.base64.specs.declared.engine.general_purpose.GeneralPurpose.{GeneralPurpose}
use Rattle.known_types.specs.declared.fault.TextFault.{TextFault}
use Rattle.known_types.specs.declared.fault.TextFault.TheVariants.{BadText, OutOfRange, NoMemory}

-- the symbol of the standard alphabet (section 4) for the six bits of one of the alphabet for URLs (section 5), whose
-- `-` and `_` stand for `+` and `/`
abbrev pub standard_symbol : ℕ → ℕ
standard_symbol b = if b == 45 then 43 else (if b == 95 then 47 else b)

-- a text has one of these two
abbrev pub has_symbols_for_urls : List ℕ → Bool
has_symbols_for_urls text = list_any (λ b. nat_eq b 45) text || list_any (λ b. nat_eq b 95) text

-- a text is the encoding of bytes by an engine
pub record IsEncodingBy (engine : GeneralPurpose) (text bytes : List ℕ) : Type 0 where
  pub bytes_are : IsBytes bytes
  pub spelled : text ≡ encode_of engine bytes

-- a text spells bytes by the standard alphabet: it is their encoding, with its padding or without
abbrev pub IsStandardText : List ℕ → List ℕ → Type 0
IsStandardText text bytes = IsEncodingBy standard text bytes ⊎ IsEncodingBy standard_no_pad text bytes

-- a text spells bytes: it does so by the standard alphabet once each of its symbols is of that
abbrev pub IsBytesText : List ℕ → List ℕ → Type 0
IsBytesText text bytes = IsStandardText (map standard_symbol text) bytes

-- the text that is written: the standard alphabet, with padding
abbrev pub bytes_text : List ℕ → List ℕ
bytes_text bytes = encode_of standard bytes

-- a byte of a written text: a symbol of the standard alphabet, or the padding
abbrev pub is_written_byte : ℕ → Bool
is_written_byte b =
    (nat_le 65 b && nat_le b 90) || ((nat_le 97 b && nat_le b 122) || ((nat_le 48 b && nat_le b 57)
    || (b == 43 || (b == 47 || b == 61))))

-- what is read of a text, where `Spells` says which bytes it spells: those bytes, or BadText where it spells none; it
-- is never OutOfRange
abbrev pub IsReading : (List ℕ → Type 0) → Result Blob TextFault → Type 0
IsReading Spells (Ok bytes) = Spells bytes
IsReading Spells (Err BadText) = (bytes : List ℕ) → Spells bytes → ⊥
IsReading Spells (Err OutOfRange) = ⊥
IsReading Spells (Err NoMemory) = Unit {0}

-- what is read of a text by an engine
abbrev pub IsReadingBy : GeneralPurpose → List ℕ → Result Blob TextFault → Type 0
IsReadingBy engine text r = IsReading (IsEncodingBy engine text) r

-- what is read of a text by the standard alphabet
abbrev pub IsStandardReading : List ℕ → Result Blob TextFault → Type 0
IsStandardReading text r = IsReading (IsStandardText text) r

-- what is read of a text
abbrev pub IsBytesReading : List ℕ → Result Blob TextFault → Type 0
IsBytesReading text r = IsReading (IsBytesText text) r
