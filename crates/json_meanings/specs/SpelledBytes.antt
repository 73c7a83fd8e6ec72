-- The bytes that a text spells in base64 (RFC 4648, sections 4 and 5), computed.
use Rattle.std.specs.Prelude.{ℕ, List, Option, Some, None, map}
use Rattle.base64.specs.Engines.{standard, standard_no_pad}
use Rattle.base64.specs.GeneralPurpose.{decoded_of}
use Rattle.known_types.specs.BytesTexts.{standard_symbol}

-- the one where there is one, else the other
abbrev pub either_of : Option (List ℕ) → Option (List ℕ) → Option (List ℕ)
either_of (Some bytes) other = Some bytes
either_of None other = other

-- the bytes of a text with padding or without, of which each symbol counts as that of the standard alphabet
abbrev pub spelled_bytes : List ℕ → Option (List ℕ)
spelled_bytes text =
    either_of (decoded_of standard (map standard_symbol text)) (decoded_of standard_no_pad (map standard_symbol text))
