-- The bytes of UTF-8 and those of base64 are bytes.
use Rattle.std.proofs.Common.{◌≡◌, inl, inr, sym, subst, refl, arith, cond, ltb, ℕ, zero, suc, ◌+◌, ◌/◌, ◌%◌, ◌<◌, Bool, true, false, List, [], ◌∷◌, map}
use lib.Utf8.{encode, encodes, scalar, scalar_cases, scalars}
use Rattle.base64.specs.Engines.{standard, standard_no_pad}
use Rattle.std.proofs.lemmas.Bool.{and_parts, cases_lt}
use Rattle.std.proofs.lemmas.Bool.Decides.{nat_tests}
use Rattle.std.specs.Char.{IsScalar}
use Rattle.std.specs.Str.{IsAscii, IsUtf8}
use Rattle.base.proofs.AreBytesLemmas.{AreBytes-append, AreBytes_more, AreBytes_none}
use Rattle.base.specs.Bytes.{AreBytes}
use Rattle.base64.proofs.EngineFacts.{IsAscii-encode_of}
use Rattle.base64.specs.GeneralPurpose.{IsBytes}
use Rattle.known_types.specs.BytesTexts.{IsBytesText, standard_symbol}

-- the later bytes of a character
tail_byte : (n : ℕ) → 128 + n % 64 < 256
tail_byte n = omega arith

-- a character of two bytes, of three and of four
abbrev two : ℕ → List ℕ
two c = (192 + c / 64) ∷ (128 + c % 64) ∷ []

abbrev three : ℕ → List ℕ
three c = (224 + c / 4096) ∷ (128 + c / 64 % 64) ∷ (128 + c % 64) ∷ []

abbrev four : ℕ → List ℕ
four c = (240 + c / 262144) ∷ (128 + c / 4096 % 64) ∷ (128 + c / 64 % 64) ∷ (128 + c % 64) ∷ []

-- the bytes of a character
character_bytes : (c : ℕ) → IsScalar c → AreBytes (encode c)
unfolding encode
character_bytes c s = by_one (ltb c 128) refl
  where
    low : c < 1114112
    low = elim (scalar_cases c s) [ inl h ↦ omega (arith, h) | inr h ↦ let k = h.1 in omega (arith, k) ]

    last : AreBytes ((128 + c % 64) ∷ [])
    last = AreBytes_more (128 + c % 64) [] (tail_byte c) AreBytes_none

    last_two : AreBytes ((128 + c / 64 % 64) ∷ (128 + c % 64) ∷ [])
    last_two = AreBytes_more (128 + c / 64 % 64) ((128 + c % 64) ∷ []) (tail_byte (c / 64)) last

    by_three : (t : Bool) → ltb c 65536 ≡ t
        → AreBytes (cond t (three c) (four c))
    by_three true e =
        AreBytes_more (224 + c / 4096) ((128 + c / 64 % 64) ∷ (128 + c % 64) ∷ []) (grind (arith, nat_tests)) last_two
    by_three false e =
        AreBytes_more (240 + c / 262144) ((128 + c / 4096 % 64) ∷ (128 + c / 64 % 64) ∷ (128 + c % 64) ∷ [])
        (omega (arith, low))
        (AreBytes_more (128 + c / 4096 % 64) ((128 + c / 64 % 64) ∷ (128 + c % 64) ∷ []) (tail_byte (c / 4096))
        last_two)

    by_two : (t : Bool) → ltb c 2048 ≡ t
        → AreBytes (cond t (two c) (cond (ltb c 65536) (three c) (four c)))
    by_two true e = AreBytes_more (192 + c / 64) ((128 + c % 64) ∷ []) (grind (arith, nat_tests)) last
    by_two false e = by_three (ltb c 65536) refl

    by_one : (t : Bool) → ltb c 128 ≡ t
        → AreBytes (cond t (c ∷ []) (cond (ltb c 2048) (two c) (cond (ltb c 65536) (three c) (four c))))
    by_one true e = AreBytes_more c [] (grind (arith, nat_tests)) AreBytes_none
    by_one false e = by_two (ltb c 2048) refl

-- the bytes of characters
characters_bytes : (cs : List ℕ) → scalars cs ≡ true → AreBytes (encodes cs)
characters_bytes [] s = AreBytes_none
characters_bytes (c ∷ cs) s =
    let parts = and_parts (scalar c) (scalars cs) s in
    AreBytes-append (encode c) (encodes cs) (character_bytes c parts.0) (characters_bytes cs parts.1)

-- UTF-8 is bytes
pub utf8_bytes : (text : List ℕ) → IsUtf8 text → IsBytes text
utf8_bytes text u = subst IsBytes u.1.1 (characters_bytes u.0 u.1.0)

-- what is no byte is no symbol's code
symbol_high : (b : ℕ) → 256 < suc b → standard_symbol b ≡ b
symbol_high b h = grind (arith, nat_tests)

ascii_bytes : (text : List ℕ) → IsAscii (map standard_symbol text) → IsBytes text
ascii_bytes [] h i = omega arith
ascii_bytes (b ∷ text) h zero = elim (cases_lt b 256) [
  | inl k ↦ k
  | inr k ↦ let low = h 0 in let same = symbol_high b (omega (arith, k)) in absurd (omega (arith, low, same, k))
]
ascii_bytes (b ∷ text) h (suc i) = ascii_bytes text (λ k. h (suc k)) i

-- a text that spells bytes is bytes itself
pub bytes_text_bytes : (text bytes : List ℕ) → IsBytesText text bytes → IsBytes text
bytes_text_bytes text bytes (inl x) =
    ascii_bytes text (subst IsAscii (sym x.spelled) (IsAscii-encode_of standard bytes))
bytes_text_bytes text bytes (inr x) =
    ascii_bytes text (subst IsAscii (sym x.spelled) (IsAscii-encode_of standard_no_pad bytes))

-- bytes or not
pub bytes_or_not : (text : List ℕ) → Dec (IsBytes text)
bytes_or_not [] = yes (λ i. omega arith)
bytes_or_not (b ∷ text) = elim (cases_lt b 256) [
  | inl k ↦ elim (bytes_or_not text) [ yes h ↦ yes (more k h) | no n ↦ no (λ h. n (λ i. h (suc i))) ]
  | inr k ↦ no (λ h. let low = h 0 in omega (arith, low, k))
]
  where
    more : b < 256 → IsBytes text → IsBytes (b ∷ text)
    more k h zero = k
    more k h (suc i) = h i
