-- What is written between quotation marks spells the text.
use Rattle.std.proofs.Common.{◌≡◌, ◌≢◌, ℕ, ◌+◌, ◌*◌, ◌/◌, ◌%◌, ◌<◌, ◌≤◌, Bool, true, false, cond, List, [], ◌∷◌, ◌++◌, ⊎_elim, refl, sym, ap, ap₂, ◌∙◌, subst, arith, lit<, ltb-true}
use Rattle.std.specs.Prelude.{nat_lt}
use Rattle.std.specs.Char.{encode_utf8, IsScalar, digit_char, digit_value}
use Rattle.std.specs.Str.{encode_utf8_all, all_scalars, IsUtf8}
use Rattle.std.proofs.lemmas.Grind.{flat_map-append}
use Rattle.std.proofs.lemmas.List.{append-nil}
use Rattle.std.proofs.lemmas.Bool.{cases_lt, cases_eq, and_parts}
use Rattle.std.proofs.lemmas.Bool.Decides.{nat_tests}
use Rattle.std.proofs.lemmas.Str.{encode_ascii, digit_value-digit_char}
use Rattle.std.specs.Str.Parse.{digits_value, AllDigits}
use Rattle.json_events.specs.JsonStrings.{IsUnescaped, is_high_surrogate, is_low_surrogate, Spelling, unescaped, short_escape, unicode_escape, spelled, character_of, IsSpelling, AreCharacters, IsString}
use Rattle.json_events.specs.StringOutput.{escaped_byte, escaped, json_string}

-- a spelling of the character that is written for it
record IsWrittenAs (c : ℕ) (s : Spelling) : Type 0 where
  pub allowed : IsSpelling s
  pub character : character_of s ≡ c
  pub bytes : escaped (encode_utf8 c) ≡ spelled s

abbrev HasSpelling : ℕ → Type 0
HasSpelling c = (s : Spelling) × IsWrittenAs c s

-- the bytes of a character past ASCII stand for themselves
plain_byte : (b : ℕ) → 128 ≤ b → escaped_byte b ≡ b ∷ []
plain_byte b h = grind (arith, nat_tests)

escaped_two : (a b : ℕ) → 128 ≤ a → 128 ≤ b → escaped (a ∷ b ∷ []) ≡ a ∷ b ∷ []
escaped_two a b h k = ap₂ (λ xs ys. xs ++ (ys ++ [])) (plain_byte a h) (plain_byte b k)

escaped_three : (a b c : ℕ) → 128 ≤ a → 128 ≤ b → 128 ≤ c → escaped (a ∷ b ∷ c ∷ []) ≡ a ∷ b ∷ c ∷ []
escaped_three a b c h k l = ap₂ (λ xs ys. xs ++ ys) (plain_byte a h) (escaped_two b c k l)

escaped_four : (a b c d : ℕ) → 128 ≤ a → 128 ≤ b → 128 ≤ c → 128 ≤ d → escaped (a ∷ b ∷ c ∷ d ∷ []) ≡ a ∷ b ∷ c ∷ d ∷ []
escaped_four a b c d h k l m = ap₂ (λ xs ys. xs ++ ys) (plain_byte a h) (escaped_three b c d k l m)

-- a test that chose one of two lists, each of which is written as it is
escaped_choice : (t : Bool) (xs ys : List ℕ) → (t ≡ true → escaped xs ≡ xs) → escaped ys ≡ ys → escaped (cond t xs ys) ≡ cond t xs ys
escaped_choice true xs ys h k = h refl
escaped_choice false xs ys h k = k

-- bytes of a character of two, three and four bytes
two_bytes : (c : ℕ) → escaped ((192 + c / 64) ∷ (128 + c % 64) ∷ []) ≡ (192 + c / 64) ∷ (128 + c % 64) ∷ []
two_bytes c = escaped_two (192 + c / 64) (128 + c % 64) (omega arith) (omega arith)

three_bytes : (c : ℕ) → escaped ((224 + c / 4096) ∷ (128 + c / 64 % 64) ∷ (128 + c % 64) ∷ []) ≡ (224 + c / 4096) ∷ (128 + c / 64 % 64) ∷ (128 + c % 64) ∷ []
three_bytes c = escaped_three (224 + c / 4096) (128 + c / 64 % 64) (128 + c % 64) (omega arith) (omega arith) (omega arith)

four_bytes : (c : ℕ) → escaped ((240 + c / 262144) ∷ (128 + c / 4096 % 64) ∷ (128 + c / 64 % 64) ∷ (128 + c % 64) ∷ []) ≡ (240 + c / 262144) ∷ (128 + c / 4096 % 64) ∷ (128 + c / 64 % 64) ∷ (128 + c % 64) ∷ []
four_bytes c = escaped_four (240 + c / 262144) (128 + c / 4096 % 64) (128 + c / 64 % 64) (128 + c % 64) (omega arith) (omega arith) (omega arith) (omega arith)

no_ascii : (c : ℕ) → 128 ≤ c → nat_lt c 128 ≡ true → ⊥
no_ascii c h e = let l : c < 128 = ltb-true c 128 e in omega arith

-- the characters past ASCII stand for themselves
escaped_encode : (c : ℕ) → 128 ≤ c → escaped (encode_utf8 c) ≡ encode_utf8 c
unfolding encode_utf8
escaped_encode c h =
    escaped_choice _ _ _ (λ e. absurd (no_ascii c h e))
    (escaped_choice _ _ _ (λ _. two_bytes c)
    (escaped_choice _ _ _ (λ _. three_bytes c) (four_bytes c)))

-- an ASCII character, by what is written for its byte
of_byte : (c : ℕ) (s : Spelling) → c < 128 → IsSpelling s → character_of s ≡ c → escaped_byte c ≡ spelled s → HasSpelling c
of_byte c s h allowed character bytes = (s, record { allowed = allowed; character = character; bytes = ap escaped (encode_ascii c h) ∙ append-nil (escaped_byte c) ∙ bytes })

-- a character, by whether it is this one
choose : {Q : Type 0} (c n : ℕ) → (c ≡ n → Q) → (c ≢ n → Q) → Q
choose c n at other = ⊎_elim at other (cases_eq c n)

control_bytes : (c : ℕ) → c < 32 → c ≢ 8 → c ≢ 9 → c ≢ 10 → c ≢ 12 → c ≢ 13 → escaped_byte c ≡ 92 ∷ 117 ∷ 48 ∷ 48 ∷ digit_char (c / 16) ∷ digit_char (c % 16) ∷ []
control_bytes c h a b d e f = grind (arith, nat_tests)

plain_bytes : (c : ℕ) → 32 ≤ c → c ≢ 34 → c ≢ 92 → escaped_byte c ≡ c ∷ []
plain_bytes c h a b = grind (arith, nat_tests)

-- the number of four hexadecimal digits
four_digits : (x y : ℕ) (a b : ℕ) → digit_value a ≡ x → digit_value b ≡ y → digits_value 16 (48 ∷ 48 ∷ a ∷ b ∷ []) ≡ x * 16 + y
four_digits x y a b e f = rw (e, f) (omega arith)

control_value : (c : ℕ) → c < 32 → digits_value 16 (48 ∷ 48 ∷ digit_char (c / 16) ∷ digit_char (c % 16) ∷ []) ≡ c
control_value c h = four_digits (c / 16) (c % 16) (digit_char (c / 16)) (digit_char (c % 16)) (digit_value-digit_char (c / 16) (omega arith)) (digit_value-digit_char (c % 16) (omega arith)) ∙ omega arith

control_digits : (c : ℕ) → c < 32 → AllDigits 16 (48 ∷ 48 ∷ digit_char (c / 16) ∷ digit_char (c % 16) ∷ [])
control_digits c h =
    let high : digit_value (digit_char (c / 16)) ≡ c / 16 = digit_value-digit_char (c / 16) (omega arith) in
    let low : digit_value (digit_char (c % 16)) ≡ c % 16 = digit_value-digit_char (c % 16) (omega arith) in
    let a : digit_value (digit_char (c / 16)) < 16 = rw high (omega arith) in
    let b : digit_value (digit_char (c % 16)) < 16 = rw low (omega arith) in
    (lit< tt, (lit< tt, (a, (b, tt))))

-- a small number is no surrogate
no_high : (u c : ℕ) → u ≡ c → c < 32 → is_high_surrogate u ≡ false
no_high u c e h = grind (arith, nat_tests)

no_low : (u c : ℕ) → u ≡ c → c < 32 → is_low_surrogate u ≡ false
no_low u c e h = grind (arith, nat_tests)

of_control : (c : ℕ) → c < 32 → HasSpelling c
of_control c h =
    let ascii : c < 128 = omega arith in
    choose c 8 (λ e. subst HasSpelling (sym e) (of_byte 8 (short_escape 98 8) (lit< tt) refl refl refl))
    (λ n8. choose c 9 (λ e. subst HasSpelling (sym e) (of_byte 9 (short_escape 116 9) (lit< tt) refl refl refl))
    (λ n9. choose c 10 (λ e. subst HasSpelling (sym e) (of_byte 10 (short_escape 110 10) (lit< tt) refl refl refl))
    (λ n10. choose c 12 (λ e. subst HasSpelling (sym e) (of_byte 12 (short_escape 102 12) (lit< tt) refl refl refl))
    (λ n12. choose c 13 (λ e. subst HasSpelling (sym e) (of_byte 13 (short_escape 114 13) (lit< tt) refl refl refl))
    (λ n13. of_byte c (unicode_escape (48 ∷ 48 ∷ digit_char (c / 16) ∷ digit_char (c % 16) ∷ [])) ascii
    ((refl, control_digits c h), no_high _ c (control_value c h) h, no_low _ c (control_value c h) h)
    (control_value c h)
    (control_bytes c h n8 n9 n10 n12 n13))))))

-- each character has a spelling, and it is the one that is written
has_spelling : (c : ℕ) → IsScalar c → HasSpelling c
has_spelling c scalar =
    ⊎_elim (λ h. of_control c h)
    (λ h. choose c 34 (λ e. subst HasSpelling (sym e) (of_byte 34 (short_escape 34 34) (lit< tt) refl refl refl))
    (λ n34. choose c 92 (λ e. subst HasSpelling (sym e) (of_byte 92 (short_escape 92 92) (lit< tt) refl refl refl))
    (λ n92.
    let free : IsUnescaped c = record { scalar = scalar; no_control = h; no_quotation_mark = n34; no_reverse_solidus = n92 } in
    ⊎_elim
    (λ k. (unescaped c, record { allowed = free; character = refl; bytes = ap escaped (encode_ascii c k) ∙ append-nil (escaped_byte c) ∙ plain_bytes c h n34 n92 ∙ sym (encode_ascii c k) }))
    (λ k. (unescaped c, record { allowed = free; character = refl; bytes = escaped_encode c k }))
    (cases_lt c 128))))
    (cases_lt c 32)

-- one character more
with_character : (c : ℕ) (text bytes : List ℕ) → HasSpelling c → AreCharacters text bytes → AreCharacters (encode_utf8 c ++ text) (escaped (encode_utf8 c) ++ bytes)
with_character c text bytes s rest = record {
  spellings = s.0 ∷ rest.spellings;
  allowed = (s.1.allowed, rest.allowed);
  bytes_are = ap₂ (λ xs ys. xs ++ ys) s.1.bytes rest.bytes_are;
  text_is = ap₂ (λ x ys. encode_utf8 x ++ ys) (sym s.1.character) rest.text_is;
}

characters_of : (cs : List ℕ) → all_scalars cs ≡ true → AreCharacters (encode_utf8_all cs) (escaped (encode_utf8_all cs))
characters_of [] h = record { spellings = []; allowed = tt; bytes_are = refl; text_is = refl }
characters_of (c ∷ cs) h =
    let p = and_parts _ _ h in
    subst (AreCharacters (encode_utf8 c ++ encode_utf8_all cs)) (sym (flat_map-append escaped_byte (encode_utf8 c) (encode_utf8_all cs)))
    (with_character c (encode_utf8_all cs) (escaped (encode_utf8_all cs)) (has_spelling c p.0) (characters_of cs p.1))

-- what is written for a text spells it
pub escaped_characters : (text : List ℕ) → IsUtf8 text → AreCharacters text (escaped text)
escaped_characters text h = subst (λ (xs : List ℕ). AreCharacters xs (escaped xs)) h.1.1 (characters_of h.0 h.1.0)

-- with quotation marks it is a string that stands for the text
pub json_string_denotes : (text : List ℕ) → IsUtf8 text → IsString text (json_string text)
json_string_denotes text h = record { inner = escaped text; quoted = refl; characters = escaped_characters text h }
