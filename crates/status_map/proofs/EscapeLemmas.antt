-- The escapes of grpc-message are those that the set ESCAPED gives, and they are read back.
use Rattle.std.proofs.Common.{◌≡◌, ◌<◌, ℕ, zero, suc, Bool, true, ◌&&◌, List, [], ◌∷◌, ◌++◌, get_or, refl, sym, ap, ap₂, ◌∙◌}
use Rattle.std.proofs.Common.{◌==◌, ◌≤◌, ◌+◌, ◌/◌, ◌%◌, false, not, if◌then◌else◌, nat_le, nat_lt, arith}
use Rattle.std.specs.List.{AllByRecursion}
use Rattle.std.specs.Str.{bytes_eq}
use Rattle.std.proofs.lemmas.Bool.Decides.{Decides-below_and, nat_tests}
use Rattle.std.proofs.lemmas.List.Elements.{All-from_get_or}
use Rattle.std.proofs.lemmas.Slice.Eq.{bytes_eq-Decides}
use Rattle.percent_encoding.proofs.OnLiterals.{percent_encoding_on_literals}
use Rattle.percent_encoding.proofs.PercentLemmas.{IsByte, round_trip}
use Rattle.percent_encoding.specs.Percent.{encode_byte, percent_encode}
use Rattle.status_map.specs.declared.grpc_message.TheConstants.{ESCAPED}
use Rattle.base.specs.Bytes.{AreBytes}
use Rattle.base.proofs.ByteLemmas.{bytes_all}
use Rattle.base.proofs.EachImageLemmas.{each_flat_weaker}
use Rattle.status_map.specs.GrpcMessage.{encoded_byte, encoded_message, decoded_message, upper_hex_digit}

-- the first n bytes are escaped as the set says
abbrev escapes_match : ℕ → Bool
escapes_match zero = true
escapes_match (suc n) = bytes_eq (encode_byte ESCAPED n) (encoded_byte n) && escapes_match n

escapes_checked : escapes_match 256 ≡ true
unfolding percent_encoding_on_literals
escapes_checked = refl

-- each byte is escaped as the set says
encode_byte_is : (b : ℕ) → b < 256 → encode_byte ESCAPED b ≡ encoded_byte b
encode_byte_is =
    (Decides-below_and (λ b. bytes_eq (encode_byte ESCAPED b) (encoded_byte b)) (λ b. encode_byte ESCAPED b ≡ encoded_byte b) escapes_match (λ b. bytes_eq-Decides _ _) refl (λ _. refl) 256).0 escapes_checked

-- and so is each text
pub percent_encode_is : (text : List ℕ) → ((i : ℕ) → get_or text i 0 < 256) → percent_encode ESCAPED text ≡ encoded_message text
unfolding percent_encode
percent_encode_is [] k = refl
percent_encode_is (b ∷ bs) k = ap₂ (λ xs ys. xs ++ ys) (encode_byte_is b (k 0)) (percent_encode_is bs (λ i. k (suc i)))

-- what is put is read back
pub decoded_message_encoded : (text : List ℕ) → ((i : ℕ) → get_or text i 0 < 256) → decoded_message (encoded_message text) ≡ text
unfolding percent_encoding_on_literals
decoded_message_encoded text k =
    ap decoded_message (sym (percent_encode_is text k)) ∙ round_trip ESCAPED text refl (All-from_get_or IsByte text 0 (λ i within. k i))

-- a space or a visible character of ASCII
abbrev IsShown : ℕ → Type 0
IsShown b = (32 ≤ b) × (b ≤ 126)

digit_by : (n : ℕ) (test : Bool) → n < 16 → IsShown (if test then 48 + n else 55 + n)
digit_by n true l = (omega arith, omega (arith, l))
digit_by n false l = (omega arith, omega (arith, l))

-- an escape
escape_shown : (b : ℕ) → b < 256
    → AllByRecursion IsShown (37 ∷ upper_hex_digit (b / 16) ∷ upper_hex_digit (b % 16) ∷ [])
escape_shown b l =
    let high = digit_by (b / 16) (nat_lt (b / 16) 10) (omega (arith, l)) in
    let low = digit_by (b % 16) (nat_lt (b % 16) 10) (omega arith) in
    ((omega arith, omega arith), (high, (low, tt)))

-- one byte of a text, by the tests of whether it stands for itself
byte_by : (b : ℕ) (least most other : Bool) → b < 256 → nat_le 32 b ≡ least → nat_le b 126 ≡ most
    → AllByRecursion IsShown
    (if least && (most && other) then b ∷ [] else 37 ∷ upper_hex_digit (b / 16) ∷ upper_hex_digit (b % 16) ∷ [])
byte_by b true true true l e f = ((grind (arith, nat_tests, e), grind (arith, nat_tests, f)), tt)
byte_by b true true false l e f = escape_shown b l
byte_by b true false other l e f = escape_shown b l
byte_by b false most other l e f = escape_shown b l

-- what is put for a text has spaces and visible characters alone
pub encoded_message_shown : (text : List ℕ) → AreBytes text
    → AllByRecursion (λ (b : ℕ). (32 ≤ b) × (b ≤ 126)) (encoded_message text)
encoded_message_shown text h =
    each_flat_weaker (λ (b : ℕ). b < 256) IsShown encoded_byte
    (λ b l. byte_by b (nat_le 32 b) (nat_le b 126) (not (b == 37)) l refl refl) text (bytes_all text h)
