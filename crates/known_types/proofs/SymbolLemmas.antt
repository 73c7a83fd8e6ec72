-- Which bytes a written text has, and how many.
use Rattle.std.proofs.Common.{◌≡◌, ◌<◌, ◌%◌, ◌+◌, ◌/◌, ◌*◌, ◌-◌, ℕ, zero, suc, true, List, [], ◌∷◌, ◌++◌, length, replicate, slice_index, refl, sym, ap, ◌∙◌, arith}
use Rattle.std.proofs.lemmas.Bool.{and_from, and_parts}
use Rattle.std.proofs.lemmas.List.{length-append, length-replicate}
use Rattle.std.proofs.lemmas.List.Folds.{list_all-append}
use Rattle.std.specs.List.{list_all}
use Rattle.base64.proofs.OnLiterals.{base64_on_literals}
use Rattle.base64.proofs.RoundTrip.{length-encode_symbols}
use Rattle.base64.specs.Engines.{standard}
use Rattle.base64.specs.GeneralPurpose.{IsBytes, encode_of, engine_symbols}
use Rattle.base64.specs.Rfc4648.{encode_group, encode_symbols, padding_len, unpadded_len}
use Rattle.known_types.specs.BytesTexts.{bytes_text, is_written_byte}

-- each item of a list of written bytes is one
at_each : (xs : List ℕ) (v : ℕ) → v < length xs → list_all is_written_byte xs ≡ true
    → is_written_byte (slice_index xs v) ≡ true
at_each [] v within all = absurd (omega (arith, within))
at_each (x ∷ xs) zero within all = (and_parts _ _ all).0
at_each (x ∷ xs) (suc v) within all = at_each xs v (omega (arith, within)) (and_parts _ _ all).1

-- a symbol of the standard alphabet is a written byte
symbol_is : (v : ℕ) → v < 64 → is_written_byte (slice_index (engine_symbols standard) v) ≡ true
unfolding base64_on_literals
symbol_is v within = at_each (engine_symbols standard) v within refl

-- bytes behind the first are bytes
bytes_behind : (b : ℕ) (bs : List ℕ) → IsBytes (b ∷ bs) → IsBytes bs
bytes_behind b bs are i = are (suc i)

-- the symbols of a message are written bytes
symbols_are : (m : List ℕ) → IsBytes m → list_all is_written_byte (encode_symbols (engine_symbols standard) m) ≡ true
unfolding encode_symbols
symbols_are [] are = refl
symbols_are (a ∷ []) are =
    and_from _ _ (symbol_is (a / 4) (omega (arith, are 0)))
    (and_from _ _ (symbol_is (a % 4 * 16) (omega (arith, are 0))) refl)
symbols_are (a ∷ b ∷ []) are =
    and_from _ _ (symbol_is (a / 4) (omega (arith, are 0)))
    (and_from _ _ (symbol_is (a % 4 * 16 + b / 16) (omega (arith, are 0, are 1)))
    (and_from _ _ (symbol_is (b % 16 * 4) (omega (arith, are 1))) refl))
symbols_are (a ∷ b ∷ c ∷ rest) are =
    and_from _ _ (symbol_is (a / 4) (omega (arith, are 0)))
    (and_from _ _ (symbol_is (a % 4 * 16 + b / 16) (omega (arith, are 0, are 1)))
    (and_from _ _ (symbol_is (b % 16 * 4 + c / 64) (omega (arith, are 1, are 2)))
    (and_from _ _ (symbol_is (c % 64) (omega (arith, are 2)))
    (symbols_are rest (bytes_behind c rest (bytes_behind b (c ∷ rest) (bytes_behind a (b ∷ c ∷ rest) are)))))))

-- padding is written bytes
padding_is : (n : ℕ) → list_all is_written_byte (replicate n 61) ≡ true
padding_is zero = refl
padding_is (suc n) = padding_is n

-- so a written text is
pub written_is : (bytes : List ℕ) → IsBytes bytes → list_all is_written_byte (bytes_text bytes) ≡ true
unfolding base64_on_literals
written_is bytes are =
    list_all-append is_written_byte (encode_symbols (engine_symbols standard) bytes)
    (replicate (padding_len (length bytes)) 61)
    ∙ and_from _ _ (symbols_are bytes are) (padding_is (padding_len (length bytes)))

-- a written text has four bytes for each three and for the rest
pub written_len : (bytes : List ℕ) → length (bytes_text bytes) ≡ 4 * ((length bytes + 2) / 3)
written_len bytes =
    let symbols = length-encode_symbols (engine_symbols standard) bytes in
    let all =
    length-append (encode_symbols (engine_symbols standard) bytes) (replicate (padding_len (length bytes)) 61) in
    omega (arith, symbols, all, length-replicate {A = ℕ} (padding_len (length bytes)) 61)
