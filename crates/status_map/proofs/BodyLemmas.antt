-- The body of an error, piece by piece.
use Rattle.std.proofs.Common.{◌≡◌, ℕ, List, [], ◌∷◌, ◌++◌, length, drop, refl, sym, ap, ◌∙◌, subst, append_assoc, append-nil, codes, arith}
use Rattle.std.specs.Prelude.{decimal, pos}
use Rattle.std.specs.Char.{encode_utf8}
use Rattle.std.specs.Str.{IsUtf8}
use Rattle.std.specs.Str.Lossy.{utf8_lossy, utf8_valid_len, utf8_invalid_len, replacement_bytes}
use Rattle.std.proofs.lemmas.Grind.{flat_map-append}
use Rattle.std.proofs.lemmas.Str.{IsUtf8-append, IsUtf8-nil, utf8_lossy_chunk, utf8_lossy_last_chunk, utf8_lossy_empty}
use Rattle.json_events.specs.JsonNumbers.{DenotesInteger}
use Rattle.json_events.specs.JsonStrings.{IsString}
use Rattle.json_events.specs.StringOutput.{escaped_byte, escaped, json_string}
use Rattle.status_map.specs.ErrorBody.{status_object, error_body, replacement_for, IsErrorBody}

-- what is written for a code and a text, where the digits are the code and the string stands for the text
pub error_body_is : (code : ℕ) (message : List ℕ) → DenotesInteger (pos code) (decimal code) → IsString message (json_string message) → IsErrorBody code message (error_body code message)
error_body_is code message number string = record {
  number = decimal code;
  string = json_string message;
  number_is = number;
  string_is = string;
  bytes_are = refl;
}

-- the five pieces of a body
pub error_body_pieces : (out number text : List ℕ) → ((((out ++ codes "{\"code\":") ++ number) ++ codes ",\"message\":\"") ++ escaped text) ++ codes "\"}" ≡ out ++ status_object number (json_string text)
error_body_pieces out number text = simp append_assoc

-- a text that was made so far is written behind what was there, and what is made of the bytes that
-- are left ends it
pub record IsMade (before out rest all : List ℕ) : Type 0 where
  pub made : List ℕ
  pub utf8 : IsUtf8 made
  pub out_is : out ≡ before ++ escaped made
  pub left : made ++ utf8_lossy rest ≡ all

-- before the first chunk
pub nothing_made : (out bytes rest : List ℕ) → rest ≡ bytes → IsMade out out rest (utf8_lossy bytes)
nothing_made out bytes rest e = record { made = []; utf8 = IsUtf8-nil; out_is = sym (append-nil out); left = ap utf8_lossy e }

-- one piece of text more
more_out : (before out made text : List ℕ) → out ≡ before ++ escaped made → out ++ escaped text ≡ before ++ escaped (made ++ text)
more_out before out made text e =
    ap (λ xs. xs ++ escaped text) e ∙ append_assoc before (escaped made) (escaped text) ∙ ap (λ xs. before ++ xs) (sym (flat_map-append escaped_byte made text))

-- U+FFFD
pub replacement_utf8 : IsUtf8 replacement_bytes
unfolding encode_utf8
replacement_utf8 = (65533 ∷ [], (refl, refl))

-- one chunk more: a text, and bytes that are none; only the last chunk may have no such bytes
pub chunk_made : (before out rest all valid invalid more : List ℕ) → IsMade before out rest all → IsUtf8 valid → rest ≡ valid ++ (invalid ++ more) → length valid ≡ utf8_valid_len rest
    → length invalid ≡ utf8_invalid_len (drop (utf8_valid_len rest) rest) → (length invalid ≡ 0 → length more ≡ 0) → IsMade before (out ++ escaped (valid ++ replacement_for invalid)) more all
chunk_made before out rest all valid [] more m text e front bad last = record {
  made = m.made ++ (valid ++ []);
  utf8 = IsUtf8-append m.made (valid ++ []) m.utf8 (IsUtf8-append valid [] text IsUtf8-nil);
  out_is = more_out before out m.made (valid ++ []) m.out_is;
  left = ap (λ xs. (m.made ++ xs) ++ utf8_lossy more) (append-nil valid) ∙ append_assoc m.made valid (utf8_lossy more)
      ∙ ap (λ xs. m.made ++ xs) (sym (utf8_lossy_last_chunk rest valid [] more e front refl (last refl))) ∙ m.left;
}
chunk_made before out rest all valid (b ∷ bs) more m text e front bad last = record {
  made = m.made ++ (valid ++ replacement_bytes);
  utf8 = IsUtf8-append m.made (valid ++ replacement_bytes) m.utf8 (IsUtf8-append valid replacement_bytes text replacement_utf8);
  out_is = more_out before out m.made (valid ++ replacement_bytes) m.out_is;
  left = append_assoc m.made (valid ++ replacement_bytes) (utf8_lossy more) ∙ ap (λ xs. m.made ++ xs) (append_assoc valid replacement_bytes (utf8_lossy more))
      ∙ ap (λ xs. m.made ++ xs) (sym (utf8_lossy_chunk rest valid (b ∷ bs) more e front bad (omega arith))) ∙ m.left;
}

-- behind the last chunk
pub all_made : (before out rest all : List ℕ) → IsMade before out rest all → length rest ≡ 0 → (out ≡ before ++ escaped all) × IsUtf8 all
all_made before out rest all m none =
    let whole : m.made ≡ all = sym (append-nil m.made) ∙ ap (λ xs. m.made ++ xs) (sym (utf8_lossy_empty rest none)) ∙ m.left in
    (m.out_is ∙ ap (λ xs. before ++ escaped xs) whole, subst IsUtf8 whole m.utf8)
