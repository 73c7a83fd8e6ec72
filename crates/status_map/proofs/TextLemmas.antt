-- An error body is a JSON text of an object, word by word; such a text has one code and one message.
use Rattle.std.proofs.Common.{◌≡◌, ◌+◌, ℕ, List, [], ◌∷◌, ◌++◌, length, refl, sym, ap, subst, codes}
use Rattle.std.specs.Prelude.{ℤ, pos, negsuc}
use Rattle.std.specs.Char.{encode_utf8}
use Rattle.std.specs.Str.{IsUtf8}
use Rattle.json_events.specs.declared.state.Bracket.TheVariants.{Object}
use Rattle.json_events.specs.JsonNumbers.{DenotesInteger, IsNumber}
use Rattle.json_events.specs.JsonStrings.{IsString}
use Rattle.json_events.specs.StringOutput.{json_string}
use Rattle.json_events.specs.JsonTree.{Json, number, string, object, pair}
use Rattle.json_events.specs.JsonTree.{Mark, opens, closes, comma, colon, key, text, digits, with_value}
use Rattle.json_events.specs.JsonText.{Span, IsTextWith, IsWord, Spells, with_token}
use Rattle.status_map.specs.ErrorBody.{IsErrorBody, status_object}
use Rattle.status_map.specs.ErrorText.{IsErrorText, error_object}

-- from any offset on, the bytes are these marks
abbrev SpellsAny : List Mark → List ℕ → Type 0
SpellsAny ms s = (at : ℕ) → (ts : List Span) × Spells at ms s ts

-- one mark, with no white space before it
one_word : (m : Mark) (ms : List Mark) (word rest : List ℕ) → IsWord m word → SpellsAny ms rest
    → SpellsAny (m ∷ ms) (word ++ rest)
one_word m ms word rest w x at =
    let more = x (at + 0 + length word) in
    (with_token m (at + 0) (at + 0 + length word) more.0, ([], word, rest, more.0, refl, refl, w, more.1, refl))

-- what json_events says of each text in UTF-8
abbrev StringsAreWritten : Type 0
StringsAreWritten = (s : List ℕ) → IsUtf8 s → IsString s (json_string s)

code_utf8 : IsUtf8 (codes "code")
unfolding encode_utf8
code_utf8 = (codes "code", (refl, refl))

message_utf8 : IsUtf8 (codes "message")
unfolding encode_utf8
message_utf8 = (codes "message", (refl, refl))

-- the marks of the object from each of its words on, and the bytes that spell them
module _ (written : StringsAreWritten) (ds message word : List ℕ) (is_number : IsNumber ds)
    (is_string : IsString message word) where
  last : SpellsAny (closes Object ∷ []) (codes "}")
  last = one_word (closes Object) [] (125 ∷ []) [] refl (λ at. ([], (refl, refl)))

  value : SpellsAny (text message ∷ closes Object ∷ []) (word ++ codes "}")
  value = one_word (text message) (closes Object ∷ []) word (codes "}") is_string last

  second : SpellsAny (colon ∷ text message ∷ closes Object ∷ []) (codes ":" ++ (word ++ codes "}"))
  second = one_word colon (text message ∷ closes Object ∷ []) (58 ∷ []) (word ++ codes "}") refl value

  name : SpellsAny (key (codes "message") ∷ colon ∷ text message ∷ closes Object ∷ [])
      (codes "\"message\":" ++ (word ++ codes "}"))
  name =
      one_word (key (codes "message")) (colon ∷ text message ∷ closes Object ∷ []) (codes "\"message\"")
      (codes ":" ++ (word ++ codes "}"))
      (written (codes "message") message_utf8) second

  next : SpellsAny (comma ∷ key (codes "message") ∷ colon ∷ text message ∷ closes Object ∷ [])
      (codes ",\"message\":" ++ (word ++ codes "}"))
  next =
      one_word comma (key (codes "message") ∷ colon ∷ text message ∷ closes Object ∷ []) (44 ∷ [])
      (codes "\"message\":" ++ (word ++ codes "}")) refl name

  amount : SpellsAny (digits ds ∷ comma ∷ key (codes "message") ∷ colon ∷ text message ∷ closes Object ∷ [])
      (ds ++ (codes ",\"message\":" ++ (word ++ codes "}")))
  amount =
      one_word (digits ds) (comma ∷ key (codes "message") ∷ colon ∷ text message ∷ closes Object ∷ []) ds
      (codes ",\"message\":" ++ (word ++ codes "}")) (refl, is_number) next

  first : SpellsAny (colon ∷ digits ds ∷ comma ∷ key (codes "message") ∷ colon ∷ text message ∷ closes Object ∷ [])
      (codes ":" ++ (ds ++ (codes ",\"message\":" ++ (word ++ codes "}"))))
  first =
      one_word colon (digits ds ∷ comma ∷ key (codes "message") ∷ colon ∷ text message ∷ closes Object ∷ []) (58 ∷ [])
      (ds ++ (codes ",\"message\":" ++ (word ++ codes "}"))) refl amount

  front : SpellsAny (key (codes "code") ∷ colon ∷ digits ds ∷ comma ∷ key (codes "message") ∷ colon ∷ text message ∷
      closes Object ∷ [])
      (codes "\"code\":" ++ (ds ++ (codes ",\"message\":" ++ (word ++ codes "}"))))
  front =
      one_word (key (codes "code")) (colon ∷ digits ds ∷ comma ∷ key (codes "message") ∷ colon ∷ text message ∷ closes
      Object ∷ [])
      (codes "\"code\"") (codes ":" ++ (ds ++ (codes ",\"message\":" ++ (word ++ codes "}"))))
      (written (codes "code") code_utf8) first

  whole : SpellsAny (with_value (error_object ds message) []) (status_object ds word)
  whole =
      one_word (opens Object)
      (key (codes "code") ∷ colon ∷ digits ds ∷ comma ∷ key (codes "message") ∷ colon ∷ text message ∷ closes Object ∷
      []) (123 ∷ [])
      (codes "\"code\":" ++ (ds ++ (codes ",\"message\":" ++ (word ++ codes "}")))) refl front

-- an error body is a JSON text of an object
pub body_is_text : StringsAreWritten → (code : ℕ) (message bytes : List ℕ) → IsErrorBody code message bytes
    → IsErrorText code message bytes
body_is_text written code message bytes b =
    let all = whole written b.number message b.string b.number_is.number b.string_is 0 in
    record {
      digits = b.number;
      code_is = b.number_is;
      text_of = subst (λ s. (ts : List Span) × IsTextWith (error_object b.number message) s ts) (sym b.bytes_are) all;
    }

-- the digits and the message of such an object
digits_of : Json → List ℕ
digits_of (object (pair k (number ds) ps)) = ds
digits_of j = []

message_of : Json → List ℕ
message_of (object (pair k j (pair l (string s) ps))) = s
message_of j = []

-- what json_events says of trees and numbers
abbrev OneTree : Type 0
OneTree = (j k : Json) (s : List ℕ) (ts us : List Span) → IsTextWith j s ts → IsTextWith k s us → j ≡ k

abbrev OneNumber : Type 0
OneNumber = (y z : ℤ) (s : List ℕ) → DenotesInteger y s → DenotesInteger z s → y ≡ z

natural : ℤ → ℕ
natural (pos n) = n
natural (negsuc n) = 0

same_object : OneTree → (code other : ℕ) (message another bytes : List ℕ) (a : IsErrorText code message bytes)
    (b : IsErrorText other another bytes)
    → error_object a.digits message ≡ error_object b.digits another
same_object one code other message another bytes a b = one _ _ bytes a.text_of.0 b.text_of.0 a.text_of.1 b.text_of.1

-- such a text has one code
pub one_code : OneTree → OneNumber → (code other : ℕ) (message another bytes : List ℕ)
    → IsErrorText code message bytes → IsErrorText other another bytes
    → code ≡ other
unfolding digits_of natural
one_code one same_number code other message another bytes a b =
    let same : a.digits ≡ b.digits = ap digits_of (same_object one code other message another bytes a b) in
    ap natural (same_number (pos code) (pos other) a.digits a.code_is
    (subst (DenotesInteger (pos other)) (sym same) b.code_is))

-- and one message
pub one_message : OneTree → (code other : ℕ) (message another bytes : List ℕ) → IsErrorText code message bytes
    → IsErrorText other another bytes
    → message ≡ another
unfolding message_of
one_message one code other message another bytes a b =
    ap message_of (same_object one code other message another bytes a b)
