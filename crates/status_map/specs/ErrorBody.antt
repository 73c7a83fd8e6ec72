-- The JSON text of an error (the JSON form of google.rpc.Status, without details).
use Rattle.std.specs.Prelude.{◌≡◌, ◌++◌, ℕ, List, [], ◌∷◌, codes, pos, decimal}
use Rattle.std.specs.Str.Lossy.{replacement_bytes}
use Rattle.json_events.specs.JsonNumbers.{DenotesInteger}
use Rattle.json_events.specs.JsonStrings.{IsString}
use Rattle.json_events.specs.StringOutput.{json_string}

-- what stands for bytes that are no text: U+FFFD once, where there is one
abbrev pub replacement_for : List ℕ → List ℕ
replacement_for [] = []
replacement_for (b ∷ bs) = replacement_bytes

-- an object of a code and a message
abbrev pub status_object : List ℕ → List ℕ → List ℕ
status_object number string = codes "{\"code\":" ++ (number ++ (codes ",\"message\":" ++ (string ++ codes "}")))

-- the text that is written
abbrev pub error_body : ℕ → List ℕ → List ℕ
error_body code message = status_object (decimal code) (json_string message)

-- the bytes are an object of a number that is the code and a string that stands for the message
pub record IsErrorBody (code : ℕ) (message bytes : List ℕ) : Type 0 where
  pub number : List ℕ
  pub string : List ℕ
  pub number_is : DenotesInteger (pos code) number
  pub string_is : IsString message string
  pub bytes_are : bytes ≡ status_object number string
