-- The body of an error as a JSON text (RFC 8259, sections 2 and 4; the JSON form of google.rpc.Status).
use Rattle.std.specs.Prelude.{ℕ, List, codes, pos}
use Rattle.json_events.specs.JsonNumbers.{DenotesInteger}
use Rattle.json_events.specs.JsonTree.{Json, number, string, object, pair, no_pairs}
use Rattle.json_events.specs.JsonText.{IsTextOf}

-- the object whose members are a number, "code", and a string, "message"
abbrev pub error_object : List ℕ → List ℕ → Json
error_object digits message =
    object (pair (codes "code") (number digits) (pair (codes "message") (string message) no_pairs))

-- the bytes are a JSON text of such an object, of a number that is the code and a string that stands for the message
pub record IsErrorText (code : ℕ) (message bytes : List ℕ) : Type 0 where
  pub digits : List ℕ
  pub code_is : DenotesInteger (pos code) digits
  pub text_of : IsTextOf (error_object digits message) bytes
