-- Tokens (RFC 9110, section 5.6.2), as tests of bytes.
use Rattle.std.specs.Prelude.{◌≡◌, ℕ, ◌&&◌, ◌||◌, Bool, true, false, List, [], codes, length, nat_le, not, replicate}
use Rattle.std.specs.List.{list_any}
use Rattle.std.specs.Char.{is_ascii_uppercase}
use Rattle.std.specs.Str.{bytes_eq}
use Rattle.httparse.specs.Grammar as grammar

-- tchar: a letter, a digit, or one of !#$%&'*+-.^_`|~
abbrev pub is_token_byte : ℕ → Bool
is_token_byte b = grammar.is_token_byte b

-- token: one or more of its bytes
abbrev pub is_token : List ℕ → Bool
is_token bytes = grammar.is_token bytes

-- a token of at most 32 bytes
abbrev pub is_short_token : List ℕ → Bool
is_short_token bytes = nat_le (length bytes) 32 && is_token bytes

-- a token without capital letters
abbrev pub is_lower_case_token : List ℕ → Bool
is_lower_case_token bytes = is_token bytes && not (list_any is_ascii_uppercase bytes)

-- the methods that a rule names by its field (google/api/http.proto, HttpRule) are short tokens
pub record NamedMethodsAreTokens : Type 0 where
  pub get : is_short_token (codes "GET") ≡ true
  pub put : is_short_token (codes "PUT") ≡ true
  pub post : is_short_token (codes "POST") ≡ true
  pub delete : is_short_token (codes "DELETE") ≡ true
  pub patch : is_short_token (codes "PATCH") ≡ true

-- a method of a binding: `*` for any, or a short token other than HEAD and CONNECT
abbrev pub is_method_kind : List ℕ → Bool
is_method_kind kind =
    bytes_eq kind (codes "*")
    || (is_short_token kind && (not (bytes_eq kind (codes "HEAD")) && not (bytes_eq kind (codes "CONNECT"))))

-- the methods that a rule names by its field are methods of a binding
pub record NamedMethodsAreKinds : Type 0 where
  pub get : is_method_kind (codes "GET") ≡ true
  pub put : is_method_kind (codes "PUT") ≡ true
  pub post : is_method_kind (codes "POST") ≡ true
  pub delete : is_method_kind (codes "DELETE") ≡ true
  pub patch : is_method_kind (codes "PATCH") ≡ true

-- which words are methods of a binding. `**` is a token, and a method like any other; so is `head`, as methods have
-- their case.
pub record MethodKindExamplesHold : Type 0 where
  pub any : is_method_kind (codes "*") ≡ true
  pub two_stars : is_method_kind (codes "**") ≡ true
  pub lower_case : is_method_kind (codes "head") ≡ true
  pub longest : is_method_kind (replicate 32 65) ≡ true
  pub too_long : is_method_kind (replicate 33 65) ≡ false
  pub nothing : is_method_kind [] ≡ false
  pub head : is_method_kind (codes "HEAD") ≡ false
  pub connect : is_method_kind (codes "CONNECT") ≡ false
  pub space : is_method_kind (codes "GET ") ≡ false
  pub slash : is_method_kind (codes "A/B") ≡ false
