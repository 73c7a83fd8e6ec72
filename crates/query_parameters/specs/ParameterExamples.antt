-- Worked examples of queries, with their parameters.
use Rattle.std.specs.Prelude.{◌≡◌, ℕ, List, [], ◌∷◌, codes, map}
use Rattle.form_urlencoded.specs.Form.{decode}
use Rattle.query_parameters.specs.QueryParameters.{EncodedParameter, parameters_of, decoded_pair}

-- a parameter of this number, name and value
abbrev pub numbered : ℕ → List ℕ → List ℕ → EncodedParameter
numbered number name value = record { number = number; name = name; value = value }

-- which parameters a query has, with their numbers, and which bytes names and values stand for
pub record ParameterExamplesHold : Type 0 where
  pub nothing : parameters_of [] ≡ []
  pub two : parameters_of (codes "a=1&b=2")
      ≡ numbered 1 (codes "a") (codes "1") ∷ numbered 2 (codes "b") (codes "2") ∷ []
  -- empty pieces count in the numbering, and are no parameters
  pub empty_pieces : parameters_of (codes "&&a&&b=&")
      ≡ numbered 3 (codes "a") [] ∷ numbered 5 (codes "b") [] ∷ []
  -- a name ends at the first `=`, and may be empty
  pub first_equals : parameters_of (codes "a=b=c") ≡ numbered 1 (codes "a") (codes "b=c") ∷ []
  pub no_name : parameters_of (codes "=a&=") ≡ numbered 1 [] (codes "a") ∷ numbered 2 [] [] ∷ []
  -- only `&` splits, and nothing is decoded before the query is split
  pub semicolon : parameters_of (codes "a;b?c#d") ≡ numbered 1 (codes "a;b?c#d") [] ∷ []
  pub escaped_signs : map decoded_pair (parameters_of (codes "a%3Db=c%26d")) ≡ (codes "a=b", codes "c&d") ∷ []
  -- a `+` is a space, and an escaped one is a `+`
  pub plus : decode (codes "a+b%2Bc%2b") ≡ codes "a b+c+"
  -- a `%` without two hexadecimal digits stays, also where a `+` stands behind it
  pub bad_escapes : decode (codes "100%&%4&%zz%%41") ≡ codes "100%&%4&%zz%A"
  pub plus_in_escape : decode (codes "%+41%4+1") ≡ codes "% 41%4 1"
  -- bytes that are not UTF-8 stay as they are
  pub not_utf8 : decode (codes "%ff%C3") ≡ 255 ∷ 195 ∷ []
