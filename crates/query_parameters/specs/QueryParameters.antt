-- The parameters of a query (URL Standard, section 5.1, application/x-www-form-urlencoded parsing), each with the
-- number that its piece has among the pieces between the `&`, counted from 1. Empty pieces count, and are no
-- parameters.
use Rattle.std.specs.Prelude.{ℕ, suc, List, [], ◌∷◌, length, Option, Some, None, if◌then◌else◌, refl}
use Rattle.std.specs.Borrow.{Bor}
use Rattle.std.specs.Coded.{Coded, code_by, coded×, coded_ℕ, coded_list}
use Rattle.form_urlencoded.specs.Form.{ampersand, split, split_pair, is_nonempty, decode}

-- a parameter of a query, still encoded, and its number
pub record EncodedParameter : Type 0 where
  pub number : ℕ
  pub name : List ℕ
  pub value : List ℕ

-- how the logic stores a parameter; no clause cites it
abbrev pub parameter_code : Coded EncodedParameter
parameter_code =
    code_by (ℕ × (List ℕ × List ℕ)) (coded× coded_ℕ (coded× (coded_list coded_ℕ) (coded_list coded_ℕ)))
    (λ p. (p.number, (p.name, p.value))) (λ c. record { number = c.0; name = c.1.0; value = c.1.1 }) (λ _. refl)

-- the parameter that a piece is: its name stands before the first `=`, and its value behind it
abbrev pub parameter_in : ℕ → List ℕ → EncodedParameter
parameter_in number piece =
    record { number = number; name = (split_pair piece).0; value = (split_pair piece).1 }

-- the parameters among pieces, of which the first has this number
abbrev pub numbered_from : ℕ → List (List ℕ) → List EncodedParameter
numbered_from number [] = []
numbered_from number (piece ∷ pieces) =
    if is_nonempty piece then parameter_in number piece ∷ numbered_from (suc number) pieces
    else numbered_from (suc number) pieces

-- the parameters of a query, in order
abbrev pub parameters_of : List ℕ → List EncodedParameter
parameters_of query = numbered_from 1 (split ampersand query)

-- the pieces between separators of what is left of bytes: none where nothing is
abbrev pub pieces_left : ℕ → Option (Bor (List ℕ)) → List (List ℕ)
pieces_left separator None = []
pieces_left separator (Some rest) = split separator rest.now

-- how much is left: nothing, or bytes, which may be none
abbrev pub left_len : Option (Bor (List ℕ)) → ℕ
left_len None = 0
left_len (Some rest) = suc (length rest.now)

-- the name and the value of a parameter, as they stand in the query
abbrev pub encoded_pair : EncodedParameter → List ℕ × List ℕ
encoded_pair p = (p.name, p.value)

-- the bytes that the name and the value of a parameter stand for, before they are decoded as UTF-8
abbrev pub decoded_pair : EncodedParameter → List ℕ × List ℕ
decoded_pair p = (decode p.name, decode p.value)
