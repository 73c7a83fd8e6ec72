-- Which body the fields of a head tell of (RFC 9112, sections 6.1 to 6.3): none, so many bytes, or chunks.
use Rattle.std.specs.Prelude.{◌≡◌, ◌≤◌, ◌<◌, ℕ, true, List, [], ◌∷◌, length, codes}
use Rattle.std.specs.Char.{is_ascii_digit}
use Rattle.std.specs.Str.Parse.{digits_value}
use Rattle.httparse.specs.Grammar.{AllPass}
use Rattle.http1.specs.Text.{eq_ignore_case}
use Rattle.http1.specs.Fields.{Header, values_named}
use Rattle.gate_world.specs.declared.body_length.BodyLength.{BodyLength}
use Rattle.gate_world.specs.declared.body_length.BodyLength.TheVariants.{Nothing, Length, Chunked}

-- 1 to 18 decimal digits
pub record IsLengthText (value : List ℕ) : Type 0 where
  pub digits : AllPass is_ascii_digit value
  pub some : 0 < length value
  pub few : length value ≤ 18

-- the body that the values of Content-Length and of Transfer-Encoding tell of: neither stands; one length stands alone;
-- or one coding stands alone, and is `chunked` in any case of letters
abbrev pub IsToldBy : List (List ℕ) → List (List ℕ) → BodyLength → Type 0
IsToldBy lengths codings Nothing = (lengths ≡ []) × (codings ≡ [])
IsToldBy lengths codings (Length size) =
    (value : List ℕ) × (lengths ≡ value ∷ []) × (codings ≡ []) × IsLengthText value × (size ≡ digits_value 10 value)
IsToldBy lengths codings Chunked =
    (coding : List ℕ) × (lengths ≡ []) × (codings ≡ coding ∷ [])
    × (eq_ignore_case coding (codes "chunked") ≡ true)

-- the body that the fields of a head tell of
abbrev pub TellsBody : List Header → BodyLength → Type 0
TellsBody fields body =
    IsToldBy (values_named (codes "content-length") fields) (values_named (codes "transfer-encoding") fields) body
