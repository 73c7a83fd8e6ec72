-- Decoding of what a variable takes of a path (RFC 3986, section 2.1; google/api/http.proto).
use Rattle.std.specs.Prelude.{ℕ, ◌+◌, ◌-◌, ◌*◌, Bool, true, false, ◌&&◌, ◌||◌, ◌==◌, List, [], ◌∷◌, take, drop, Option, Some, None, slice_get, if◌then◌else◌}
use Rattle.std.specs.Char.{digit_value}
use Rattle.percent_encoding.specs.Percent.{percent_sign, is_escape, percent_decode}
use Rattle.http_rules.specs.declared.template.Segment.{Segment}
use Rattle.http_rules.specs.declared.template.Segment.TheVariants.{Literal, One, Rest}
use Rattle.http_rules.specs.declared.template.Variable.{Variable}
use Rattle.http_rules.specs.declared.template.Template.{Template}

-- the three bytes are `%2F` or `%2f`
abbrev pub is_slash_escape : ℕ → ℕ → ℕ → Bool
is_slash_escape b high low = b == percent_sign && (high == 50 && (low == 70 || low == 102))

-- the text with each escape replaced by its byte, but those of a slash; any other `%` stays
unfoldable pub decode_but_slashes : List ℕ → List ℕ
decode_but_slashes [] = []
decode_but_slashes (b ∷ []) = b ∷ []
decode_but_slashes (b ∷ c ∷ []) = b ∷ c ∷ []
decode_but_slashes (b ∷ high ∷ low ∷ rest) =
    if is_slash_escape b high low then b ∷ high ∷ low ∷ decode_but_slashes rest
    else (if is_escape b high low then (16 * digit_value high + digit_value low) ∷ decode_but_slashes rest
    else b ∷ decode_but_slashes (high ∷ low ∷ rest))

-- the text begins with the escape of a slash
abbrev pub begins_slash_escape : List ℕ → Bool
begins_slash_escape [] = false
begins_slash_escape (b ∷ []) = false
begins_slash_escape (b ∷ c ∷ []) = false
begins_slash_escape (b ∷ high ∷ low ∷ rest) = is_slash_escape b high low

-- the byte of the escape that the text begins with
abbrev pub first_escape : List ℕ → Option ℕ
first_escape [] = None
first_escape (b ∷ []) = None
first_escape (b ∷ c ∷ []) = None
first_escape (b ∷ high ∷ low ∷ rest) = if is_escape b high low then Some (16 * digit_value high + digit_value low) else None

-- one segment other than `**`
abbrev pub is_single : List Segment → Bool
is_single [] = false
is_single (Literal l ∷ []) = true
is_single (One ∷ []) = true
is_single (Rest ∷ []) = false
is_single (s ∷ t ∷ ss) = false

-- what a variable of these segments takes, decoded: whole for one segment other than `**`
abbrev pub decoded_by : List Segment → List ℕ → List ℕ
decoded_by segments text = if is_single segments then percent_decode text else decode_but_slashes text

-- the segments that a variable takes
abbrev pub variable_segments : List Segment → Option Variable → List Segment
variable_segments segments None = []
variable_segments segments (Some v) = take (v.to - v.from) (drop v.from segments)

-- what the variable of this index takes of a path, decoded
abbrev pub captured : Template → ℕ → List ℕ → List ℕ
captured t index text = decoded_by (variable_segments t.segments (slice_get t.variables index)) text
