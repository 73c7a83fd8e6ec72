-- What the head of a request says (RFC 9112, sections 3, 6 and 9.6; RFC 9110, sections 7.2 and 10.1.1), and for what
-- it is refused: the causes are tried in the order of the table of refusals, but that a head of too many lines is not
-- read at all.
use Rattle.std.specs.Prelude.{ℕ, ◌+◌, Bool, ◌&&◌, ◌||◌, not, ◌==◌, List, [], ◌∷◌, map, length, nat_lt, nat_le, codes, bytes_eq, Option, Some, None, if◌then◌else◌}
use Rattle.std.specs.List.{list_all, list_any}
use Rattle.std.specs.Char.{is_ascii_digit}
use Rattle.std.specs.Str.Parse.{digits_value}
use Rattle.http1.specs.Text.{eq_ignore_case}
use Rattle.http1.specs.Fields.{Header, values_named, elements_named, has_option}
use Rattle.httparse.specs.Grammar.{Field, field_value, RequestHead}
use Rattle.gate_world.specs.MessageHead.{MessageHead}
use Rattle.gate_world.specs.declared.body_length.BodyLength.{BodyLength}
use Rattle.gate_world.specs.declared.body_length.BodyLength.TheVariants.{Nothing, Length, Chunked}
use Rattle.gate_world.specs.declared.refusal.Refusal.{Refusal}
use Rattle.gate_world.specs.declared.refusal.Refusal.TheVariants.{HeadNotReadable, HeadTooLong, VersionNotServed, MethodNotServed, HostField, BodyLengthFields}
use Rattle.http1_requests.specs.HeadEnd.{head_lines, field_limit}
use Rattle.http1_requests.specs.GrammarReading.{head_in}

-- a head that is refused, or one that is served
pub data Judgement : Type 0 where
  Refused : (refusal : Refusal) → Judgement
  Served : (head : MessageHead) → Judgement

-- a field's name, and its value without the blanks around it
abbrev pub header_of : Field → Header
header_of f = (f.name, field_value f)

-- the fields of a head, in order
abbrev pub headers_of : RequestHead → List Header
headers_of h = map header_of h.fields

-- 1 to 18 digits
abbrev pub is_length : List ℕ → Bool
is_length value = list_all is_ascii_digit value && (nat_lt 0 (length value) && nat_le (length value) 18)

-- the body's length by the values of Content-Length and of Transfer-Encoding (RFC 9112, section 6.3): each stands at
-- most once, and not both; the one has 1 to 18 digits, the other is `chunked` in any case of letters
abbrev pub length_by : List (List ℕ) → List (List ℕ) → Option BodyLength
length_by [] [] = Some Nothing
length_by (n ∷ []) [] = if is_length n then Some (Length (digits_value 10 n)) else None
length_by [] (c ∷ []) = if eq_ignore_case c (codes "chunked") then Some Chunked else None
length_by ns cs = None

-- the body's length by the fields of a head
abbrev pub body_length : List Header → Option BodyLength
body_length fields =
    length_by (values_named (codes "content-length") fields) (values_named (codes "transfer-encoding") fields)

-- a field Connection has the part `close` between commas, in any case of letters (RFC 9112, section 9.6)
abbrev pub closes : List Header → Bool
closes fields = has_option (codes "close") (elements_named (codes "connection") fields)

-- a field Expect is `100-continue`, in any case of letters (RFC 9110, section 10.1.1)
abbrev pub expects : List Header → Bool
expects fields = list_any (λ v. eq_ignore_case v (codes "100-continue")) (values_named (codes "expect") fields)

-- how often the field Host stands (RFC 9110, section 7.2)
abbrev pub hosts : List Header → ℕ
hosts fields = length (values_named (codes "host") fields)

-- HEAD and CONNECT are not served
abbrev pub is_unserved_method : List ℕ → Bool
is_unserved_method method = bytes_eq method (codes "HEAD") || bytes_eq method (codes "CONNECT")

-- what a head of the grammar says, with the length of its body
abbrev pub message_head : RequestHead → BodyLength → MessageHead
message_head h body = record {
  method = h.method;
  target = h.target;
  fields = headers_of h;
  body = body;
  close = closes (headers_of h);
  expect = expects (headers_of h);
}

-- a head of the grammar, by what its fields say of its body
abbrev pub with_length : RequestHead → Option BodyLength → Judgement
with_length h None = Refused BodyLengthFields
with_length h (Some body) = Served (message_head h body)

-- a head of the grammar
abbrev pub judge_head : RequestHead → Judgement
judge_head h =
    if h.minor == 0 then Refused VersionNotServed
    else (if is_unserved_method h.method then Refused MethodNotServed
    else (if not (hosts (headers_of h) == 1) then Refused HostField
    else with_length h (body_length (headers_of h))))

-- bytes that are a head of the grammar, or none
abbrev pub judge_read : Option RequestHead → Judgement
judge_read None = Refused HeadNotReadable
judge_read (Some h) = judge_head h

-- more than 64 field lines stand between the request line and the empty line
abbrev pub has_many_fields : List ℕ → Bool
has_many_fields head = nat_lt (2 + field_limit) (head_lines head)

-- the bytes of a head, through the empty line that ends it
abbrev pub judgement : List ℕ → Judgement
judgement head = if has_many_fields head then Refused HeadTooLong else judge_read (head_in head)
