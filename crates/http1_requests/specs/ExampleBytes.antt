-- Lines and heads of which the worked examples are made.
use Rattle.std.specs.Prelude.{ℕ, ◌++◌, false, List, [], ◌∷◌, codes, flat_map}
use Rattle.http1.specs.Fields.{Header}
use Rattle.gate_world.specs.MessageHead.{MessageHead}
use Rattle.gate_world.specs.declared.body_length.BodyLength.{BodyLength}
use Rattle.gate_world.specs.declared.body_length.BodyLength.TheVariants.{Nothing, Chunked}

-- a line with its CR LF
abbrev pub line : List ℕ → List ℕ
line text = text ++ 13 ∷ 10 ∷ []

-- lines, one after another
abbrev pub lines : List (List ℕ) → List ℕ
lines texts = flat_map line texts

-- a request line
abbrev pub get_line : List ℕ
get_line = codes "GET /v1/items/x HTTP/1.1"

-- a line of the field Host
abbrev pub host_line : List ℕ
host_line = codes "Host: h"

-- a head of these two lines and of more
abbrev pub head_of : List (List ℕ) → List ℕ
head_of more = lines (get_line ∷ host_line ∷ (more ++ [] ∷ []))

-- what such a head says, with these fields behind Host
abbrev pub get_head : List Header → BodyLength → MessageHead
get_head fields body = record {
  method = codes "GET";
  target = codes "/v1/items/x";
  fields = (codes "Host", codes "h") ∷ fields;
  body = body;
  close = false;
  expect = false;
}

-- what it says without more
abbrev pub plain_head : MessageHead
plain_head = get_head [] Nothing

-- a head with a body in chunks
abbrev pub chunked_lines : List ℕ
chunked_lines = head_of (codes "Transfer-Encoding: chunked" ∷ [])

-- what it says
abbrev pub chunked_head : MessageHead
chunked_head = get_head ((codes "Transfer-Encoding", codes "chunked") ∷ []) Chunked
