-- The answer to a request that is refused (RFC 9110, sections 8.3, 8.6, 10.2.1 and 15; RFC 9112, section 9.6): a status
-- line, fields, and the JSON text of the error.
use Rattle.std.specs.Prelude.{◌++◌, ℕ, Bool, List, [], length, codes, decimal, if◌then◌else◌}
use Rattle.gate_world.specs.Refusals.{row_of, refusal_text}
use Rattle.gate_world.specs.declared.refusal.Refusal.{Refusal}
use Rattle.gate_world.specs.declared.refusal.Refusal.TheVariants.{MethodNotServed, MethodNotAllowed}
use Rattle.status_map.specs.ErrorBody.{error_body}
use Rattle.http1_answers.specs.AnswerLines.{line_end, status_line, field_line}

-- the methods that are allowed, where the refusal is of the method
abbrev pub allow_line : Refusal → List ℕ → List ℕ
allow_line MethodNotAllowed allow = field_line (codes "allow") allow
allow_line _ allow = []

-- that the connection closes behind the answer
abbrev pub close_line : Bool → List ℕ
close_line close = if close then field_line (codes "connection") (codes "close") else []

-- the JSON text of a refusal
abbrev pub refusal_body : Refusal → List ℕ
refusal_body r = error_body (row_of r).grpc_code (refusal_text r)

-- the type and the length of a JSON text
abbrev pub text_lines : ℕ → List ℕ
text_lines len =
    field_line (codes "content-type") (codes "application/json") ++ field_line (codes "content-length") (decimal len)

-- a status line, and those
abbrev pub told_lines : ℕ → ℕ → List ℕ
told_lines status len = status_line status ++ text_lines len

-- the head of an answer with a JSON text
abbrev pub told_head : ℕ → ℕ → List ℕ → List ℕ
told_head status len more = told_lines status len ++ (more ++ line_end)

-- an answer with a JSON text
abbrev pub told_answer : ℕ → List ℕ → List ℕ → List ℕ
told_answer status more body = told_head status (length body) more ++ body

-- the lines behind the status line of an answer without a body, behind which the connection closes
abbrev pub bare_lines : List ℕ
bare_lines =
    field_line (codes "content-length") (codes "0") ++ (field_line (codes "connection") (codes "close") ++ line_end)

-- an answer without a body: the client may have asked by HEAD
abbrev pub bare_answer : ℕ → List ℕ
bare_answer status = status_line status ++ bare_lines

-- the answer of a refusal
abbrev pub refusal_answer : Refusal → Bool → List ℕ → List ℕ
refusal_answer MethodNotServed close allow = bare_answer (row_of MethodNotServed).http_status
refusal_answer r close allow =
    told_answer (row_of r).http_status (allow_line r allow ++ close_line close) (refusal_body r)
