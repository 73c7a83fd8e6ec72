-- The lines of an answer's head (RFC 9112, sections 4 and 5; RFC 9110, section 15).
use Rattle.std.specs.Prelude.{◌++◌, ◌==◌, ℕ, List, [], codes, decimal, unwrap_or, if◌then◌else◌}
use Rattle.http.specs.StatusCode.{reason_phrase}

-- the end of a line
abbrev pub line_end : List ℕ
line_end = codes "\r\n"

-- the phrase of a status; that of 499 is no standard's (google/rpc/code.proto, "HTTP Mapping")
abbrev pub phrase_of : ℕ → List ℕ
phrase_of status = if status == 499 then codes "Client Closed Request" else unwrap_or (reason_phrase status) []

-- what stands before the phrase of a status line
abbrev pub status_start : ℕ → List ℕ
status_start status = codes "HTTP/1.1 " ++ (decimal status ++ codes " ")

-- a status line
abbrev pub status_line : ℕ → List ℕ
status_line status = status_start status ++ (phrase_of status ++ line_end)

-- a field line
abbrev pub field_line : List ℕ → List ℕ → List ℕ
field_line name value = name ++ (codes ": " ++ (value ++ line_end))
