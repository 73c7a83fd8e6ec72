-- The three tables between gRPC codes, HTTP statuses and HTTP/2 error codes.
use Rattle.std.specs.Prelude.{◌==◌, ◌||◌, ℕ, List, [], ◌∷◌, if◌then◌else◌, slice_index_or}

-- the HTTP statuses of the gRPC codes 0 to 16 (google/rpc/code.proto, "HTTP Mapping")
abbrev pub http_statuses : List ℕ
http_statuses = 200 ∷ 499 ∷ 500 ∷ 400 ∷ 504 ∷ 404 ∷ 409 ∷ 403 ∷ 429 ∷ 400 ∷ 409 ∷ 400 ∷ 501 ∷ 500 ∷ 503 ∷ 500 ∷ 401 ∷ []

-- the HTTP status of a gRPC code; any other code has that of an unknown error
abbrev pub http_status_of : ℕ → ℕ
http_status_of code = slice_index_or http_statuses code 500

-- the gRPC code of an HTTP status that comes without one (gRPC, "HTTP to gRPC Status Code Mapping")
abbrev pub code_of_http_status : ℕ → ℕ
code_of_http_status status =
    if status == 400 then 13
    else (if status == 401 then 16
    else (if status == 403 then 7
    else (if status == 404 then 12
    else (if status == 429 || (status == 502 || (status == 503 || status == 504)) then 14
    else 2))))

-- the gRPC code of an HTTP/2 error code in RST_STREAM (gRPC over HTTP/2, "Errors"; RFC 9113, section 7)
abbrev pub code_of_error_code : ℕ → ℕ
code_of_error_code error =
    if error == 7 then 14
    else (if error == 8 then 1
    else (if error == 11 then 8
    else (if error == 12 then 7
    else 13)))
