-- Which head, trailer section or chunk size line of httparse's published grammar some bytes are (RFC 9112, sections 3,
-- 5 and 7.1), as functions that compute: the parts are split off, and taken where the grammar prints exactly these
-- bytes of them and each part is of its class. Nothing is read by the splitting: `laws` has both directions against
-- the grammar.
use Rattle.std.specs.Prelude.{ℕ, zero, suc, ◌-◌, Bool, true, ◌&&◌, ◌||◌, not, ◌==◌, List, [], ◌∷◌, drop, length, nat_lt, nat_le, slice_index, bytes_eq, Option, Some, None, if◌then◌else◌}
use Rattle.std.specs.List.{list_all}
use Rattle.std.specs.Char.{is_ascii_hexdigit}
use Rattle.std.specs.Str.{is_utf8}
use Rattle.httparse.specs.Ascii.{line_feed, carriage_return, space, digit_zero, colon, semicolon}
use Rattle.httparse.specs.Grammar.{is_token, is_uri_byte, is_value_byte, is_ows, LineEnd, crlf, lf, Field, print_section, RequestHead, print_request, ChunkLine, print_chunk_line, is_extension_byte}
use Rattle.http1_requests.specs.HeadEnd.{begins_with, begins_empty_line, empty_line_size, behind_empty_lines}

-- the bytes before the first that passes the test
unfoldable pub before : (ℕ → Bool) → List ℕ → List ℕ
before test [] = []
before test (b ∷ bytes) = if test b then [] else b ∷ before test bytes

-- the bytes from the first that passes the test
unfoldable pub from : (ℕ → Bool) → List ℕ → List ℕ
from test [] = []
from test (b ∷ bytes) = if test b then b ∷ bytes else from test bytes

-- a CR or a line feed
abbrev pub is_line_end : ℕ → Bool
is_line_end b = b == carriage_return || b == line_feed

-- the line end that stands here
abbrev pub end_of : List ℕ → LineEnd
end_of bytes = if begins_with line_feed bytes then lf else crlf

-- its size
abbrev pub end_size : LineEnd → ℕ
end_size crlf = 2
end_size lf = 1

-- the empty lines at the front, at most k
unfoldable pub empty_lines_within : ℕ → List ℕ → List LineEnd
empty_lines_within zero bytes = []
empty_lines_within (suc k) bytes =
    if begins_empty_line bytes then end_of bytes ∷ empty_lines_within k (drop (empty_line_size bytes) bytes) else []

-- what stands behind the colon of a field line
abbrev pub behind_colon : List ℕ → List ℕ
behind_colon bytes = drop 1 (from (λ b. b == colon) bytes)

-- a field line at the front
abbrev pub field_of : List ℕ → Field
field_of bytes =
    let value = behind_colon bytes in
    record {
      name = before (λ b. b == colon) bytes;
      raw = before is_line_end value;
      end = end_of (from is_line_end value);
    }

-- what stands behind it
abbrev pub behind_field : List ℕ → List ℕ
behind_field bytes = let ending = from is_line_end (behind_colon bytes) in drop (end_size (end_of ending)) ending

-- the field lines before the empty line, at most k
unfoldable pub fields_within : ℕ → List ℕ → List Field
fields_within zero bytes = []
fields_within (suc k) bytes =
    if begins_empty_line bytes then [] else field_of bytes ∷ fields_within k (behind_field bytes)

-- what stands behind them
unfoldable pub behind_fields : ℕ → List ℕ → List ℕ
behind_fields zero bytes = bytes
behind_fields (suc k) bytes = if begins_empty_line bytes then bytes else behind_fields k (behind_field bytes)

-- the name is a token, and the value has value bytes alone
abbrev pub is_field : Field → Bool
is_field f = is_token f.name && list_all is_value_byte f.raw

-- the fields of a section, where the bytes are that section
abbrev pub checked_section : List ℕ → List Field → LineEnd → Option (List Field)
checked_section bytes fields last =
    if list_all is_field fields && bytes_eq (print_section fields last) bytes then Some fields else None

-- the section that these bytes are
unfoldable pub section_in : List ℕ → Option (List Field)
section_in bytes =
    checked_section bytes (fields_within (length bytes) bytes) (end_of (behind_fields (length bytes) bytes))

-- UTF-8, where bytes of ASCII alone are tested by themselves, so that it computes on them
abbrev pub is_text : List ℕ → Bool
is_text bytes = list_all (λ b. nat_lt b 128) bytes || is_utf8 bytes

-- each part of a head is of its class
abbrev pub is_request_head : RequestHead → Bool
is_request_head h =
    is_token h.method && (nat_lt 0 (length h.target) && (list_all is_uri_byte h.target
    && (is_text h.target && (nat_le h.minor 1 && list_all is_field h.fields))))

-- a head, where the bytes are that head
abbrev pub checked_head : List ℕ → RequestHead → Option RequestHead
checked_head bytes h = if is_request_head h && bytes_eq (print_request h) bytes then Some h else None

-- the head with these parts, and with its fields from these bytes
abbrev pub section_guess : List LineEnd → List ℕ → List ℕ → ℕ → LineEnd → List ℕ → RequestHead
section_guess blank method target minor line_end bytes = record {
  blank = blank;
  method = method;
  target = target;
  minor = minor;
  line_end = line_end;
  fields = fields_within (length bytes) bytes;
  last = end_of (behind_fields (length bytes) bytes);
}

-- what stands behind the target: HTTP/1., a digit and a line end
abbrev pub version_guess : List LineEnd → List ℕ → List ℕ → List ℕ → RequestHead
version_guess blank method target bytes =
    let behind = drop 8 bytes in
    let line_end = end_of behind in
    section_guess blank method target (slice_index bytes 7 - digit_zero) line_end (drop (end_size line_end) behind)

-- what stands behind the method
abbrev pub target_guess : List LineEnd → List ℕ → List ℕ → RequestHead
target_guess blank method bytes =
    version_guess blank method (before (λ b. b == space) bytes) (drop 1 (from (λ b. b == space) bytes))

-- what stands behind the empty lines
abbrev pub method_guess : List LineEnd → List ℕ → RequestHead
method_guess blank bytes =
    target_guess blank (before (λ b. b == space) bytes) (drop 1 (from (λ b. b == space) bytes))

-- the head that these bytes are, if they are one
abbrev pub head_guess : List ℕ → RequestHead
head_guess bytes = method_guess (empty_lines_within (length bytes) bytes) (behind_empty_lines bytes)

-- the head that these bytes are
unfoldable pub head_in : List ℕ → Option RequestHead
head_in bytes = checked_head bytes (head_guess bytes)

-- the text of a chunk extension, where one stands
abbrev pub is_extension : Option (List ℕ) → Bool
is_extension None = true
is_extension (Some text) = list_all is_extension_byte text

-- each part of a chunk size line is of its class
abbrev pub is_chunk_line : ChunkLine → Bool
is_chunk_line l =
    nat_lt 0 (length l.digits) && (nat_le (length l.digits) 16 && (list_all is_ascii_hexdigit l.digits
    && (list_all is_ows l.pad && is_extension l.extension)))

-- what stands behind a semicolon, up to a CR
abbrev pub extension_guess : List ℕ → Option (List ℕ)
extension_guess bytes =
    if begins_with semicolon bytes then Some (before (λ b. b == carriage_return) (drop 1 bytes)) else None

-- the chunk size line that these bytes are, if they are one
abbrev pub chunk_line_guess : List ℕ → ChunkLine
chunk_line_guess bytes =
    let behind = from (λ b. not (is_ascii_hexdigit b)) bytes in
    record {
      digits = before (λ b. not (is_ascii_hexdigit b)) bytes;
      pad = before (λ b. not (is_ows b)) behind;
      extension = extension_guess (from (λ b. not (is_ows b)) behind);
    }

-- a chunk size line, where the bytes are that line
abbrev pub checked_line : List ℕ → ChunkLine → Option ChunkLine
checked_line bytes l = if is_chunk_line l && bytes_eq (print_chunk_line l) bytes then Some l else None

-- the chunk size line that these bytes are
unfoldable pub chunk_line_in : List ℕ → Option ChunkLine
chunk_line_in bytes = checked_line bytes (chunk_line_guess bytes)
