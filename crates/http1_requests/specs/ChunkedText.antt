-- A body in chunks as its grammar has it (RFC 9112, section 7.1): chunks with data, each behind its size line and
-- before a CR LF, the last chunk's size line, and the trailer section with the empty line that ends it.
use Rattle.std.specs.Prelude.{◌≡◌, ◌≤◌, ◌<◌, ℕ, List, ◌∷◌, ◌++◌, [], length, flat_map, All}
use Rattle.httparse.specs.Ascii.{line_feed, carriage_return}
use Rattle.httparse.specs.Grammar.{Field, IsField, LineEnd, print_section, ChunkLine, IsChunkLine, chunk_size, print_chunk_line}
use Rattle.http1_requests.specs.HeadEnd.{size_limit, field_limit}

-- a chunk with data
pub record DataChunk : Type 0 where
  pub line : ChunkLine
  pub data_bytes : List ℕ

-- its bytes
abbrev pub print_chunk : DataChunk → List ℕ
print_chunk c = print_chunk_line c.line ++ (c.data_bytes ++ carriage_return ∷ line_feed ∷ [])

-- a chunk size line of httparse's grammar, within the limit
abbrev pub IsSizeLine : ChunkLine → Type 0
IsSizeLine l = IsChunkLine l × (length (print_chunk_line l) ≤ size_limit)

-- its size line says how many bytes of data it has, and that is not 0
pub record IsDataChunk (c : DataChunk) : Type 0 where
  pub line : IsSizeLine c.line
  pub size : chunk_size c.line ≡ length c.data_bytes
  pub some : 0 < length c.data_bytes

-- the last chunk, and the trailer section behind it
pub record BodyTail : Type 0 where
  pub line : ChunkLine
  pub fields : List Field
  pub last : LineEnd

-- its bytes
abbrev pub print_tail : BodyTail → List ℕ
print_tail t = print_chunk_line t.line ++ print_section t.fields t.last

-- its size is 0; the section is one of httparse's grammar, within the limit, with at most 64 fields
pub record IsBodyTail (t : BodyTail) : Type 0 where
  pub line : IsSizeLine t.line
  pub size : chunk_size t.line ≡ 0
  pub fields : All IsField t.fields
  pub few : length t.fields ≤ field_limit
  pub room : length (print_section t.fields t.last) ≤ size_limit

-- these bytes are a body in chunks with this data, and then rest
pub record ReadsChunked (bytes data_bytes rest : List ℕ) : Type 0 where
  pub chunks : List DataChunk
  pub tail : BodyTail
  pub valid : All IsDataChunk chunks
  pub tail_valid : IsBodyTail tail
  pub printed : bytes ≡ flat_map print_chunk chunks ++ (print_tail tail ++ rest)
  pub joined : data_bytes ≡ flat_map (λ c. c.data_bytes) chunks
