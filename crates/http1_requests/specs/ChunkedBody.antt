-- The body of a request as far as it has come (RFC 9112, sections 6.2, 6.3 and 7.1): the bytes of a known length, or
-- the data of chunks, each behind its size and before a CR LF, up to the chunk of size 0 and the trailer section
-- behind it.
use Rattle.std.specs.Prelude.{ℕ, zero, suc, ◌+◌, ◌==◌, List, [], ◌∷◌, ◌++◌, take, drop, length, nat_lt, Option, Some, None, if◌then◌else◌}
use Rattle.httparse.specs.Ascii.{line_feed, carriage_return}
use Rattle.httparse.specs.Grammar.{Field, ChunkLine, chunk_size}
use Rattle.gate_world.specs.declared.body_length.BodyLength.{BodyLength}
use Rattle.gate_world.specs.declared.body_length.BodyLength.TheVariants.{Nothing, Length, Chunked}
use Rattle.http1_requests.specs.HeadEnd.{line_size, section_size, line_feeds, field_limit, Cut, NoEnd, TooLarge, Ends, cut_at}
use Rattle.http1_requests.specs.GrammarReading.{section_in, chunk_line_in}

-- whether a body goes on, broke its framing, or has ended before these bytes
pub data BodyEnd : Type 0 where
  GoesOn Breaks : BodyEnd
  EndsBefore : (rest : List ℕ) → BodyEnd

-- the bytes of a body so far, and its end
pub record Body : Type 0 where
  pub bytes : List ℕ
  pub over : BodyEnd

-- what stands at a chunk size line: the last data so far and the end, or the data of a whole chunk and what follows it
pub data Chunk : Type 0 where
  Stops : (data_bytes : List ℕ) (over : BodyEnd) → Chunk
  Whole : (data_bytes rest : List ℕ) → Chunk

-- CR LF behind the data of a chunk: another byte breaks the framing at once
abbrev pub behind_data : List ℕ → List ℕ → Chunk
behind_data chunk [] = Stops chunk GoesOn
behind_data chunk (b ∷ []) = if b == carriage_return then Stops chunk GoesOn else Stops chunk Breaks
behind_data chunk (b ∷ c ∷ rest) =
    if b == carriage_return then (if c == line_feed then Whole chunk rest else Stops chunk Breaks)
    else Stops chunk Breaks

-- the end of a body behind a trailer section, which is read and dropped; it has at most 64 field lines
abbrev pub trailers_end : Option (List Field) → ℕ → List ℕ → BodyEnd
trailers_end None lines rest = Breaks
trailers_end (Some fields) lines rest = if nat_lt (1 + field_limit) lines then Breaks else EndsBefore rest

-- the trailer section behind the last chunk's size line (RFC 9112, section 7.1.2)
abbrev pub trailers : Cut → BodyEnd
trailers NoEnd = GoesOn
trailers TooLarge = Breaks
trailers (Ends section rest) = trailers_end (section_in section) (line_feeds section) rest

-- a chunk of this size, of the bytes behind its size line; the chunk of size 0 is the last, and has no data
abbrev pub sized_chunk : ℕ → List ℕ → Chunk
sized_chunk size bytes =
    if size == 0 then Stops [] (trailers (cut_at section_size bytes))
    else (if nat_lt (length bytes) size then Stops bytes GoesOn
    else behind_data (take size bytes) (drop size bytes))

-- a chunk behind its size line, where that is read
abbrev pub chunk_behind : Option ChunkLine → List ℕ → Chunk
chunk_behind None rest = Stops [] Breaks
chunk_behind (Some l) rest = sized_chunk (chunk_size l) rest

-- a chunk whose size line is cut off
abbrev pub chunk_by : Cut → Chunk
chunk_by NoEnd = Stops [] GoesOn
chunk_by TooLarge = Stops [] Breaks
chunk_by (Ends line rest) = chunk_behind (chunk_line_in line) rest

-- what bytes are that begin with a chunk size line
abbrev pub chunk_of : List ℕ → Chunk
chunk_of bytes = chunk_by (cut_at line_size bytes)

-- a body with the data of a chunk before it
abbrev pub behind : List ℕ → Body → Body
behind chunk b = record { bytes = chunk ++ b.bytes; over = b.over }

-- a chunk, and the body of the bytes behind it
abbrev pub then_chunks : (List ℕ → Body) → Chunk → Body
then_chunks go (Stops chunk over) = record { bytes = chunk; over = over }
then_chunks go (Whole chunk rest) = behind chunk (go rest)

-- the body in chunks, of at most k
unfoldable pub decoded_within : ℕ → List ℕ → Body
decoded_within zero bytes = record { bytes = []; over = GoesOn }
decoded_within (suc k) bytes = then_chunks (decoded_within k) (chunk_of bytes)

-- the body in chunks; each takes a byte at least, and the empty list has a level of its own
unfoldable pub decoded : List ℕ → Body
decoded bytes = decoded_within (suc (length bytes)) bytes

-- a body of a known length
abbrev pub counted : ℕ → List ℕ → Body
counted size bytes =
    if nat_lt (length bytes) size then record { bytes = bytes; over = GoesOn }
    else record { bytes = take size bytes; over = EndsBefore (drop size bytes) }

-- the body of the bytes behind a head
abbrev pub body_of : BodyLength → List ℕ → Body
body_of Nothing bytes = record { bytes = []; over = EndsBefore bytes }
body_of (Length size) bytes = counted size bytes
body_of Chunked bytes = decoded bytes
