-- The head of a frame (RFC 9113, section 4.1): nine bytes, of which some may not have come.
use Rattle.std.specs.Prelude.{◌==◌, ◌+◌, ◌*◌, ◌/◌, ◌%◌, ◌++◌, ℕ, Bool, true, false, List, [], ◌∷◌, length, drop, if◌then◌else◌, slice_index_or, bit_and}

-- the payload's length, with a byte in the place of each that has not come
abbrev pub length_with : ℕ → List ℕ → ℕ
length_with b bytes = slice_index_or bytes 0 b * 65536 + slice_index_or bytes 1 b * 256 + slice_index_or bytes 2 b

-- the stream without the reserved bit, in the same way
abbrev pub stream_with : ℕ → List ℕ → ℕ
stream_with b bytes = (slice_index_or bytes 5 b % 128) * 16777216 + slice_index_or bytes 6 b * 65536 + slice_index_or bytes 7 b * 256 + slice_index_or bytes 8 b

-- the frame type
abbrev pub kind_of : List ℕ → ℕ
kind_of bytes = slice_index_or bytes 3 0

-- the flags
abbrev pub flags_of : List ℕ → ℕ
flags_of bytes = slice_index_or bytes 4 0

-- whether a flag is set
abbrev pub has_flag : ℕ → ℕ → Bool
has_flag flag flags = if bit_and flags flag == 0 then false else true

-- the bytes of the frame: nine, and as many as its head says
abbrev pub frame_size : List ℕ → ℕ
frame_size bytes = 9 + length_with 0 bytes

-- a frame: the payload's length as the head says, type, flags, stream, and the payload
pub record Frame : Type 0 where
  pub size : ℕ
  pub kind : ℕ
  pub flags : ℕ
  pub stream : ℕ
  pub payload : List ℕ

-- the frame that bytes are, of which at least the head has come
abbrev pub frame_of : List ℕ → Frame
frame_of bytes = record { size = length_with 0 bytes; kind = kind_of bytes; flags = flags_of bytes; stream = stream_with 0 bytes; payload = drop 9 bytes }

-- the nine bytes of a head, with the reserved bit unset
abbrev pub head_bytes : ℕ → ℕ → ℕ → ℕ → List ℕ
head_bytes size kind flags stream = (size / 65536) ∷ (size / 256 % 256) ∷ (size % 256) ∷ kind ∷ flags ∷ (stream / 16777216) ∷ (stream / 65536 % 256) ∷ (stream / 256 % 256) ∷ (stream % 256) ∷ []

-- the bytes of a frame
abbrev pub frame_bytes : ℕ → ℕ → ℕ → List ℕ → List ℕ
frame_bytes kind flags stream payload = head_bytes (length payload) kind flags stream ++ payload
