-- Where the content of a frame lies in its payload: behind the pad length and the priority fields, and before the
-- padding (RFC 9113, sections 6.1 and 6.2). The content is the data of a DATA frame, and the fragment of a field
-- block of a HEADERS or CONTINUATION frame.
use Rattle.std.specs.Prelude.{◌≡◌, ◌==◌, ◌+◌, ◌-◌, ◌++◌, ◌&&◌, ◌||◌, ℕ, Bool, true, false, List, [], ◌∷◌, length, take, drop, if◌then◌else◌, slice_index_or, nat_lt}
use Rattle.h2_frames.specs.Http2Codes.{DATA, HEADERS, CONTINUATION, PADDED, PRIORITY_FLAG}
use Rattle.h2_frames.specs.FrameHead.{Frame, has_flag}

-- the frames that have padding: DATA and HEADERS with PADDED (sections 6.1 and 6.2)
abbrev pub is_padded : ℕ → ℕ → Bool
is_padded kind flags = (kind == DATA || kind == HEADERS) && has_flag PADDED flags

-- the frames that have priority fields: HEADERS with PRIORITY (section 6.2)
abbrev pub has_priority : ℕ → ℕ → Bool
has_priority kind flags = kind == HEADERS && has_flag PRIORITY_FLAG flags

-- the bytes before the content: one of the pad length, and five of the priority fields
abbrev pub bytes_before : ℕ → ℕ → ℕ
bytes_before kind flags = (if is_padded kind flags then 1 else 0) + (if has_priority kind flags then 5 else 0)

-- the bytes of padding behind it, by the first byte of the payload
abbrev pub padding_size : ℕ → ℕ → ℕ → ℕ
padding_size kind flags first = if is_padded kind flags then first else 0

-- the bytes of a frame's payload that are no content
abbrev pub bytes_around : Frame → ℕ
bytes_around f = bytes_before f.kind f.flags + padding_size f.kind f.flags (slice_index_or f.payload 0 0)

-- a payload is the pad length, the priority fields, the content and the padding, each where the frame has it
pub record HasContent (f : Frame) (content : List ℕ) : Type 0 where
  pub pad_length : List ℕ
  pub priority_fields : List ℕ
  pub padding : List ℕ
  pub payload : f.payload ≡ pad_length ++ priority_fields ++ content ++ padding
  pub padded : is_padded f.kind f.flags ≡ true → pad_length ≡ length padding ∷ []
  pub not_padded : is_padded f.kind f.flags ≡ false → (pad_length ≡ []) × (padding ≡ [])
  pub priority : has_priority f.kind f.flags ≡ true → length priority_fields ≡ 5
  pub no_priority : has_priority f.kind f.flags ≡ false → priority_fields ≡ []

-- how many bytes of content the whole frame has, known once the first byte of a padded payload has come
abbrev pub content_size : Frame → ℕ
content_size f = f.size - bytes_around f

-- the content of the payload, or of as much of it as has come
abbrev pub content_of : Frame → List ℕ
content_of f = take (content_size f) (drop (bytes_before f.kind f.flags) f.payload)

-- the content among bytes of the payload from an offset in it on, by how many bytes stand before the content, and
-- how many it has
abbrev pub content_among : ℕ → ℕ → ℕ → List ℕ → List ℕ
content_among before size offset bytes = take (size - (offset - before)) (drop (before - offset) bytes)

-- the data of a DATA frame; others have none
abbrev pub data_of : Frame → List ℕ
data_of f = if f.kind == DATA then content_of f else []

-- the fragment of a field block that a HEADERS or CONTINUATION frame has; others have none
abbrev pub fragment_of : Frame → List ℕ
fragment_of f = if f.kind == HEADERS || f.kind == CONTINUATION then content_of f else []

-- with its head alone, a frame that keeps the rules so far may still break the one on padding: the pad length is to
-- come, and not every byte fits
abbrev pub waits_for_padding : ℕ → ℕ → ℕ → Bool
waits_for_padding kind flags size = is_padded kind flags && nat_lt size (bytes_before kind flags + 255)
