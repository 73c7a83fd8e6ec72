-- The rules that a frame keeps by itself and by the frames before it, each as the standard says it (RFC 9113,
-- sections 3.4, 4.2, 4.3, 6 and 8.4).
use Rattle.std.specs.Prelude.{◌≡◌, ◌≢◌, ◌≤◌, ◌==◌, ◌||◌, ◌%◌, ℕ, true, false, List, [], ◌∷◌, if◌then◌else◌, Some, None}
use Rattle.h2_frames.specs.Http2Codes.{DATA, HEADERS, PRIORITY, RST_STREAM, SETTINGS, PUSH_PROMISE, PING, GOAWAY, WINDOW_UPDATE, CONTINUATION, ACK, END_HEADERS}
use Rattle.h2_frames.specs.FrameHead.{Frame, has_flag}
use Rattle.h2_frames.specs.FrameErrors.{Context}
use Rattle.h2_frames.specs.FrameContent.{bytes_before, bytes_around}

-- a payload has a size of its type
pub record HasSizeOfKind (size kind flags : ℕ) : Type 0 where
  -- the pad length and the priority fields fit (sections 6.1 and 6.2)
  pub fields : bytes_before kind flags ≤ size
  -- sections 6.3 and 6.4
  pub priority : kind ≡ PRIORITY → size ≡ 5
  pub rst_stream : kind ≡ RST_STREAM → size ≡ 4
  -- whole settings, and none in an acknowledgement (section 6.5)
  pub settings : kind ≡ SETTINGS → size % 6 ≡ 0
  pub acknowledgement : kind ≡ SETTINGS → has_flag ACK flags ≡ true → size ≡ 0
  -- sections 6.7 to 6.9
  pub ping : kind ≡ PING → size ≡ 8
  pub goaway : kind ≡ GOAWAY → 8 ≤ size
  pub window_update : kind ≡ WINDOW_UPDATE → size ≡ 4

-- a frame of a stream is not on stream 0, and one of the connection is
pub record HasStreamOfKind (stream kind : ℕ) : Type 0 where
  -- sections 6.1 to 6.4
  pub data_frame : kind ≡ DATA → stream ≢ 0
  pub headers : kind ≡ HEADERS → stream ≢ 0
  pub priority : kind ≡ PRIORITY → stream ≢ 0
  pub rst_stream : kind ≡ RST_STREAM → stream ≢ 0
  -- section 6.6
  pub push_promise : kind ≡ PUSH_PROMISE → stream ≢ 0
  -- sections 6.5, 6.7 and 6.8
  pub settings : kind ≡ SETTINGS → stream ≡ 0
  pub ping : kind ≡ PING → stream ≡ 0
  pub goaway : kind ≡ GOAWAY → stream ≡ 0

-- the rules of which a head shows all
pub record KeepsHeadRules (at : Context) (size kind flags stream : ℕ) : Type 0 where
  -- the first frame is SETTINGS without ACK (section 3.4)
  pub first : at.first ≡ true → (kind ≡ SETTINGS) × (has_flag ACK flags ≡ false)
  -- a payload has at most 16,384 bytes (section 4.2)
  pub limit : size ≤ 16384
  -- an open field block is followed by CONTINUATION of its stream, which stands nowhere else (sections 4.3 and 6.10)
  pub block : (number : ℕ) → at.block ≡ Some number → (kind ≡ CONTINUATION) × (stream ≡ number)
  pub no_block : at.block ≡ None → kind ≢ CONTINUATION
  -- frames of a stream are not on stream 0, and those of the connection are (sections 6.1 to 6.8)
  pub of_kind : HasStreamOfKind stream kind
  -- server push does not come (section 8.4)
  pub no_push : kind ≢ PUSH_PROMISE
  pub payload : HasSizeOfKind size kind flags

-- a whole frame keeps its rules
pub record KeepsRules (at : Context) (f : Frame) : Type 0 where
  pub head : KeepsHeadRules at f.size f.kind f.flags f.stream
  -- the padding fits behind the pad length and the priority fields (sections 6.1 and 6.2)
  pub padding : bytes_around f ≤ f.size

-- where the frame behind a frame stands: HEADERS and CONTINUATION without END_HEADERS leave a field block open
-- (section 4.3)
abbrev pub after_frame : Context → Frame → Context
after_frame at f = record {
  first = false;
  block = if f.kind == HEADERS || f.kind == CONTINUATION
      then (if has_flag END_HEADERS f.flags then None else Some f.stream) else at.block;
}

-- where the frame behind frames stands
abbrev pub context_behind : Context → List Frame → Context
context_behind at [] = at
context_behind at (f ∷ fs) = context_behind (after_frame at f) fs

-- frames one behind another keep their rules, each where it stands
abbrev pub KeepRules : Context → List Frame → Type 0
KeepRules at [] = Unit {0}
KeepRules at (f ∷ fs) = KeepsRules at f × KeepRules (after_frame at f) fs
