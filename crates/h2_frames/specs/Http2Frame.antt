-- A list of bytes cut into frames, up to the first that breaks a rule (RFC 9113, sections 4.1
-- and 5.4.1). Nothing here speaks of a reader or of pieces.
use Rattle.std.specs.Prelude.{◌≡◌, ◌==◌, ◌-◌, ◌||◌, ◌++◌, ℕ, suc, zero, true, false, List, [], ◌∷◌, length, take, drop, map, if◌then◌else◌, nat_lt, Option, Some, None, min}
use Rattle.base.specs.Saturated.{saturated}
use Rattle.h2_frames.specs.Http2Codes.{HEADERS, CONTINUATION, END_HEADERS}
use Rattle.h2_frames.specs.declared.fault.H2Fault.{H2Fault}
use Rattle.h2_frames.specs.FrameHead.{stream_with, kind_of, flags_of, has_flag, frame_size, Frame, frame_of}
use Rattle.h2_frames.specs.FrameErrors.{Context, judge, Judgement, Open, Fine, Fault}

-- what stands at the front of bytes: less than a frame, one that breaks a rule, or a whole one
pub data Front : Type 0 where
  Short : Front
  Broken : (code : ℕ) → Front
  Whole : (frame rest : List ℕ) → Front

-- what stands at the front where no rule is broken
abbrev pub whole_of : List ℕ → Front
whole_of bytes = if nat_lt (length bytes) 9 then Short else (if nat_lt (length bytes) (frame_size bytes) then Short else Whole (take (frame_size bytes) bytes) (drop (frame_size bytes) bytes))

-- what stands at the front by its judgement
abbrev pub front_of : Judgement → List ℕ → Front
front_of (Fault code) bytes = Broken code
front_of Open bytes = whole_of bytes
front_of Fine bytes = whole_of bytes

-- the bytes of the frame at the front that its rules speak of: the head and the first byte of the payload
abbrev pub judged : List ℕ → List ℕ
judged bytes = if nat_lt (length bytes) 9 then bytes else take (min 10 (frame_size bytes)) bytes

-- what stands at the front of bytes in a context
abbrev pub front : Context → List ℕ → Front
front at bytes = front_of (judge at (judged bytes)) bytes

-- where the frame behind a frame stands: HEADERS and CONTINUATION without END_HEADERS leave a field block open (section 4.3)
abbrev pub after : Context → List ℕ → Context
after at frame = record {
  first = false;
  block =
      if kind_of frame == HEADERS || kind_of frame == CONTINUATION then (if has_flag END_HEADERS (flags_of frame) then None else Some (stream_with 0 frame)) else at.block;
}

-- where the first frame stands
abbrev pub start : Context
start = record { first = true; block = None }

-- the bytes of each whole frame, the bytes behind the last of them, where these stand, and the code of the rule that they break
pub record Cut : Type 0 where
  pub frames : List (List ℕ)
  pub rest : List ℕ
  pub context : Context
  pub fault : Option ℕ

-- the same with frames before it
abbrev pub behind : List (List ℕ) → Cut → Cut
behind frames c = record { frames = frames ++ c.frames; rest = c.rest; context = c.context; fault = c.fault }

-- the frames of bytes by what stands at their front
abbrev pub goes_on : (Context → List ℕ → Cut) → Context → List ℕ → Front → Cut
goes_on go at bytes Short = record { frames = []; rest = bytes; context = at; fault = None }
goes_on go at bytes (Broken code) = record { frames = []; rest = bytes; context = at; fault = Some code }
goes_on go at bytes (Whole frame rest) = behind (frame ∷ []) (go (after at frame) rest)

-- so many frames at most
unfoldable pub cut_within : ℕ → Context → List ℕ → Cut
cut_within zero at bytes = record { frames = []; rest = bytes; context = at; fault = None }
cut_within (suc k) at bytes = goes_on (cut_within k) at bytes (front at bytes)

-- each frame has nine bytes at least, so that there are no more frames than bytes
unfoldable pub cut_at : Context → List ℕ → Cut
cut_at at bytes = cut_within (length bytes) at bytes

-- the frames of all that came
unfoldable pub cut : List ℕ → Cut
cut bytes = cut_at start bytes

-- the frames of a list of bytes, up to the first that breaks a rule
abbrev pub frames_of : List ℕ → List Frame
frames_of bytes = map frame_of (cut bytes).frames

-- the bytes behind the last of them
abbrev pub rest_of : List ℕ → List ℕ
rest_of bytes = (cut bytes).rest

-- a broken rule with the offset of its frame
abbrev pub fault_at : ℕ → Option ℕ → Option H2Fault
fault_at place None = None
fault_at place (Some code) = Some (record { place = saturated place; code = code })

-- the first rule that is broken in a list of bytes: the offset of its frame, and its code
abbrev pub first_fault : List ℕ → Option H2Fault
first_fault bytes = fault_at (length bytes - length (cut bytes).rest) (cut bytes).fault

-- bytes that are whole frames, in which no rule is broken
pub record AreFrames (bytes : List ℕ) : Type 0 where
  pub rest : (cut bytes).rest ≡ []
  pub fault : (cut bytes).fault ≡ None
