-- The frames of a list of bytes with their offsets.
use Rattle.std.specs.Prelude.{◌≡◌, ◌≤◌, ◌+◌, ℕ, List, [], ◌∷◌, length, take, drop}
use Rattle.h2_frames.specs.FrameHead.{Frame, frame_of}
use Rattle.h2_frames.specs.Http2Frame.{frames_of}

-- a frame, and the offset of its first byte
pub record FrameAt : Type 0 where
  pub offset : ℕ
  pub frame : Frame

-- frames one behind another from an offset on: each has nine bytes and its payload
abbrev pub frames_from : ℕ → List Frame → List FrameAt
frames_from offset [] = []
frames_from offset (f ∷ fs) = record { offset = offset; frame = f } ∷ frames_from (offset + (9 + f.size)) fs

-- the frames of a list of bytes with their offsets, up to the first that breaks a rule
abbrev pub frames_with_offsets : List ℕ → List FrameAt
frames_with_offsets bytes = frames_from 0 (frames_of bytes)

-- how many bytes frames have together
abbrev pub bytes_of_frames : List Frame → ℕ
bytes_of_frames [] = 0
bytes_of_frames (f ∷ fs) = (9 + f.size) + bytes_of_frames fs

-- the bytes from the offset on begin with the frame
pub record StandsIn (bytes : List ℕ) (at : FrameAt) : Type 0 where
  pub within : at.offset + (9 + at.frame.size) ≤ length bytes
  pub is : frame_of (take (9 + at.frame.size) (drop at.offset bytes)) ≡ at.frame
