-- Calls of a reader one after another, none of them refused: whoever feeds it, in whatever pieces.
use Rattle.std.specs.Prelude.{◌≡◌, ◌≢◌, ◌-◌, ◌++◌, ℕ, List, [], length, drop, if◌then◌else◌, nat_lt}
use Rattle.std.specs.Prelude.{Option, Some, None, option_map, Result}
use Rattle.std.specs.Option.{option_to_list}
use Rattle.base.specs.PiecewiseReading.{PieceReader, FeedCall, taken_in_all, told_by_all}
use Rattle.h2_frames.specs.declared.fault.H2Fault.{H2Fault}
use Rattle.h2_frames.specs.declared.parts.FrameFed.{FrameFed}
use Rattle.h2_frames.specs.declared.parts.Part.{Part}
use Rattle.h2_frames.specs.declared.parts.Part.TheVariants.{Begin, Piece, Done}
use Rattle.h2_frames.specs.FrameHead.{Frame, frame_of}
use Rattle.h2_frames.specs.Http2Frame.{first_fault, frames_of, rest_of}
use Rattle.h2_frames.specs.FrameReader.{Position, bytes_read, part_of, answer_of, position_after}

-- what a caller was told: the frames to their end, and the one of which parts were told
pub record Told : Type 0 where
  pub frames : List Frame
  pub current : Option Frame

-- nothing came
abbrev pub nothing_told : Told
nothing_told = record { frames = []; current = None }

-- a frame with more of its payload
abbrev pub with_more : List ℕ → Frame → Frame
with_more bytes f = record f { payload = f.payload ++ bytes }

-- a part begins a frame, adds the last bytes that were taken to its payload, or ends it
abbrev pub told_by : Option Part → List ℕ → Told → Told
told_by None bytes told = told
told_by (Some (Begin size kind flags stream)) bytes told = record {
  frames = told.frames;
  current = Some (record { size = size; kind = kind; flags = flags; stream = stream; payload = [] });
}
told_by (Some (Piece n)) bytes told = record {
  frames = told.frames;
  current = option_map (with_more (drop (length bytes - n) bytes)) told.current;
}
told_by (Some Done) bytes told = record { frames = told.frames ++ option_to_list told.current; current = None }

-- the frame of which these bytes have come, once its head is whole
abbrev pub current_of : List ℕ → Option Frame
current_of bytes = if nat_lt (length bytes) 9 then None else Some (frame_of bytes)

-- how many bytes a call took
abbrev pub taken_by : FrameFed → ℕ
taken_by fed = fed.taken

-- a call of a reader by how far the list is read: it has the answer that the definitions give
pub record IsFeed (old : Position) (bytes : List ℕ) (result : Result FrameFed H2Fault) (new : Position) : Type 0 where
  pub answer : answer_of old bytes ≡ result
  pub next : new ≡ position_after result old bytes

-- a reader as one of pieces, which tells frames
abbrev pub frame_reading : PieceReader Position FrameFed H2Fault Told
frame_reading = record { Step = IsFeed; taken = taken_by; tells = λ fed bytes told. told_by fed.part bytes told }

-- what the caller of all calls was told
abbrev pub told_of : List (FeedCall FrameFed) → Told
told_of calls = told_by_all frame_reading nothing_told calls

-- the parts of a run are those of the frames of the bytes that it took, in which no rule is broken
pub record TellsFrames (calls : List (FeedCall FrameFed)) (last : Position) : Type 0 where
  pub read : bytes_read last ≡ taken_in_all taken_by calls
  pub fine : first_fault (taken_in_all taken_by calls) ≡ None
  pub frames : (told_of calls).frames ≡ frames_of last.before
  pub current : (told_of calls).current ≡ current_of last.seen
  -- where no Done is due, they are all frames, and the one that the rest begins
  pub all_frames : part_of last.seen [] ≢ Some Done → (told_of calls).frames ≡ frames_of (taken_in_all taken_by calls)
  pub all_current : part_of last.seen [] ≢ Some Done
      → (told_of calls).current ≡ current_of (rest_of (taken_in_all taken_by calls))
