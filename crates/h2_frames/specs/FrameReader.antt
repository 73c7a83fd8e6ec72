-- The bytes for which a reader stands, and its answers to more of them.
use Rattle.std.specs.Prelude.{◌≡◌, ◌≤◌, ◌<◌, ◌==◌, ◌+◌, ◌-◌, ◌*◌, ◌++◌, ℕ, List, [], length, take, min, if◌then◌else◌, nat_lt, nat_le, Option, Some, None, Result, Ok, Err}
use Rattle.base.specs.Bytes.{AreBytes}
use Rattle.base.specs.Saturated.{saturated}
use Rattle.h2_frames.specs.declared.fault.H2Fault.{H2Fault}
use Rattle.h2_frames.specs.declared.parts.FrameFed.{FrameFed}
use Rattle.h2_frames.specs.declared.parts.Part.{Part}
use Rattle.h2_frames.specs.declared.parts.Part.TheVariants.{Begin, Piece, Done}
use Rattle.h2_frames.specs.FrameHead.{length_with, stream_with, kind_of, flags_of, frame_size}
use Rattle.h2_frames.specs.FrameErrors.{Context, judge, Judgement, Open, Fine, Fault}
use Rattle.h2_frames.specs.Http2Frame.{AreFrames, Broken, front, cut, first_fault}

-- how far a list of bytes was read: the frames that were told to their end, and the bytes behind them
pub record Position : Type 0 where
  pub before : List ℕ
  pub seen : List ℕ

-- no byte came
abbrev pub no_bytes : Position
no_bytes = record { before = []; seen = [] }

-- all bytes that came
abbrev pub bytes_read : Position → List ℕ
bytes_read p = p.before ++ p.seen

-- how many bytes a call takes: up to the end of the head, and then up to the end of the payload
abbrev pub taken_of : List ℕ → List ℕ → ℕ
taken_of seen bytes = if nat_lt (length seen) 9 then min (9 - length seen) (length bytes) else min (frame_size seen - length seen) (length bytes)

-- the part that a whole head is
abbrev pub begin_of : List ℕ → Part
begin_of head = Begin (length_with 0 head) (kind_of head) (flags_of head) (stream_with 0 head)

-- the part that is known with the last of them
abbrev pub part_of : List ℕ → List ℕ → Option Part
part_of seen bytes = if nat_lt (length seen) 9
    then (if nat_lt (length seen + length bytes) 9 then None else Some (begin_of (seen ++ take (9 - length seen) bytes)))
    else (if nat_le (frame_size seen) (length seen) then Some Done
    else (if length bytes == 0 then None else Some (Piece (taken_of seen bytes))))

-- the answer where no rule is broken
abbrev pub fed_of : List ℕ → List ℕ → FrameFed
fed_of seen bytes = record { taken = taken_of seen bytes; part = part_of seen bytes }

-- all bytes that came by the end of a call
abbrev pub bytes_after : Position → List ℕ → List ℕ
bytes_after p bytes = p.before ++ (p.seen ++ take (taken_of p.seen bytes) bytes)

-- a fault is the answer, and without one the part
abbrev pub answer_by : Option H2Fault → FrameFed → Result FrameFed H2Fault
answer_by None fed = Ok fed
answer_by (Some f) fed = Err f

-- the answer to bytes: the first fault of all that came, and where there is none the part
abbrev pub answer_of : Position → List ℕ → Result FrameFed H2Fault
answer_of p bytes = answer_by (first_fault (bytes_after p bytes)) (fed_of p.seen bytes)

-- how far the list is read after a call: its bytes are added, and Done moves on to the next frame
abbrev pub position_by : Option Part → Position → List ℕ → Position
position_by (Some Done) p bytes = record { before = p.before ++ p.seen; seen = [] }
position_by (Some (Begin size kind flags stream)) p bytes = record { before = p.before; seen = p.seen ++ bytes }
position_by (Some (Piece n)) p bytes = record { before = p.before; seen = p.seen ++ bytes }
position_by None p bytes = record { before = p.before; seen = p.seen ++ bytes }

-- after a refusal all bytes that were given count
abbrev pub position_after : Result FrameFed H2Fault → Position → List ℕ → Position
position_after (Ok fed) p bytes = position_by fed.part p (take fed.taken bytes)
position_after (Err f) p bytes = record { before = p.before; seen = p.seen ++ bytes }

-- what a reader keeps: where the frame stands, the offset of its first byte, its first bytes (ten at
-- most), how much of its payload is to come, and the fault that came
pub record Kept : Type 0 where
  pub context : Context
  pub place : ℕ
  pub head : List ℕ
  pub left : ℕ
  pub fault : Option H2Fault

-- no rule is broken so far
abbrev pub IsNoFault : Judgement → Type 0
IsNoFault Open = Unit {0}
IsNoFault Fine = Unit {0}
IsNoFault (Fault code) = ⊥

-- no rule is broken: whole frames were told, and the others are of the frame behind them
pub record StandsAt (kept : Kept) (before seen : List ℕ) : Type 0 where
  pub frames : AreFrames before
  pub context : (cut before).context ≡ kept.context
  pub place : kept.place ≡ saturated (length before)
  pub head : kept.head ≡ take 10 seen
  pub left : 9 ≤ length seen → kept.left + length seen ≡ frame_size seen
  pub fine : IsNoFault (judge kept.context kept.head)
  pub bytes : AreBytes (before ++ seen)

-- whole frames were told, and the others break a rule
pub record StandsBroken (f : H2Fault) (before seen : List ℕ) : Type 0 where
  pub frames : AreFrames before
  pub broken : front (cut before).context seen ≡ Broken f.code
  pub place : f.place ≡ saturated (length before)
  pub bytes : AreBytes (before ++ seen)

-- the one or the other
abbrev pub StandsBy : Option H2Fault → Kept → Position → Type 0
StandsBy None kept p = StandsAt kept p.before p.seen
StandsBy (Some f) kept p = StandsBroken f p.before p.seen

-- this reader stands for a list of bytes that was read so far
pub record Stands (kept : Kept) (p : Position) : Type 0 where
  pub by : StandsBy kept.fault kept p

-- a payload has ended and was not told to its end
abbrev pub done_is_due : Kept → ℕ
done_is_due kept = if nat_lt (length kept.head) 9 then 0 else (if kept.left == 0 then 1 else 0)

-- what is left to do with bytes: it falls with each call that has any
abbrev pub work_left : Kept → ℕ → ℕ
work_left kept n = 2 * n + done_is_due kept

-- a piece is what was taken, and at least a byte
abbrev pub IsPart : ℕ → Option Part → Type 0
IsPart taken None = Unit {0}
IsPart taken (Some (Begin size kind flags stream)) = 0 < taken
IsPart taken (Some (Piece n)) = (n ≡ taken) × (0 < n)
IsPart taken (Some Done) = taken ≡ 0
