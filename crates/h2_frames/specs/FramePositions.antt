-- Where a reader stands in the bytes for which it stands, and which of them a part tells.
use Rattle.std.specs.Prelude.{◌≡◌, ◌≢◌, ◌≤◌, ◌<◌, ◌+◌, ◌++◌, ℕ, List, [], length, nat_le, Option, Some, None}
use Rattle.base.specs.Bytes.{AreBytes}
use Rattle.base.specs.Saturated.{saturated}
use Rattle.h2_frames.specs.declared.parts.Part.{Part}
use Rattle.h2_frames.specs.declared.parts.Part.TheVariants.{Begin, Piece, Done}
use Rattle.h2_frames.specs.FrameHead.{frame_size}
use Rattle.h2_frames.specs.Http2Frame.{AreFrames, first_fault, frames_of, rest_of}
use Rattle.h2_frames.specs.FrameReader.{Kept, Position, bytes_read, begin_of, part_of}
use Rattle.h2_frames.specs.FrameProgress.{has_begun}

-- a part of the frame whose bytes were seen, and the piece that was taken with it: a head is whole with its ninth
-- byte, a piece goes on with the payload, and at the end all of it was seen
abbrev pub IsOfPart : Option Part → List ℕ → List ℕ → Type 0
IsOfPart None seen piece = 9 ≤ length (seen ++ piece) → piece ≡ []
IsOfPart (Some (Begin size kind flags stream)) seen piece = (length seen < 9) × (length (seen ++ piece) ≡ 9)
    × (Begin size kind flags stream ≡ begin_of (seen ++ piece))
IsOfPart (Some (Piece n)) seen piece = (9 ≤ length seen) × (length piece ≡ n)
    × (length (seen ++ piece) ≤ frame_size seen)
IsOfPart (Some Done) seen piece = (9 ≤ length seen) × (length seen ≡ frame_size seen) × (piece ≡ [])

-- a reader that refused nothing, and the bytes for which it stands
pub record StandsWithin (kept : Kept) (p : Position) : Type 0 where
  pub bytes : AreBytes (bytes_read p)
  pub frames : AreFrames p.before
  pub fine : first_fault (bytes_read p) ≡ None
  -- the offset of the first byte of the frame that is read
  pub offset : kept.place ≡ saturated (length p.before)
  pub begun : has_begun kept ≡ nat_le 9 (length p.seen)
  pub left : 9 ≤ length p.seen → kept.left + length p.seen ≡ frame_size p.seen
  -- where no Done is due, the frames were all told, and the others are of the frame behind them
  pub told : part_of p.seen [] ≢ Some Done → frames_of (bytes_read p) ≡ frames_of p.before
  pub rest : part_of p.seen [] ≢ Some Done → rest_of (bytes_read p) ≡ p.seen
