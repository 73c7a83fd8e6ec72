-- What an answer of a reader says to a caller that keeps no bytes.
use Rattle.std.specs.Prelude.{◌≡◌, ◌≤◌, ◌<◌, ◌==◌, ◌+◌, ◌-◌, ◌^◌, ◌++◌, ℕ, Bool, true, false, List, [], length, take, min, if◌then◌else◌, nat_lt, nat_le, slice_index_or, Option, Some, None}
use Rattle.base.specs.Saturated.{saturated}
use Rattle.h2_frames.specs.declared.fault.H2Fault.{H2Fault}
use Rattle.h2_frames.specs.declared.parts.FrameFed.{FrameFed}
use Rattle.h2_frames.specs.declared.parts.Part.{Part}
use Rattle.h2_frames.specs.declared.parts.Part.TheVariants.{Begin, Piece, Done}
use Rattle.h2_frames.specs.FrameHead.{length_with, kind_of, flags_of, frame_size}
use Rattle.h2_frames.specs.Http2Frame.{after}
use Rattle.h2_frames.specs.FrameErrors.{judge, Fault}
use Rattle.h2_frames.specs.FrameContent.{bytes_before, padding_size}
use Rattle.h2_frames.specs.FrameRules.{KeepsHeadRules}
use Rattle.h2_frames.specs.FrameReader.{Kept, IsNoFault, begin_of}

-- a head is whole, and the frame was not told to its end
abbrev pub has_begun : Kept → Bool
has_begun kept = nat_le 9 (length kept.head)

-- how many of so many bytes a call takes: up to the end of the head, and then up to the end of the payload
abbrev pub taken_next : Kept → ℕ → ℕ
taken_next kept n = if has_begun kept then min kept.left n else min (9 - length kept.head) n

-- the part that is known with the last of them
abbrev pub part_next : Kept → List ℕ → Option Part
part_next kept bytes = if has_begun kept then (if kept.left == 0 then Some Done
    else (if length bytes == 0 then None else Some (Piece (min kept.left (length bytes)))))
    else (if nat_lt (length kept.head + length bytes) 9 then None
    else Some (begin_of (kept.head ++ take (9 - length kept.head) bytes)))

-- what is kept after it: the bytes of the head and the first of the payload, and what is left of that; at the end
-- the reader stands in front of the next frame
abbrev pub kept_next : Kept → List ℕ → Option Part → Kept
kept_next old bytes None = if has_begun old then old else record old { head = old.head ++ bytes }
kept_next old bytes (Some (Begin size kind flags stream)) =
    record old { head = old.head ++ take (9 - length old.head) bytes; left = size }
kept_next old bytes (Some (Piece n)) =
    record old { head = old.head ++ take (min old.left (10 - length old.head)) bytes; left = old.left - n }
kept_next old bytes (Some Done) = record {
  context = after old.context old.head;
  place = saturated (old.place + frame_size old.head);
  head = [];
  left = 0;
  fault = None;
}

-- what a part leaves of a frame: a head begins it with all of its payload to come, a piece takes off, and at the
-- end nothing is left
abbrev pub Leaves : Kept → Option Part → Kept → Type 0
Leaves old None new = (has_begun new ≡ has_begun old) × (new.left ≡ old.left)
Leaves old (Some (Begin size kind flags stream)) new = (has_begun old ≡ false) × (has_begun new ≡ true)
    × (new.left ≡ size)
Leaves old (Some (Piece n)) new = (has_begun old ≡ true) × (has_begun new ≡ true) × (n + new.left ≡ old.left)
Leaves old (Some Done) new = (has_begun old ≡ true) × (has_begun new ≡ false) × (old.left ≡ 0) × (new.left ≡ 0)

-- the rules of which a part tells that they are kept: with a head all but the one on padding, and with the first
-- byte of a payload that one
abbrev pub TellsKept : Kept → List ℕ → Option Part → Type 0
TellsKept old bytes None = Unit {0}
TellsKept old bytes (Some (Begin size kind flags stream)) = KeepsHeadRules old.context size kind flags stream
    × (stream < 2 ^ 31)
TellsKept old bytes (Some (Piece n)) = length old.head ≡ 9 → bytes_before (kind_of old.head) (flags_of old.head)
    + padding_size (kind_of old.head) (flags_of old.head) (slice_index_or bytes 0 0) ≤ length_with 0 old.head
TellsKept old bytes (Some Done) = Unit {0}

-- the bytes of the frame of which a call judges: those that are kept, with more of the head, or with the first of
-- the payload
abbrev pub judged_next : Kept → List ℕ → List ℕ
judged_next kept bytes = kept.head
    ++ take (if has_begun kept then min kept.left (10 - length kept.head) else 9 - length kept.head) bytes

-- an answer where these break no rule
pub record Follows (old : Kept) (bytes : List ℕ) (fed : FrameFed) (new : Kept) : Type 0 where
  pub taken : fed.taken ≡ taken_next old (length bytes)
  pub part : fed.part ≡ part_next old bytes
  pub next : new ≡ kept_next old bytes fed.part
  pub leaves : Leaves old fed.part new
  pub kept : TellsKept old bytes fed.part
  -- between frames nothing is left
  pub between : has_begun new ≡ false → new.left ≡ 0
  pub fine : IsNoFault (judge old.context old.head) → IsNoFault (judge old.context (judged_next old bytes))

-- a refusal, where none came before: the rule that they break, and the offset of the frame
pub record IsRefused (old : Kept) (bytes : List ℕ) (f : H2Fault) : Type 0 where
  pub code : judge old.context (judged_next old bytes) ≡ Fault f.code
  pub offset : f.place ≡ old.place
