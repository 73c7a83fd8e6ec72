-- What one call does to the state that a reader keeps, for each of its three steps.
use Rattle.std.specs.Prelude.{◌≡◌, ◌≤◌, ◌<◌, ◌+◌, ◌-◌, ◌^◌, ◌++◌, ℕ, List, [], length, take, min, Option, Some, None, Result, Ok, Err}
use Rattle.base.specs.Saturated.{saturated}
use Rattle.h2_frames.specs.declared.fault.H2Fault.{H2Fault}
use Rattle.h2_frames.specs.declared.parts.FrameFed.{FrameFed}
use Rattle.h2_frames.specs.declared.parts.Part.{Part}
use Rattle.h2_frames.specs.declared.parts.Part.TheVariants.{Begin, Piece, Done}
use Rattle.h2_frames.specs.FrameHead.{length_with, stream_with, kind_of, flags_of, frame_size}
use Rattle.h2_frames.specs.FrameErrors.{Context, judge, Fault}
use Rattle.h2_frames.specs.Http2Frame.{after}
use Rattle.h2_frames.specs.FrameReader.{Kept, IsNoFault}

-- what the first bytes of a frame are judged
abbrev pub IsJudged : Context → List ℕ → Result ℕ ℕ → Type 0
IsJudged at head (Ok n) = IsNoFault (judge at head)
IsJudged at head (Err code) = judge at head ≡ Fault code

-- the head with more bytes
abbrev pub head_with : Kept → List ℕ → List ℕ
head_with kept bytes = kept.head ++ take (9 - length kept.head) bytes

-- the head with the payload's first byte
abbrev pub pad_with : Kept → List ℕ → List ℕ
pad_with kept bytes = kept.head ++ take (min kept.left (10 - length kept.head)) bytes

-- the frame that is read breaks a rule, and this is kept
abbrev pub IsRefusal : Kept → List ℕ → H2Fault → Kept → Type 0
IsRefusal old next f new = (new ≡ record old { head = next; left = 0; fault = Some f }) × (f.place ≡ old.place) × (judge old.context next ≡ Fault f.code)

-- bytes of a head, which is not whole with them, or is
abbrev pub IsHeadPart : Kept → List ℕ → List ℕ → ℕ → Option Part → Kept → Type 0
IsHeadPart old bytes next n None new = (n ≡ length bytes) × (length next < 9) × (next ≡ old.head ++ bytes) × (new ≡ record old { head = next }) × IsNoFault (judge old.context next)
IsHeadPart old bytes next n (Some (Begin size kind flags stream)) new = (n ≡ 9 - length old.head) × (n ≤ length bytes)
    × (new ≡ record old { head = next; left = size }) × IsNoFault (judge old.context next)
    × (size ≡ length_with 0 next) × (kind ≡ kind_of next) × (flags ≡ flags_of next) × (stream ≡ stream_with 0 next) × (stream < 2 ^ 31)
IsHeadPart old bytes next n (Some (Piece k)) new = ⊥
IsHeadPart old bytes next n (Some Done) new = ⊥

-- a call of a reader that has less than a head
abbrev pub IsHeadStep : Kept → List ℕ → Result FrameFed H2Fault → Kept → Type 0
IsHeadStep old bytes (Ok fed) new = IsHeadPart old bytes (head_with old bytes) fed.taken fed.part new
IsHeadStep old bytes (Err f) new = IsRefusal old (head_with old bytes) f new

-- a call of one whose payload goes on with these bytes; with ten bytes a frame was judged whole
abbrev pub IsPayloadStep : Kept → List ℕ → Result FrameFed H2Fault → Kept → Type 0
IsPayloadStep old bytes (Ok fed) new = (fed.part ≡ Some (Piece fed.taken)) × (fed.taken ≡ min old.left (length bytes)) × (0 < fed.taken)
    × (new ≡ record old { head = pad_with old bytes; left = old.left - fed.taken }) × (length old.head < 10 → IsNoFault (judge old.context (pad_with old bytes)))
IsPayloadStep old bytes (Err f) new = IsRefusal old (pad_with old bytes) f new

-- a call of one whose payload goes on: with no bytes nothing is taken
abbrev pub IsMoreStep : Kept → List ℕ → Result FrameFed H2Fault → Kept → Type 0
IsMoreStep old bytes result new = (length bytes ≡ 0 → (result ≡ Ok (record { taken = 0; part = None })) × (new ≡ old))
    × (0 < length bytes → IsPayloadStep old bytes result new)

-- a call of one whose payload has ended
abbrev pub IsLastStep : Kept → Result FrameFed H2Fault → Kept → Type 0
IsLastStep old (Ok fed) new = (fed.part ≡ Some Done) × (fed.taken ≡ 0)
    × (new ≡ record { context = after old.context old.head; place = saturated (old.place + frame_size old.head); head = []; left = 0; fault = None })
IsLastStep old (Err f) new = ⊥
