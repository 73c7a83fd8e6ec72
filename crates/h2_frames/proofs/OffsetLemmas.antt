-- The offsets of frames in a list of bytes.
use Rattle.std.proofs.Common.{◌≡◌, ◌≤◌, ◌+◌, ◌-◌, ◌++◌, ℕ, zero, suc, List, [], ◌∷◌, length, take, drop, map, arith, refl, sym, ap, ap₂, subst, ◌∙◌, length-drop, Option, Some, None}
use Rattle.std.specs.List.{AllByRecursion}
use Rattle.std.proofs.lemmas.List.{drop-drop}
use Rattle.base.specs.Saturated.{saturated}
use Rattle.h2_frames.specs.declared.fault.H2Fault.{H2Fault}
use Rattle.h2_frames.specs.FrameHead.{length_with, frame_size, Frame, frame_of}
use Rattle.h2_frames.specs.FrameErrors.{Context, judge, Fault}
use Rattle.h2_frames.specs.Http2Frame.{AreFrames, Front, Short, Broken, Whole, front, judged, after, start, Cut, cut, cut_at, frames_of, rest_of, first_fault}
use Rattle.h2_frames.specs.FrameOffsets.{FrameAt, frames_from, frames_with_offsets, bytes_of_frames, StandsIn}
use Rattle.h2_frames.proofs.FrontLemmas.{IsWhole, front_whole, front_broken, whole_less, size_take}
use Rattle.h2_frames.proofs.CutLemmas.{cut_by}
use Rattle.h2_frames.proofs.FaultLemmas.{fault_inner, cut_ends, fine_judged, whole_frame, frames_of_whole}

-- frames from an offset on, the bytes behind them, and how many there are of both
record IsLaidOut (all : List ℕ) (offset : ℕ) (c : Cut) : Type 0 where
  pub stand : AllByRecursion (StandsIn all) (frames_from offset (map frame_of c.frames))
  pub rest : c.rest ≡ drop (offset + bytes_of_frames (map frame_of c.frames)) all
  pub size : offset + bytes_of_frames (map frame_of c.frames) + length c.rest ≡ length all

nothing_laid : (all : List ℕ) (offset : ℕ) (at : Context) (bs : List ℕ) (fault : Option ℕ) → bs ≡ drop offset all
    → offset + length bs ≡ length all
    → IsLaidOut all offset (record { frames = []; rest = bs; context = at; fault = fault })
nothing_laid all offset at bs fault d l =
    let z : offset ≡ offset + 0 = omega arith in
    record { stand = tt; rest = d ∙ ap (λ n. drop n all) z; size = omega (arith, l) }

first_laid : (all : List ℕ) (offset : ℕ) (at : Context) (bs f rest : List ℕ) (c : Cut) → IsWhole at bs f rest → bs
    ≡ drop offset all → offset + length bs ≡ length all → IsLaidOut all (offset + frame_size bs) c
    → IsLaidOut all offset (record { frames = f ∷ c.frames; rest = c.rest; context = c.context; fault = c.fault })
first_laid all offset at bs f rest c w d l inner =
    let nine : 9 ≤ length bs = w.nine in
    let three : 3 ≤ frame_size bs = omega arith in
    let e : length_with 0 f ≡ length_with 0 bs = ap (length_with 0) w.frame_is
    ∙ size_take 0 (frame_size bs) bs three in
    let n : 9 + length_with 0 f ≡ frame_size bs = ap (λ k. 9 + k) e in
    let m : offset + frame_size bs ≡ offset + (9 + length_with 0 f) = ap (λ k. offset + k) (sym n) in
    let q : frame_size bs ≤ length bs = w.enough in
    let within : offset + (9 + length_with 0 f) ≤ length all = omega (arith, n, l) in
    let sum : (offset + frame_size bs) + bytes_of_frames (map frame_of c.frames)
    ≡ offset + ((9 + length_with 0 f) + bytes_of_frames (map frame_of c.frames)) = omega (arith, n) in
    record {
      stand = (
        record { within = within; is = ap frame_of (ap₂ take n (sym d) ∙ sym w.frame_is) },
        subst (λ k. AllByRecursion (StandsIn all) (frames_from k (map frame_of c.frames))) m inner.stand,
      );
      rest = inner.rest ∙ ap (λ k. drop k all) sum;
      size = omega (arith, sum, inner.size);
    }

laid_step : (all : List ℕ) (offset : ℕ) (at : Context) (bs : List ℕ) (x : Front) → front at bs ≡ x → bs
    ≡ drop offset all → offset + length bs ≡ length all
    → ((f rest : List ℕ) → x ≡ Whole f rest → IsLaidOut all (offset + frame_size bs) (cut_at (after at f) rest))
    → IsLaidOut all offset (cut_at at bs)
laid_step all offset at bs Short h d l k = subst (IsLaidOut all offset) (sym (cut_by at bs Short h))
    (nothing_laid all offset at bs None d l)
laid_step all offset at bs (Broken code) h d l k = subst (IsLaidOut all offset) (sym (cut_by at bs (Broken code) h))
    (nothing_laid all offset at bs (Some code) d l)
laid_step all offset at bs (Whole f rest) h d l k =
    subst (IsLaidOut all offset) (sym (cut_by at bs (Whole f rest) h))
    (first_laid all offset at bs f rest (cut_at (after at f) rest) (front_whole at bs f rest h) d l
    (k f rest refl))

-- what stands behind a frame
record StandsBehind (all : List ℕ) (offset : ℕ) (bs rest : List ℕ) : Type 0 where
  pub is : rest ≡ drop (offset + frame_size bs) all
  pub size : (offset + frame_size bs) + length rest ≡ length all

behind_frame : (all : List ℕ) (offset : ℕ) (at : Context) (bs f rest : List ℕ) → front at bs ≡ Whole f rest → bs
    ≡ drop offset all → offset + length bs ≡ length all → StandsBehind all offset bs rest
behind_frame all offset at bs f rest h d l =
    let w : IsWhole at bs f rest = front_whole at bs f rest h in
    let q : frame_size bs ≤ length bs = w.enough in
    let n : length rest ≡ length bs - frame_size bs = ap length w.rest_is ∙ length-drop (frame_size bs) bs in
    record {
      is = w.rest_is ∙ ap (drop (frame_size bs)) d
          ∙ drop-drop (frame_size bs) offset all;
      size = omega (arith, n, l);
    }

laid_within : (j : ℕ) (all : List ℕ) (offset : ℕ) (at : Context) (bs : List ℕ) → length bs ≤ j → bs ≡ drop offset all
    → offset + length bs ≡ length all → IsLaidOut all offset (cut_at at bs)
laid_within zero all offset at bs p d l = laid_step all offset at bs (front at bs) refl d l
    (λ f rest e. let w = whole_less at bs f rest e in absurd (omega arith))
laid_within (suc j) all offset at bs p d l = laid_step all offset at bs (front at bs) refl d l (λ f rest e.
    let w = whole_less at bs f rest e in
    let b = behind_frame all offset at bs f rest e d l in
    laid_within j all (offset + frame_size bs) (after at f) rest (omega arith) b.is b.size)

laid_out : (bytes : List ℕ) → IsLaidOut bytes 0 (cut bytes)
unfolding cut
laid_out bytes = let z : 0 + length bytes
    ≡ length bytes = omega arith in laid_within (length bytes) bytes 0 start bytes (omega arith) refl z

-- each frame stands at its offset
pub frames_stand : (bytes : List ℕ) → AllByRecursion (StandsIn bytes) (frames_with_offsets bytes)
frames_stand bytes = (laid_out bytes).stand

-- the bytes behind the frames
pub rest_stands : (bytes : List ℕ) → rest_of bytes ≡ drop (bytes_of_frames (frames_of bytes)) bytes
rest_stands bytes =
    let z : 0 + bytes_of_frames (frames_of bytes) ≡ bytes_of_frames (frames_of bytes) = omega arith in
    (laid_out bytes).rest ∙ ap (λ n. drop n bytes) z

-- frames and the bytes behind them are all
pub sizes_sum : (bytes : List ℕ) → bytes_of_frames (frames_of bytes) + length (rest_of bytes) ≡ length bytes
sizes_sum bytes = omega (arith, (laid_out bytes).size)

-- the frames without their offsets
pub frames_from_frames : (offset : ℕ) (fs : List Frame) → map (λ (a : FrameAt). a.frame) (frames_from offset fs) ≡ fs
frames_from_frames offset [] = refl
frames_from_frames offset (f ∷ fs) = ap (λ gs. f ∷ gs) (frames_from_frames (offset + (9 + f.size)) fs)

-- a fault stands behind the frames
pub fault_stands : (bytes : List ℕ) (f : H2Fault) → first_fault bytes ≡ Some f → f.place
    ≡ saturated (bytes_of_frames (frames_of bytes))
fault_stands bytes f h =
    let n : length bytes - length (cut bytes).rest
    ≡ bytes_of_frames (frames_of bytes) = omega (arith, sizes_sum bytes) in
    (fault_inner (length bytes - length (cut bytes).rest) (cut bytes).fault f h).1 ∙ ap saturated n

-- the bytes behind the frames break the rule of which the fault tells
pub fault_breaks : (bytes : List ℕ) (f : H2Fault) → first_fault bytes ≡ Some f
    → judge (cut bytes).context (judged (rest_of bytes)) ≡ Fault f.code
fault_breaks bytes f h = front_broken (cut bytes).context (cut bytes).rest f.code
    (cut_ends bytes f.code (fault_inner (length bytes - length (cut bytes).rest) (cut bytes).fault f h).0)

-- one frame more
frames_from_more : (offset : ℕ) (fs : List Frame) (g : Frame) → frames_from offset (fs ++ g ∷ [])
    ≡ frames_from offset fs ++ record { offset = offset + bytes_of_frames fs; frame = g } ∷ []
frames_from_more offset [] g = let z : offset
    ≡ offset + 0 = omega arith in ap (λ n. record { offset = n; frame = g } ∷ []) z
frames_from_more offset (f ∷ fs) g =
    let n : (offset + (9 + f.size)) + bytes_of_frames fs
    ≡ offset + ((9 + f.size) + bytes_of_frames fs) = omega arith in
    ap (λ xs. record { offset = offset; frame = f } ∷ xs) (frames_from_more (offset + (9 + f.size)) fs g
    ∙ ap (λ k. frames_from (offset + (9 + f.size)) fs ++ record { offset = k; frame = g } ∷ []) n)

-- a whole frame behind whole frames has their length as its offset
pub next_offset : (before seen : List ℕ) → AreFrames before → 9 ≤ length seen → length seen ≡ frame_size seen
    → first_fault (before ++ seen) ≡ None
    → frames_with_offsets (before ++ seen)
    ≡ frames_with_offsets before ++ record { offset = length before; frame = frame_of seen } ∷ []
next_offset before seen b nine whole none =
    let n : 0 + bytes_of_frames (frames_of before)
    ≡ length before = omega (arith, sizes_sum before, ap length b.rest) in
    ap (frames_from 0) (frames_of_whole before seen b
    (whole_frame (cut before).context seen nine whole (fine_judged before seen b none)))
    ∙ frames_from_more 0 (frames_of before) (frame_of seen)
    ∙ ap (λ k. frames_with_offsets before ++ record { offset = k; frame = frame_of seen } ∷ []) n
