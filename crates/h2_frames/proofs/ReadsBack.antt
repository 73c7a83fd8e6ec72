-- What is written is read back.
use Rattle.std.proofs.Common.{◌≡◌, ◌<◌, ◌≤◌, ◌+◌, ◌*◌, ◌/◌, ◌%◌, ◌^◌, ◌++◌, ℕ, List, [], ◌∷◌, length, arith, sym, ap, ap₂, ◌∙◌, None}
use Rattle.h2_frames.specs.FrameHead.{length_with, stream_with, frame_size, Frame, frame_of, frame_bytes}
use Rattle.h2_frames.specs.Http2Frame.{AreFrames, Whole, cut, front, frames_of, first_fault}
use Rattle.h2_frames.proofs.FaultLemmas.{fine_judged, whole_frame, frames_of_whole, frames_whole}

digits3 : (n : ℕ) → n < 2 ^ 24 → (n / 65536) * 65536 + (n / 256 % 256) * 256 + n % 256 ≡ n
digits3 n h = omega arith

digits4 : (n : ℕ) → n < 2 ^ 31 → (n / 16777216 % 128) * 16777216 + (n / 65536 % 256) * 65536 + (n / 256 % 256) * 256 + n % 256 ≡ n
digits4 n h = omega arith

written_size : (kind flags stream : ℕ) (payload : List ℕ) → length payload < 2 ^ 24 → length_with 0 (frame_bytes kind flags stream payload) ≡ length payload
written_size kind flags stream payload h = digits3 (length payload) h

written_stream : (kind flags stream : ℕ) (payload : List ℕ) → stream < 2 ^ 31 → stream_with 0 (frame_bytes kind flags stream payload) ≡ stream
written_stream kind flags stream payload h = digits4 stream h

-- the frame that was written
abbrev pub written : ℕ → ℕ → ℕ → List ℕ → Frame
written kind flags stream payload = record { size = length payload; kind = kind; flags = flags; stream = stream; payload = payload }

frame_of_written : (kind flags stream : ℕ) (payload : List ℕ) → stream < 2 ^ 31 → length payload < 2 ^ 24 → frame_of (frame_bytes kind flags stream payload) ≡ written kind flags stream payload
frame_of_written kind flags stream payload p q =
    let made : ℕ → ℕ → Frame = λ size no. record { size = size; kind = kind; flags = flags; stream = no; payload = payload } in
    ap₂ made (written_size kind flags stream payload q) (written_stream kind flags stream payload p)

written_front : (before : List ℕ) (kind flags stream : ℕ) (payload : List ℕ) → AreFrames before → length payload < 2 ^ 24 → first_fault (before ++ frame_bytes kind flags stream payload) ≡ None → front (cut before).context (frame_bytes kind flags stream payload) ≡ Whole (frame_bytes kind flags stream payload) []
written_front before kind flags stream payload b q h =
    let bytes = frame_bytes kind flags stream payload in
    let l : length (frame_bytes kind flags stream payload) ≡ 9 + length payload = omega arith in
    let z : length (frame_bytes kind flags stream payload) ≡ frame_size (frame_bytes kind flags stream payload) = l ∙ ap (λ n. 9 + n) (sym (written_size kind flags stream payload q)) in
    let nine : 9 ≤ length (frame_bytes kind flags stream payload) = omega arith in
    whole_frame (cut before).context (frame_bytes kind flags stream payload) nine z (fine_judged before (frame_bytes kind flags stream payload) b h)

-- a frame that is written is the last that is read
pub read_back_frames : (before : List ℕ) (kind flags stream : ℕ) (payload : List ℕ) → AreFrames before → stream < 2 ^ 31 → length payload < 2 ^ 24 → first_fault (before ++ frame_bytes kind flags stream payload) ≡ None
    → frames_of (before ++ frame_bytes kind flags stream payload) ≡ frames_of before ++ written kind flags stream payload ∷ []
read_back_frames before kind flags stream payload b p q h =
    frames_of_whole before (frame_bytes kind flags stream payload) b (written_front before kind flags stream payload b q h) ∙ ap (λ f. frames_of before ++ f ∷ []) (frame_of_written kind flags stream payload p q)

-- a frame that is written behind whole frames makes whole frames
pub read_back_whole : (before : List ℕ) (kind flags stream : ℕ) (payload : List ℕ) → AreFrames before → stream < 2 ^ 31 → length payload < 2 ^ 24 → first_fault (before ++ frame_bytes kind flags stream payload) ≡ None
    → AreFrames (before ++ frame_bytes kind flags stream payload)
read_back_whole before kind flags stream payload b p q h = frames_whole before (frame_bytes kind flags stream payload) b (written_front before kind flags stream payload b q h)
