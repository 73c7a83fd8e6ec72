-- The frames of a list of bytes keep their rules.
use Rattle.std.proofs.Common.{◌≡◌, ◌≤◌, ◌+◌, ◌++◌, ℕ, zero, suc, List, [], ◌∷◌, length, map, arith, refl, sym, ap, ap₂, subst, ◌∙◌, length-take}
use Rattle.std.proofs.lemmas.List.{take-append-drop}
use Rattle.base.specs.Bytes.{AreBytes}
use Rattle.base.proofs.AreBytesLemmas.{AreBytes-take, AreBytes-drop}
use Rattle.h2_frames.specs.FrameHead.{length_with, frame_size, frame_of}
use Rattle.h2_frames.specs.FrameErrors.{Context, judge}
use Rattle.h2_frames.specs.Http2Frame.{AreFrames, Front, Short, Broken, Whole, front, judged, after, start, Cut, cut, cut_at, frames_of}
use Rattle.h2_frames.specs.FrameReader.{IsNoFault}
use Rattle.h2_frames.specs.FrameRules.{KeepsRules, KeepRules, context_behind}
use Rattle.h2_frames.proofs.FrontLemmas.{IsWhole, front_whole, whole_less, size_take, judged_append}
use Rattle.h2_frames.proofs.CutLemmas.{cut_by}
use Rattle.h2_frames.proofs.PaddingLemmas.{whole_kept, keeps_whole}
use Rattle.h2_frames.proofs.FaultLemmas.{whole_frame, frames_whole, frames_of_whole}

abbrev Keep : Context → Cut → Type 0
Keep at c = KeepRules at (map frame_of c.frames)

-- a frame at the front keeps its rules
frame_keeps : (at : Context) (bs f rest : List ℕ) → AreBytes bs → front at bs ≡ Whole f rest
    → KeepsRules at (frame_of f)
frame_keeps at bs f rest b h =
    let w : IsWhole at bs f rest = front_whole at bs f rest h in
    let nine : 9 ≤ length bs = w.nine in
    let enough : frame_size bs ≤ length bs = w.enough in
    let three : 3 ≤ frame_size bs = omega arith in
    let size : frame_size f ≡ frame_size bs = ap (λ n. 9 + n) (ap (length_with 0) w.frame_is
    ∙ size_take 0 (frame_size bs) bs three) in
    let len : length f ≡ frame_size bs = omega (arith, ap length w.frame_is, length-take (frame_size bs) bs) in
    let whole : length f ≡ frame_size f = len ∙ sym size in
    let long : 9 ≤ length f = omega (arith, len) in
    let le : frame_size f ≤ length f = omega arith in
    let joined : f ++ rest ≡ bs = ap₂ (λ (xs ys : List ℕ). xs ++ ys) w.frame_is w.rest_is
    ∙ take-append-drop (frame_size bs) bs in
    let same : judged bs ≡ judged f = ap judged (sym joined) ∙ judged_append f rest long le in
    whole_kept at f (subst AreBytes (sym w.frame_is) (AreBytes-take (frame_size bs) bs b)) long whole
    (subst (λ (xs : List ℕ). IsNoFault (judge at xs)) same w.fine)

keep_step : (at : Context) (bs : List ℕ) (x : Front) → AreBytes bs → front at bs ≡ x
    → ((f rest : List ℕ) → x ≡ Whole f rest → Keep (after at f) (cut_at (after at f) rest)) → Keep at (cut_at at bs)
keep_step at bs Short b h k = subst (Keep at) (sym (cut_by at bs Short h)) tt
keep_step at bs (Broken code) b h k = subst (Keep at) (sym (cut_by at bs (Broken code) h)) tt
keep_step at bs (Whole f rest) b h k = subst (Keep at) (sym (cut_by at bs (Whole f rest) h))
    (frame_keeps at bs f rest b h, k f rest refl)

rest_bytes : (at : Context) (bs f rest : List ℕ) → AreBytes bs → front at bs ≡ Whole f rest → AreBytes rest
rest_bytes at bs f rest b h = let w : IsWhole at bs f rest = front_whole at bs f rest h in subst AreBytes
    (sym w.rest_is) (AreBytes-drop (frame_size bs) bs b)

keep_within : (j : ℕ) (at : Context) (bs : List ℕ) → length bs ≤ j → AreBytes bs → Keep at (cut_at at bs)
keep_within zero at bs p b = keep_step at bs (front at bs) b refl
    (λ f rest e. let l = whole_less at bs f rest e in absurd (omega arith))
keep_within (suc j) at bs p b = keep_step at bs (front at bs) b refl
    (λ f rest e. let l = whole_less at bs f rest e in keep_within j (after at f) rest (omega arith)
    (rest_bytes at bs f rest b e))

-- all frames of a list of bytes keep their rules
pub frames_keep : (bytes : List ℕ) → AreBytes bytes → KeepRules start (frames_of bytes)
unfolding cut
frames_keep bytes b = keep_within (length bytes) start bytes (omega arith) b

-- the context behind frames

abbrev IsBehind : Context → Cut → Type 0
IsBehind at c = c.context ≡ context_behind at (map frame_of c.frames)

behind_step : (at : Context) (bs : List ℕ) (x : Front) → front at bs ≡ x
    → ((f rest : List ℕ) → x ≡ Whole f rest → IsBehind (after at f) (cut_at (after at f) rest))
    → IsBehind at (cut_at at bs)
behind_step at bs Short h k = subst (IsBehind at) (sym (cut_by at bs Short h)) refl
behind_step at bs (Broken code) h k = subst (IsBehind at) (sym (cut_by at bs (Broken code) h)) refl
behind_step at bs (Whole f rest) h k = subst (IsBehind at) (sym (cut_by at bs (Whole f rest) h)) (k f rest refl)

behind_within : (j : ℕ) (at : Context) (bs : List ℕ) → length bs ≤ j → IsBehind at (cut_at at bs)
behind_within zero at bs p = behind_step at bs (front at bs) refl (λ f rest e.
    let l = whole_less at bs f rest e in absurd (omega arith))
behind_within (suc j) at bs p = behind_step at bs (front at bs) refl (λ f rest e.
    let l = whole_less at bs f rest e in behind_within j (after at f) rest (omega arith))

-- the context behind the frames of a list is that of these frames
pub context_is : (bytes : List ℕ) → (cut bytes).context ≡ context_behind start (frames_of bytes)
unfolding cut
context_is bytes = behind_within (length bytes) start bytes (omega arith)

-- a frame that keeps its rules behind whole frames is the next of them
pub frame_follows : (before seen : List ℕ) → AreFrames before → 9 ≤ length seen → length seen ≡ frame_size seen
    → KeepsRules (context_behind start (frames_of before)) (frame_of seen)
    → AreFrames (before ++ seen) × (frames_of (before ++ seen) ≡ frames_of before ++ frame_of seen ∷ [])
frame_follows before seen b nine whole k =
    let rules : KeepsRules (cut before).context (frame_of seen) =
    subst (λ at. KeepsRules at (frame_of seen)) (sym (context_is before)) k in
    let w : front (cut before).context seen ≡ Whole seen [] =
    whole_frame (cut before).context seen nine whole (keeps_whole (cut before).context seen nine whole rules) in
    (frames_whole before seen b w, frames_of_whole before seen b w)
