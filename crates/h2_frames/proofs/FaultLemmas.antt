-- The first fault of a list of bytes, and of a longer one.
use Rattle.std.proofs.Common.{◌≡◌, ◌<◌, ◌≤◌, ◌+◌, ◌-◌, ◌++◌, ℕ, zero, suc, List, [], ◌∷◌, length, drop, arith, refl, sym, ap, ap₂, subst, ◌∙◌, length-append, length-drop, append-nil, Option, Some, None, map}
use Rattle.std.proofs.lemmas.List.{take_all, map-append, drop-drop}
use Rattle.std.proofs.Math.ListN.{drop_of_length-le}
use Rattle.base.specs.Bytes.{AreBytes}
use Rattle.base.specs.Saturated.{saturated}
use Rattle.base.proofs.AreBytesLemmas.{AreBytes-append, AreBytes-drop}
use Rattle.h2_frames.specs.declared.fault.H2Fault.{H2Fault}
use Rattle.h2_frames.specs.FrameHead.{frame_size, Frame, frame_of}
use Rattle.h2_frames.specs.FrameErrors.{Context, judge, Judgement, Open, Fine, Fault}
use Rattle.h2_frames.specs.Http2Frame.{Front, Short, Broken, Whole, front, judged, after, start, Cut, behind, goes_on, cut, cut_at, frames_of, fault_at, first_fault, AreFrames}
use Rattle.h2_frames.specs.FrameReader.{IsNoFault, StandsBroken}
use Rattle.h2_frames.proofs.FrontLemmas.{fine_front, front_whole, short_few, short_cut, whole_front, whole_less, broken_front}
use Rattle.h2_frames.proofs.CutLemmas.{cut_by, cut_append, cut_nothing}
use Rattle.h2_frames.proofs.GrowthLemmas.{either, broken_grows}

-- whole frames, and then more bytes
pub cut_next : (before seen : List ℕ) (x : Front) → AreFrames before → front (cut before).context seen ≡ x → cut (before ++ seen) ≡ behind (cut before).frames (goes_on cut_at (cut before).context seen x)
unfolding cut
cut_next before seen x b h = cut_append start before seen ∙ ap (behind (cut before).frames) (ap (λ r. cut_at (cut before).context (r ++ seen)) b.rest ∙ cut_by (cut before).context seen x h)

fault_of_cut : (bytes : List ℕ) (c : Cut) → cut bytes ≡ c → first_fault bytes ≡ fault_at (length bytes - length c.rest) c.fault
fault_of_cut bytes c e = ap (λ d. fault_at (length bytes - length d.rest) d.fault) e

-- bytes that break a rule behind whole frames
pub broken_fault : (f : H2Fault) (before seen : List ℕ) → StandsBroken f before seen → first_fault (before ++ seen) ≡ Some f
broken_fault f before seen s =
    let n : length (before ++ seen) - length seen ≡ length before = omega (arith, length-append before seen) in
    let p : saturated (length (before ++ seen) - length seen) ≡ f.place = ap saturated n ∙ sym s.place in
    let named : ℕ → Option H2Fault = λ place. Some (record { place = place; code = f.code }) in
    fault_of_cut (before ++ seen) _ (cut_next before seen (Broken f.code) s.frames s.broken) ∙ ap named p

no_fault_short : (before seen : List ℕ) → AreFrames before → front (cut before).context seen ≡ Short → first_fault (before ++ seen) ≡ None
no_fault_short before seen b h = fault_of_cut (before ++ seen) _ (cut_next before seen Short b h)

-- one whole frame behind whole frames
pub cut_whole : (before seen : List ℕ) → AreFrames before → front (cut before).context seen ≡ Whole seen [] → cut (before ++ seen) ≡ record { frames = (cut before).frames ++ seen ∷ []; rest = []; context = after (cut before).context seen; fault = None }
cut_whole before seen b h = cut_next before seen (Whole seen []) b h ∙ ap (λ c. behind (cut before).frames (behind (seen ∷ []) c)) (cut_nothing (after (cut before).context seen))

-- a whole frame that breaks no rule stands at the front
pub whole_frame : (at : Context) (seen : List ℕ) → 9 ≤ length seen → length seen ≡ frame_size seen → IsNoFault (judge at (judged seen)) → front at seen ≡ Whole seen []
whole_frame at seen nine whole fine =
    let le : frame_size seen ≤ length seen = omega arith in
    let ge : length seen ≤ frame_size seen = omega arith in
    whole_front at seen nine le fine ∙ ap₂ Whole (take_all (frame_size seen) seen ge) (drop_of_length-le seen {i = frame_size seen} ge)

-- a part of a frame, or all of it, that breaks no rule behind whole frames
pub fine_fault : (before seen : List ℕ) → AreFrames before → IsNoFault (judge (cut before).context (judged seen)) → (9 ≤ length seen → length seen ≤ frame_size seen) → first_fault (before ++ seen) ≡ None
fine_fault before seen b fine most = either (length seen) 9
    (λ few. no_fault_short before seen b (fine_front (cut before).context seen fine ∙ short_few seen few))
    (λ nine. either (length seen) (frame_size seen)
    (λ part. no_fault_short before seen b (fine_front (cut before).context seen fine ∙ short_cut seen nine part))
    (λ all. let le : length seen ≤ frame_size seen = most nine in let whole : length seen ≡ frame_size seen = omega arith in
    fault_of_cut (before ++ seen) _ (cut_whole before seen b (whole_frame (cut before).context seen nine whole fine))))

-- up to a fault in a part of a frame, or all of it, behind whole frames there are no others
frames_by : (before seen : List ℕ) (j : Judgement) (f : H2Fault) → judge (cut before).context (judged seen) ≡ j
    → AreFrames before → (9 ≤ length seen → length seen ≤ frame_size seen) → first_fault (before ++ seen) ≡ Some f
    → frames_of (before ++ seen) ≡ frames_of before
frames_by before seen (Fault code) f e b most h =
    ap (λ c. map frame_of c.frames)
    (cut_next before seen (Broken code) b (broken_front (cut before).context seen code e))
    ∙ ap (map frame_of) (append-nil (cut before).frames)
frames_by before seen Open f e b most h =
    let none : first_fault (before ++ seen) ≡ None = fine_fault before seen b (subst IsNoFault (sym e) tt) most in
    absurd (cc)
frames_by before seen Fine f e b most h =
    let none : first_fault (before ++ seen) ≡ None = fine_fault before seen b (subst IsNoFault (sym e) tt) most in
    absurd (cc)

-- the frames before a fault in the frame behind them
pub frames_before : (before seen : List ℕ) (f : H2Fault) → AreFrames before
    → (9 ≤ length seen → length seen ≤ frame_size seen) → first_fault (before ++ seen) ≡ Some f
    → frames_of (before ++ seen) ≡ frames_of before
frames_before before seen f b most h =
    frames_by before seen (judge (cut before).context (judged seen)) f refl b most h

-- what a cut leaves begins with the fault that it found
abbrev Ends : Cut → Type 0
Ends c = (code : ℕ) → c.fault ≡ Some code → front c.context c.rest ≡ Broken code

ends_step : (at : Context) (bs : List ℕ) (x : Front) → front at bs ≡ x → ((f rest : List ℕ) → x ≡ Whole f rest → Ends (cut_at (after at f) rest)) → Ends (cut_at at bs)
ends_step at bs Short h k = subst Ends (sym (cut_by at bs Short h)) (λ code e. absurd (cc))
ends_step at bs (Broken c) h k = subst Ends (sym (cut_by at bs (Broken c) h)) (λ code e. let same : c ≡ code = cc in h ∙ ap Broken same)
ends_step at bs (Whole f rest) h k = subst Ends (sym (cut_by at bs (Whole f rest) h)) (k f rest refl)

ends_within : (j : ℕ) (at : Context) (bs : List ℕ) → length bs ≤ j → Ends (cut_at at bs)
ends_within zero at bs p = ends_step at bs (front at bs) refl (λ f rest e. let l = whole_less at bs f rest e in absurd (omega arith))
ends_within (suc j) at bs p = ends_step at bs (front at bs) refl (λ f rest e. let l = whole_less at bs f rest e in ends_within j (after at f) rest (omega arith))

-- what a cut leaves is the end of the bytes
record IsEndOf (bs rest : List ℕ) : Type 0 where
  pub count : ℕ
  pub is : rest ≡ drop count bs

abbrev LeavesEnd : List ℕ → Cut → Type 0
LeavesEnd bs c = IsEndOf bs c.rest

all_of : (bs : List ℕ) → IsEndOf bs bs
all_of bs = record { count = 0; is = refl }

end_step : (at : Context) (bs : List ℕ) (x : Front) → front at bs ≡ x → ((f rest : List ℕ) → x ≡ Whole f rest → LeavesEnd rest (cut_at (after at f) rest)) → LeavesEnd bs (cut_at at bs)
end_step at bs Short h k = subst (LeavesEnd bs) (sym (cut_by at bs Short h)) (all_of bs)
end_step at bs (Broken c) h k = subst (LeavesEnd bs) (sym (cut_by at bs (Broken c) h)) (all_of bs)
end_step at bs (Whole f rest) h k =
    let inner = k f rest refl in
    let w = front_whole at bs f rest h in
    let d : Cut = cut_at (after at f) rest in
    let e : d.rest ≡ drop (frame_size bs + inner.count) bs = inner.is ∙ ap (drop inner.count) w.rest_is ∙ drop-drop inner.count (frame_size bs) bs in
    subst (LeavesEnd bs) (sym (cut_by at bs (Whole f rest) h)) (record { count = frame_size bs + inner.count; is = e })

end_within : (j : ℕ) (at : Context) (bs : List ℕ) → length bs ≤ j → LeavesEnd bs (cut_at at bs)
end_within zero at bs p = end_step at bs (front at bs) refl (λ f rest e. let l = whole_less at bs f rest e in absurd (omega arith))
end_within (suc j) at bs p = end_step at bs (front at bs) refl (λ f rest e. let l = whole_less at bs f rest e in end_within j (after at f) rest (omega arith))

-- a fault with its offset is one at that offset
pub fault_inner : (place : ℕ) (o : Option ℕ) (f : H2Fault) → fault_at place o ≡ Some f → (o ≡ Some f.code) × (f.place ≡ saturated place)
fault_inner place None f e = absurd (cc)
fault_inner place (Some code) f e =
    let given : H2Fault = record { place = saturated place; code = code } in
    let same : given ≡ f = cc in
    (ap (λ (g : H2Fault). Some g.code) same, sym (ap (λ (g : H2Fault). g.place) same))

cut_longer : (bytes more : List ℕ) (x : Front) → front (cut bytes).context ((cut bytes).rest ++ more) ≡ x → cut (bytes ++ more) ≡ behind (cut bytes).frames (goes_on cut_at (cut bytes).context ((cut bytes).rest ++ more) x)
unfolding cut
cut_longer bytes more x h = cut_append start bytes more ∙ ap (behind (cut bytes).frames) (cut_by (cut bytes).context ((cut bytes).rest ++ more) x h)

-- what is left of bytes begins with the fault that is found in them
pub cut_ends : (bytes : List ℕ) → Ends (cut bytes)
unfolding cut
cut_ends bytes = ends_within (length bytes) start bytes (omega arith)

cut_end : (bytes : List ℕ) → LeavesEnd bytes (cut bytes)
unfolding cut
cut_end bytes = end_within (length bytes) start bytes (omega arith)

-- the first fault stays, whatever bytes come
pub first_fault-append : (bytes more : List ℕ) (f : H2Fault) → AreBytes bytes → AreBytes more → first_fault bytes ≡ Some f → first_fault (bytes ++ more) ≡ Some f
first_fault-append bytes more f k m h =
    let c = cut bytes in
    let inner = fault_inner (length bytes - length (cut bytes).rest) (cut bytes).fault f h in
    let e = cut_end bytes in
    let broken : front (cut bytes).context (cut bytes).rest ≡ Broken f.code = cut_ends bytes f.code inner.0 in
    let all : AreBytes ((cut bytes).rest ++ more) = AreBytes-append (cut bytes).rest more (subst AreBytes (sym e.is) (AreBytes-drop e.count bytes k)) m in
    let longer : front (cut bytes).context ((cut bytes).rest ++ more) ≡ Broken f.code = broken_grows (cut bytes).context (cut bytes).rest more f.code all broken in
    let short : length (cut bytes).rest ≡ length bytes - e.count = ap length e.is ∙ length-drop e.count bytes in
    let n : length (bytes ++ more) - length ((cut bytes).rest ++ more) ≡ length bytes - length (cut bytes).rest = omega (arith, length-append bytes more, length-append (cut bytes).rest more) in
    let named : ℕ → Option H2Fault = λ place. Some (record { place = place; code = f.code }) in
    fault_of_cut (bytes ++ more) _ (cut_longer bytes more (Broken f.code) longer) ∙ ap named (ap saturated n ∙ sym inner.1)

-- behind a fault no frame comes
pub fault_frames : (bytes more : List ℕ) (f : H2Fault) → AreBytes bytes → AreBytes more → first_fault bytes ≡ Some f
    → frames_of (bytes ++ more) ≡ frames_of bytes
fault_frames bytes more f k m h =
    let inner = fault_inner (length bytes - length (cut bytes).rest) (cut bytes).fault f h in
    let e = cut_end bytes in
    let broken : front (cut bytes).context (cut bytes).rest ≡ Broken f.code = cut_ends bytes f.code inner.0 in
    let all : AreBytes ((cut bytes).rest ++ more) =
    AreBytes-append (cut bytes).rest more (subst AreBytes (sym e.is) (AreBytes-drop e.count bytes k)) m in
    let longer : front (cut bytes).context ((cut bytes).rest ++ more) ≡ Broken f.code =
    broken_grows (cut bytes).context (cut bytes).rest more f.code all broken in
    ap (λ c. map frame_of c.frames) (cut_longer bytes more (Broken f.code) longer)
    ∙ ap (map frame_of) (append-nil (cut bytes).frames)

frames_behind : (bytes : List ℕ) (frames : List (List ℕ)) (c : Cut) → cut bytes ≡ behind frames c → frames_of bytes ≡ map frame_of frames ++ map frame_of c.frames
frames_behind bytes frames c e = ap (λ d. map frame_of d.frames) e ∙ map-append frame_of frames c.frames

-- the frames of a longer list begin with those of the list
pub record MoreFrames (bytes more : List ℕ) : Type 0 where
  pub others : List Frame
  pub is : frames_of (bytes ++ more) ≡ frames_of bytes ++ others

-- a longer list has more frames
pub frames_of-append : (bytes more : List ℕ) → MoreFrames bytes more
unfolding cut
frames_of-append bytes more = record { others = map frame_of (cut_at (cut bytes).context ((cut bytes).rest ++ more)).frames; is = frames_behind (bytes ++ more) (cut bytes).frames (cut_at (cut bytes).context ((cut bytes).rest ++ more)) (cut_append start bytes more) }

-- one whole frame more
pub frames_of_whole : (before seen : List ℕ) → AreFrames before → front (cut before).context seen ≡ Whole seen [] → frames_of (before ++ seen) ≡ frames_of before ++ frame_of seen ∷ []
frames_of_whole before seen b h = ap (λ c. map frame_of c.frames) (cut_whole before seen b h) ∙ map-append frame_of (cut before).frames (seen ∷ [])

-- whole frames and one more are whole frames
pub frames_whole : (before seen : List ℕ) → AreFrames before → front (cut before).context seen ≡ Whole seen [] → AreFrames (before ++ seen)
frames_whole before seen b h = let e = cut_whole before seen b h in record { rest = ap (λ c. c.rest) e; fault = ap (λ c. c.fault) e }

no_fault_by : (before seen : List ℕ) (j : Judgement) → AreFrames before → first_fault (before ++ seen) ≡ None → judge (cut before).context (judged seen) ≡ j → IsNoFault j
no_fault_by before seen Open b none h = tt
no_fault_by before seen Fine b none h = tt
no_fault_by before seen (Fault code) b none h =
    let e = fault_of_cut (before ++ seen) _ (cut_next before seen (Broken code) b (broken_front (cut before).context seen code h)) in
    absurd (cc)

-- where no rule is broken, the frame behind whole frames breaks none
pub fine_judged : (before seen : List ℕ) → AreFrames before → first_fault (before ++ seen) ≡ None → IsNoFault (judge (cut before).context (judged seen))
fine_judged before seen b none = no_fault_by before seen (judge (cut before).context (judged seen)) b none refl

-- less than a frame behind whole frames is what is left
pub cut_part : (before seen : List ℕ) → AreFrames before → IsNoFault (judge (cut before).context (judged seen)) → (9 ≤ length seen → length seen < frame_size seen) → cut (before ++ seen) ≡ behind (cut before).frames (record { frames = []; rest = seen; context = (cut before).context; fault = None })
cut_part before seen b fine part = cut_next before seen Short b (fine_front (cut before).context seen fine ∙ either (length seen) 9 (short_few seen) (λ nine. short_cut seen nine (part nine)))
