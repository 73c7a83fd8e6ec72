-- Frames are cut the same in pieces.
use Rattle.std.proofs.Common.{◌≡◌, ◌≤◌, ◌++◌, ℕ, zero, suc, List, [], ◌∷◌, length, arith, refl, sym, ap, subst, ◌∙◌, None}
use Rattle.h2_frames.specs.FrameErrors.{Context}
use Rattle.h2_frames.specs.Http2Frame.{Front, Short, Broken, Whole, front, Cut, behind, goes_on, cut_within, cut_at, after}
use Rattle.h2_frames.proofs.FrontLemmas.{front_nothing, whole_grows, whole_less}

goes_on_same : (go to : Context → List ℕ → Cut) (at : Context) (bs : List ℕ) (x : Front) → ((f rest : List ℕ) → x ≡ Whole f rest → go (after at f) rest ≡ to (after at f) rest) → goes_on go at bs x ≡ goes_on to at bs x
goes_on_same go to at bs Short h = refl
goes_on_same go to at bs (Broken c) h = refl
goes_on_same go to at bs (Whole f rest) h = ap (behind (f ∷ [])) (h f rest refl)

nothing : (k : ℕ) (at : Context) → cut_within k at [] ≡ record { frames = []; rest = []; context = at; fault = None }
unfolding cut_within
nothing zero at = refl
nothing (suc k) at = ap (goes_on (cut_within k) at []) (front_nothing at)

-- more fuel changes nothing
enough : (j k : ℕ) (at : Context) (bs : List ℕ) → length bs ≤ j → length bs ≤ k → cut_within j at bs ≡ cut_within k at bs
unfolding cut_within
enough j k at [] p q = nothing j at ∙ sym (nothing k at)
enough zero k at (f ∷ bs) p q = absurd (omega arith)
enough (suc j) zero at (f ∷ bs) p q = absurd (omega arith)
enough (suc j) (suc k) at (f ∷ bs) p q = goes_on_same (cut_within j) (cut_within k) at (f ∷ bs) (front at (f ∷ bs)) (λ m rest e.
    let l = whole_less at (f ∷ bs) m rest e in
    enough j k (after at m) rest (omega arith) (omega arith))

-- one level of the definition
pub cut_is : (at : Context) (bs : List ℕ) → cut_at at bs ≡ goes_on cut_at at bs (front at bs)
unfolding cut_at cut_within
cut_is at [] = nothing zero at ∙ ap (goes_on cut_at at []) (sym (front_nothing at))
cut_is at (f ∷ bs) = goes_on_same (cut_within (length bs)) cut_at at (f ∷ bs) (front at (f ∷ bs)) (λ m rest e.
    let l = whole_less at (f ∷ bs) m rest e in
    enough (length bs) (length rest) (after at m) rest (omega arith) (omega arith))

-- one level of the definition, by what stands at the front
pub cut_by : (at : Context) (bs : List ℕ) (x : Front) → front at bs ≡ x → cut_at at bs ≡ goes_on cut_at at bs x
cut_by at bs x h = cut_is at bs ∙ ap (goes_on cut_at at bs) h

abbrev Appends : Context → List ℕ → List ℕ → Cut → Type 0
Appends at bs more d = cut_at at (bs ++ more) ≡ behind d.frames (cut_at d.context (d.rest ++ more))

append_step : (at : Context) (bs more : List ℕ) (x : Front) → front at bs ≡ x → ((f rest : List ℕ) → x ≡ Whole f rest → Appends (after at f) rest more (cut_at (after at f) rest)) → Appends at bs more (cut_at at bs)
append_step at bs more Short h k = subst (Appends at bs more) (sym (cut_by at bs Short h)) refl
append_step at bs more (Broken c) h k = subst (Appends at bs more) (sym (cut_by at bs (Broken c) h)) refl
append_step at bs more (Whole f rest) h k = subst (Appends at bs more) (sym (cut_by at bs (Whole f rest) h))
    (cut_by at (bs ++ more) (Whole f (rest ++ more)) (whole_grows at bs more f rest h) ∙ ap (behind (f ∷ [])) (k f rest refl))

append_within : (j : ℕ) (at : Context) (bs more : List ℕ) → length bs ≤ j → Appends at bs more (cut_at at bs)
append_within zero at bs more p = append_step at bs more (front at bs) refl (λ f rest e.
    let l = whole_less at bs f rest e in absurd (omega arith))
append_within (suc j) at bs more p = append_step at bs more (front at bs) refl (λ f rest e.
    let l = whole_less at bs f rest e in append_within j (after at f) rest more (omega arith))

-- cutting goes on from the rest
pub cut_append : (at : Context) (bs more : List ℕ) → cut_at at (bs ++ more) ≡ behind (cut_at at bs).frames (cut_at (cut_at at bs).context ((cut_at at bs).rest ++ more))
cut_append at bs more = append_within (length bs) at bs more (omega arith)

-- no bytes have no frames
pub cut_nothing : (at : Context) → cut_at at [] ≡ record { frames = []; rest = []; context = at; fault = None }
cut_nothing at = cut_by at [] Short (front_nothing at)
