-- Where no fault is found, and which faults there are.
use Rattle.std.proofs.Common.{◌≡◌, ◌↔◌, ◌≤◌, ◌-◌, ℕ, zero, suc, List, length, arith, refl, sym, inl, inr, subst, ◌∙◌, Option, Some, None}
use Rattle.std.specs.Prelude.{◌⊎◌}
use Rattle.h2_frames.specs.declared.fault.H2Fault.{H2Fault}
use Rattle.h2_frames.specs.FrameErrors.{Context, Verdict, Undecided, Keeps, Breaks, Judgement, Open, Fine, Fault, first_broken, judge, begins_with_settings, is_within_limit, continues_block, is_on_its_stream, is_no_push, has_size_of_kind, has_padding_within}
use Rattle.h2_frames.specs.Http2Frame.{Front, Short, Broken, Whole, front, judged, after, start, Cut, cut, cut_at, rest_of, fault_at, first_fault}
use Rattle.h2_frames.specs.FrameReader.{IsNoFault}
use Rattle.h2_frames.proofs.FrontLemmas.{whole_less, front_broken, broken_front}
use Rattle.h2_frames.proofs.CutLemmas.{cut_by}
use Rattle.h2_frames.proofs.FaultLemmas.{cut_ends, fault_inner}

not_broken : (at : Context) (bs : List ℕ) (j : Judgement) → judge at (judged bs) ≡ j → front at bs ≡ Short → IsNoFault j
not_broken at bs Open h e = tt
not_broken at bs Fine h e = tt
not_broken at bs (Fault code) h e = let b : Short ≡ Broken code = sym e ∙ broken_front at bs code h in absurd (cc)

abbrev IsFineAtEnd : Cut → Type 0
IsFineAtEnd c = c.fault ≡ None → IsNoFault (judge c.context (judged c.rest))

fine_step : (at : Context) (bs : List ℕ) (x : Front) → front at bs ≡ x
    → ((f rest : List ℕ) → x ≡ Whole f rest → IsFineAtEnd (cut_at (after at f) rest)) → IsFineAtEnd (cut_at at bs)
fine_step at bs Short h k =
    subst IsFineAtEnd (sym (cut_by at bs Short h)) (λ _. not_broken at bs (judge at (judged bs)) refl h)
fine_step at bs (Broken code) h k = subst IsFineAtEnd (sym (cut_by at bs (Broken code) h)) (λ e. absurd (cc))
fine_step at bs (Whole f rest) h k = subst IsFineAtEnd (sym (cut_by at bs (Whole f rest) h)) (k f rest refl)

fine_within : (j : ℕ) (at : Context) (bs : List ℕ) → length bs ≤ j → IsFineAtEnd (cut_at at bs)
fine_within zero at bs p = fine_step at bs (front at bs) refl (λ f rest e.
    let l = whole_less at bs f rest e in absurd (omega arith))
fine_within (suc j) at bs p = fine_step at bs (front at bs) refl (λ f rest e.
    let l = whole_less at bs f rest e in fine_within j (after at f) rest (omega arith))

fine_at_end : (bytes : List ℕ) → IsFineAtEnd (cut bytes)
unfolding cut
fine_at_end bytes = fine_within (length bytes) start bytes (omega arith)

no_inner : (n : ℕ) (o : Option ℕ) → fault_at n o ≡ None → o ≡ None
no_inner n None e = refl
no_inner n (Some code) e = absurd (cc)

none_by : (bytes : List ℕ) (n : ℕ) (o : Option ℕ) → (cut bytes).fault ≡ o
    → IsNoFault (judge (cut bytes).context (judged (cut bytes).rest)) → fault_at n o ≡ None
none_by bytes n None h fine = refl
none_by bytes n (Some code) h fine =
    absurd (subst IsNoFault (front_broken (cut bytes).context (cut bytes).rest code (cut_ends bytes code h)) fine)

-- no fault is found in a list of bytes exactly where those behind its frames break no rule
pub no_fault_is : (bytes : List ℕ) → (first_fault bytes ≡ None)
    ↔ IsNoFault (judge (cut bytes).context (judged (rest_of bytes)))
no_fault_is bytes = (
  (λ none. fine_at_end bytes (no_inner (length bytes - length (cut bytes).rest) (cut bytes).fault none)),
  (λ fine. none_by bytes (length bytes - length (cut bytes).rest) (cut bytes).fault refl fine),
)

-- error codes

abbrev IsCode : ℕ → Type 0
IsCode code = (code ≡ 1) ⊎ (code ≡ 6)

code_step : (v : Verdict) (code found : ℕ) (rest : Judgement) → IsCode code → (rest ≡ Fault found → IsCode found)
    → first_broken v code rest ≡ Fault found → IsCode found
code_step Undecided code found rest c k e = absurd (cc)
code_step Breaks code found rest c k e = let same : code ≡ found = cc in subst IsCode same c
code_step Keeps code found rest c k e = k e

judged_code : (at : Context) (bs : List ℕ) (found : ℕ) → judge at bs ≡ Fault found → IsCode found
judged_code at bs found =
    code_step (begins_with_settings at bs) 1 found _ (inl refl)
    (code_step (is_within_limit bs) 6 found _ (inr refl)
    (code_step (continues_block at.block bs) 1 found _ (inl refl)
    (code_step (is_on_its_stream bs) 1 found _ (inl refl)
    (code_step (is_no_push bs) 1 found _ (inl refl)
    (code_step (has_size_of_kind bs) 6 found _ (inr refl)
    (code_step (has_padding_within bs) 1 found Fine (inl refl) (λ e. absurd (cc))))))))

-- a fault is PROTOCOL_ERROR or FRAME_SIZE_ERROR
pub fault_code : (bytes : List ℕ) (f : H2Fault) → first_fault bytes ≡ Some f → (f.code ≡ 1) ⊎ (f.code ≡ 6)
fault_code bytes f h =
    let inner = fault_inner (length bytes - length (cut bytes).rest) (cut bytes).fault f h in
    judged_code (cut bytes).context (judged (cut bytes).rest) f.code
    (front_broken (cut bytes).context (cut bytes).rest f.code (cut_ends bytes f.code inner.0))
