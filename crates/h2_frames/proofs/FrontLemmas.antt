-- What stands at the front of bytes.
use Rattle.std.proofs.Common.{◌≡◌, ◌<◌, ◌≤◌, ◌+◌, ◌-◌, ◌++◌, ℕ, Bool, true, false, List, [], length, take, drop, cond, min, nat_lt, arith, refl, sym, ap, ap₂, subst, ◌∙◌, length-append, length-take, length-drop, Option}
use Rattle.std.proofs.lemmas.Bool.{ltb-false, le-ltb, lt-ltb}
use Rattle.std.proofs.lemmas.List.{get_or_append_left, get_or-take, take-append-le, drop-append-le}
use Rattle.h2_frames.specs.FrameHead.{length_with, frame_size}
use Rattle.h2_frames.specs.FrameErrors.{Context, judge, Judgement, Open, Fine, Fault}
use Rattle.h2_frames.specs.Http2Frame.{Short, Broken, Whole, whole_of, front_of, judged, front}
use Rattle.h2_frames.specs.FrameReader.{IsNoFault}

nothing_judged : (b : Bool) (o : Option ℕ) → judge (record { first = b; block = o }) [] ≡ Open
nothing_judged true o = refl
nothing_judged false o = refl

-- no bytes break no rule
pub nothing_fine : (at : Context) → IsNoFault (judge at [])
nothing_fine at = subst IsNoFault (sym (nothing_judged at.first at.block)) tt

-- no bytes are less than a frame
pub front_nothing : (at : Context) → front at [] ≡ Short
front_nothing at = ap (λ j. front_of j []) (nothing_judged at.first at.block)

-- the length of the payload is in the first three bytes
pub size_append : (b : ℕ) (bs more : List ℕ) → 3 ≤ length bs → length_with b (bs ++ more) ≡ length_with b bs
size_append b bs more h =
    let x : 0 < length bs = omega arith in
    let y : 1 < length bs = omega arith in
    let z : 2 < length bs = omega arith in
    rw (get_or_append_left bs more b 0 x, get_or_append_left bs more b 1 y, get_or_append_left bs more b 2 z) refl

-- the length is that of the first three bytes
pub size_take : (b n : ℕ) (bs : List ℕ) → 3 ≤ n → length_with b (take n bs) ≡ length_with b bs
size_take b n bs h =
    let x : 0 < n = omega arith in
    let y : 1 < n = omega arith in
    let z : 2 < n = omega arith in
    rw (get_or-take n bs 0 b x, get_or-take n bs 1 b y, get_or-take n bs 2 b z) refl

-- all of less than a head is judged
pub judged_few : (bs : List ℕ) → length bs < 9 → judged bs ≡ bs
judged_few bs h = ap (λ b. cond b bs (take (min 10 (frame_size bs)) bs)) (lt-ltb (length bs) 9 h)

-- of a frame ten bytes are judged
pub judged_many : (bs : List ℕ) → 9 ≤ length bs → judged bs ≡ take (min 10 (frame_size bs)) bs
judged_many bs h = ap (λ b. cond b bs (take (min 10 (frame_size bs)) bs)) (le-ltb (length bs) 9 h)

-- bytes with a whole frame at their front
pub record IsWhole (at : Context) (bs frame rest : List ℕ) : Type 0 where
  pub nine : 9 ≤ length bs
  pub enough : frame_size bs ≤ length bs
  pub fine : IsNoFault (judge at (judged bs))
  pub frame_is : frame ≡ take (frame_size bs) bs
  pub rest_is : rest ≡ drop (frame_size bs) bs

whole_step : (at : Context) (bs frame rest : List ℕ) (b c : Bool) → (b ≡ false → 9 ≤ length bs) → (c ≡ false → frame_size bs ≤ length bs) → IsNoFault (judge at (judged bs))
    → cond b Short (cond c Short (Whole (take (frame_size bs) bs) (drop (frame_size bs) bs))) ≡ Whole frame rest → IsWhole at bs frame rest
whole_step at bs frame rest true c p q f e = absurd (cc)
whole_step at bs frame rest false true p q f e = absurd (cc)
whole_step at bs frame rest false false p q f e = record { nine = p refl; enough = q refl; fine = f; frame_is = cc; rest_is = cc }

whole_by : (at : Context) (bs frame rest : List ℕ) (j : Judgement) → judge at (judged bs) ≡ j → front_of j bs ≡ Whole frame rest → IsWhole at bs frame rest
whole_by at bs frame rest (Fault code) h e = absurd (cc)
whole_by at bs frame rest Open h e = whole_step at bs frame rest (nat_lt (length bs) 9) (nat_lt (length bs) (frame_size bs)) (ltb-false (length bs) 9) (ltb-false (length bs) (frame_size bs)) (subst IsNoFault (sym h) tt) e
whole_by at bs frame rest Fine h e = whole_step at bs frame rest (nat_lt (length bs) 9) (nat_lt (length bs) (frame_size bs)) (ltb-false (length bs) 9) (ltb-false (length bs) (frame_size bs)) (subst IsNoFault (sym h) tt) e

-- a frame at the front is whole and breaks no rule
pub front_whole : (at : Context) (bs frame rest : List ℕ) → front at bs ≡ Whole frame rest → IsWhole at bs frame rest
front_whole at bs frame rest e = whole_by at bs frame rest (judge at (judged bs)) refl e

no_fault_front : (j : Judgement) (bs : List ℕ) → IsNoFault j → front_of j bs ≡ whole_of bs
no_fault_front Open bs h = refl
no_fault_front Fine bs h = refl
no_fault_front (Fault code) bs h = absurd h

-- where no rule is broken, the front is a frame or less
pub fine_front : (at : Context) (bs : List ℕ) → IsNoFault (judge at (judged bs)) → front at bs ≡ whole_of bs
fine_front at bs h = no_fault_front (judge at (judged bs)) bs h

-- enough bytes are a whole frame
pub whole_front_of : (bs : List ℕ) → 9 ≤ length bs → frame_size bs ≤ length bs → whole_of bs ≡ Whole (take (frame_size bs) bs) (drop (frame_size bs) bs)
whole_front_of bs p q = ap (λ b. cond b Short (cond (nat_lt (length bs) (frame_size bs)) Short (Whole (take (frame_size bs) bs) (drop (frame_size bs) bs)))) (le-ltb (length bs) 9 p)
    ∙ ap (λ b. cond b Short (Whole (take (frame_size bs) bs) (drop (frame_size bs) bs))) (le-ltb (length bs) (frame_size bs) q)

-- less than a head is less than a frame
pub short_few : (bs : List ℕ) → length bs < 9 → whole_of bs ≡ Short
short_few bs p = ap (λ b. cond b Short (cond (nat_lt (length bs) (frame_size bs)) Short (Whole (take (frame_size bs) bs) (drop (frame_size bs) bs)))) (lt-ltb (length bs) 9 p)

-- less than the payload is less than a frame
pub short_cut : (bs : List ℕ) → 9 ≤ length bs → length bs < frame_size bs → whole_of bs ≡ Short
short_cut bs p q = ap (λ b. cond b Short (cond (nat_lt (length bs) (frame_size bs)) Short (Whole (take (frame_size bs) bs) (drop (frame_size bs) bs)))) (le-ltb (length bs) 9 p)
    ∙ ap (λ b. cond b Short (Whole (take (frame_size bs) bs) (drop (frame_size bs) bs))) (lt-ltb (length bs) (frame_size bs) q)

-- enough bytes that break no rule have a whole frame at the front
pub whole_front : (at : Context) (bs : List ℕ) → 9 ≤ length bs → frame_size bs ≤ length bs → IsNoFault (judge at (judged bs)) → front at bs ≡ Whole (take (frame_size bs) bs) (drop (frame_size bs) bs)
whole_front at bs p q h = fine_front at bs h ∙ whole_front_of bs p q

-- more bytes change no size of a frame
pub frame_size-append : (bs more : List ℕ) → 9 ≤ length bs → frame_size (bs ++ more) ≡ frame_size bs
frame_size-append bs more h = let k : 3 ≤ length bs = omega arith in ap (λ n. 9 + n) (size_append 0 bs more k)

-- more bytes change nothing of what is judged of a whole frame
pub judged_append : (bs more : List ℕ) → 9 ≤ length bs → frame_size bs ≤ length bs → judged (bs ++ more) ≡ judged bs
judged_append bs more p q =
    let l : 9 ≤ length (bs ++ more) = simp length-append (omega arith) in
    let m : min 10 (frame_size bs) ≤ length bs = omega arith in
    judged_many (bs ++ more) l ∙ ap (λ n. take (min 10 n) (bs ++ more)) (frame_size-append bs more p) ∙ take-append-le (min 10 (frame_size bs)) bs more m ∙ sym (judged_many bs p)

-- a whole frame stays, whatever comes behind it
pub whole_grows : (at : Context) (bs more frame rest : List ℕ) → front at bs ≡ Whole frame rest → front at (bs ++ more) ≡ Whole frame (rest ++ more)
whole_grows at bs more frame rest e =
    let w : IsWhole at bs frame rest = front_whole at bs frame rest e in
    let p : 9 ≤ length bs = w.nine in
    let q : frame_size bs ≤ length bs = w.enough in
    let s : frame_size (bs ++ more) ≡ frame_size bs = frame_size-append bs more p in
    let l : 9 ≤ length (bs ++ more) = simp length-append (omega arith) in
    let m : frame_size bs ≤ length (bs ++ more) = simp length-append (omega arith) in
    whole_front at (bs ++ more) l (subst (λ n. n ≤ length (bs ++ more)) (sym s) m) (subst (λ xs. IsNoFault (judge at xs)) (sym (judged_append bs more p q)) w.fine)
    ∙ ap₂ Whole (ap (λ n. take n (bs ++ more)) s ∙ take-append-le (frame_size bs) bs more q ∙ sym w.frame_is) (ap (λ n. drop n (bs ++ more)) s ∙ drop-append-le (frame_size bs) bs more q ∙ ap (λ xs. xs ++ more) (sym w.rest_is))

-- a whole frame has nine bytes at least
pub whole_less : (at : Context) (bs frame rest : List ℕ) → front at bs ≡ Whole frame rest → length bs ≡ length frame + length rest × (9 ≤ length frame)
whole_less at bs frame rest e =
    let w : IsWhole at bs frame rest = front_whole at bs frame rest e in
    let q : frame_size bs ≤ length bs = w.enough in
    let a : length frame ≡ min (frame_size bs) (length bs) = ap length w.frame_is ∙ length-take (frame_size bs) bs in
    let b : length rest ≡ length bs - frame_size bs = ap length w.rest_is ∙ length-drop (frame_size bs) bs in
    (omega arith, omega arith)

broken_step : (bs : List ℕ) (code : ℕ) (b c : Bool) (f rest : List ℕ) → cond b Short (cond c Short (Whole f rest)) ≡ Broken code → ⊥
broken_step bs code true c f rest e = cc
broken_step bs code false true f rest e = cc
broken_step bs code false false f rest e = cc

broken_by : (bs : List ℕ) (code : ℕ) (j : Judgement) → front_of j bs ≡ Broken code → j ≡ Fault code
broken_by bs code (Fault c) e = cc
broken_by bs code Open e = absurd (broken_step bs code _ _ _ _ e)
broken_by bs code Fine e = absurd (broken_step bs code _ _ _ _ e)

-- a broken front has a fault
pub front_broken : (at : Context) (bs : List ℕ) (code : ℕ) → front at bs ≡ Broken code → judge at (judged bs) ≡ Fault code
front_broken at bs code e = broken_by bs code (judge at (judged bs)) e

-- a fault breaks the front
pub broken_front : (at : Context) (bs : List ℕ) (code : ℕ) → judge at (judged bs) ≡ Fault code → front at bs ≡ Broken code
broken_front at bs code h = ap (λ j. front_of j bs) h
