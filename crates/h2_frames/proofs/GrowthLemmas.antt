-- What is judged of a frame with more bytes.
use Rattle.std.proofs.Common.{◌≡◌, ◌<◌, ◌≤◌, ◌+◌, ◌-◌, ◌++◌, ℕ, List, length, take, min, nat_lt, arith, sym, ap, subst, ◌∙◌, length-append, length-take, append-nil}
use Rattle.std.proofs.lemmas.Bool.{ltb-true, ltb-false}
use Rattle.std.proofs.lemmas.List.{take_all, take-take, take-append-le}
use Rattle.std.proofs.Math.Seq.{take-append-add}
use Rattle.base.specs.Bytes.{AreBytes}
use Rattle.base.proofs.AreBytesLemmas.{AreBytes-take}
use Rattle.h2_frames.specs.FrameErrors.{Context, judge, Fault}
use Rattle.h2_frames.specs.FrameHead.{frame_size}
use Rattle.h2_frames.specs.Http2Frame.{judged, front, Broken}
use Rattle.h2_frames.proofs.FrontLemmas.{judged_few, judged_many, frame_size-append, front_broken, broken_front}
use Rattle.h2_frames.proofs.SteadyLemmas.{split, judge_grows}

-- a number is below another, or not
pub either : {A : Type 0} (a b : ℕ) → (a < b → A) → (b ≤ a → A) → A
either a b f g = split a b (nat_lt a b) (ltb-true a b) (ltb-false a b) f g

-- the first of joined lists
pub take_append : (n : ℕ) (xs ys : List ℕ) → take n (xs ++ ys) ≡ take n xs ++ take (n - length xs) ys
take_append n xs ys = either n (length xs)
    (λ h. let l : n ≤ length xs = omega arith in let z : 0 ≡ n - length xs = omega arith in take-append-le n xs ys l ∙ sym (append-nil (take n xs)) ∙ ap (λ k. take n xs ++ take k ys) z)
    (λ h. let e : n ≡ length xs + (n - length xs) = omega arith in ap (λ k. take k (xs ++ ys)) e ∙ take-append-add xs ys (n - length xs) ∙ ap (λ zs. zs ++ take (n - length xs) ys) (sym (take_all n xs h)))

-- the first of the first
pub take_both : (a b : ℕ) (xs : List ℕ) → take a (take b xs) ≡ take (min b a) xs
take_both a b xs = either a b
    (λ h. let l : a ≤ b = omega arith in let e : a ≡ min b a = omega arith in take-take a b xs l ∙ ap (λ k. take k xs) e)
    (λ h. let e : b ≡ min b a = omega arith in let l : length (take b xs) ≤ a = simp length-take (omega arith) in take_all a (take b xs) l ∙ ap (λ k. take k xs) e)

bytes_judged : (bs : List ℕ) → AreBytes bs → AreBytes (judged bs)
bytes_judged bs p = either (length bs) 9 (λ h. subst AreBytes (sym (judged_few bs h)) p) (λ h. subst AreBytes (sym (judged_many bs h)) (AreBytes-take _ bs p))

-- all of nine bytes is judged
pub judged_nine : (bs : List ℕ) → length bs ≤ 9 → judged bs ≡ bs
judged_nine bs l = either (length bs) 9 (λ h. judged_few bs h) (λ h. let k : length bs ≤ min 10 (frame_size bs) = omega arith in judged_many bs h ∙ take_all _ bs k)

front_part : (bs more : List ℕ) → 9 ≤ length (bs ++ more) → take (min 10 (frame_size (bs ++ more))) bs ≡ judged bs
front_part bs more l = either (length bs) 9
    (λ h. let k : length bs ≤ min 10 (frame_size (bs ++ more)) = omega arith in take_all _ bs k ∙ sym (judged_few bs h))
    (λ h. ap (λ n. take (min 10 n) bs) (frame_size-append bs more h) ∙ sym (judged_many bs h))

-- what is judged of more bytes begins with what is judged of the bytes
pub record Grown (bs more : List ℕ) : Type 0 where
  pub added : List ℕ
  pub is : judged (bs ++ more) ≡ judged bs ++ added

-- with more bytes more is judged
pub judged_grows : (bs more : List ℕ) → Grown bs more
judged_grows bs more = either (length (bs ++ more)) 9
    (λ h. let l : length bs < 9 = omega (arith, length-append bs more) in record { added = more; is = judged_few (bs ++ more) h ∙ ap (λ xs. xs ++ more) (sym (judged_few bs l)) })
    (λ h. record {
      added = take (min 10 (frame_size (bs ++ more)) - length bs) more;
      is = judged_many (bs ++ more) h ∙ take_append (min 10 (frame_size (bs ++ more))) bs more ∙ ap (λ xs. xs ++ take (min 10 (frame_size (bs ++ more)) - length bs) more) (front_part bs more h);
    })

-- what begins_with_settings with a judged fault
pub fault_grows : (at : Context) (bs next more : List ℕ) (c : ℕ) → AreBytes bs → judged bs ≡ next ++ more → judge at next ≡ Fault c → front at bs ≡ Broken c
fault_grows at bs next more c k e h = broken_front at bs c (ap (judge at) e ∙ judge_grows at next more c (subst AreBytes e (bytes_judged bs k)) h)

-- a broken rule stays broken
pub broken_grows : (at : Context) (bs more : List ℕ) (c : ℕ) → AreBytes (bs ++ more) → front at bs ≡ Broken c → front at (bs ++ more) ≡ Broken c
broken_grows at bs more c k h = let g = judged_grows bs more in fault_grows at (bs ++ more) (judged bs) g.added c k g.is (front_broken at bs c h)
