-- What is not decided may still go either way: field blocks.
use Rattle.std.proofs.Common.{◌≡◌, ◌<◌, ◌≤◌, ◌+◌, ◌*◌, ◌/◌, ◌%◌, ◌^◌, ◌==◌, ◌&&◌, ◌||◌, ℕ, Bool, true, false, List, [], ◌∷◌, length, cond, nat_lt, arith, refl, sym, ap, ap₂, ◌∙◌, get_or, lit<, lit≤, Option, Some, None, IfSome}
use Rattle.std.proofs.lemmas.Bool.Decides.{nat_tests}
use Rattle.std.proofs.lemmas.Grind.{get_or_default_zero}
use Rattle.std.proofs.Math.ListN.{get_or-eq_default}
use Rattle.base.specs.Bytes.{AreBytes}
use Rattle.base.proofs.AreBytesLemmas.{AreBytes_more, AreBytes_none}
use Rattle.h2_frames.specs.Http2Codes.{CONTINUATION}
use Rattle.h2_frames.specs.FrameHead.{stream_with, kind_of}
use Rattle.h2_frames.specs.FrameErrors.{Verdict, Undecided, Keeps, Breaks, breaks_if, of_all, continues_block}
use Rattle.h2_frames.specs.FrameVerdicts.{MayGoEitherWay, IsDecidedAtOnce}
use Rattle.h2_frames.proofs.GrowthLemmas.{either}
use Rattle.h2_frames.proofs.SteadyLemmas.{follows_steady}
use Rattle.h2_frames.proofs.DecidedLemmas.{known, refusal_decided}
use Rattle.h2_frames.proofs.FilledLemmas.{filled, fill_at, fill_old, fill_new, fill_length, both, decided_not, kind_known, at_once, head_list, head_is_bytes, ten, kind_new, kind_old, stream_filled, by_bool, breaks_decided, of_all_undecided}
use Rattle.h2_frames.proofs.EarliestLemmas.{stream_none}

-- field blocks

same_test : (s n : ℕ) → n ≡ s → (n == s && n == s) ≡ true
same_test s n h = grind (arith, nat_tests)

other_test : (s n : ℕ) → (n == s) ≡ false → (nat_lt s n || nat_lt n s) ≡ true
other_test s n h = grind (arith, nat_tests)

and_false : (b : Bool) → b ≡ false → (b && b) ≡ false
and_false b h = ap (λ x. x && b) h

and_second : (b c : Bool) → b ≡ true → (b && c) ≡ false → c ≡ false
and_second b c h e = ap (λ x. x && c) (sym h) ∙ e

reach_low : (low high s : ℕ) → (nat_lt s low || nat_lt high s) ≡ false → low ≤ s
reach_low low high s h = grind (arith, nat_tests)

reach_high : (low high s : ℕ) → (nat_lt s low || nat_lt high s) ≡ false → s ≤ high
reach_high low high s h = grind (arith, nat_tests)

in_reach : (low high s : ℕ) → (nat_lt s low || nat_lt high s) ≡ false → (low ≤ s) × (s ≤ high)
in_reach low high s h = (reach_low low high s h, reach_high low high s h)

is_nine : (n : ℕ) → (n == CONTINUATION) ≡ true → n ≡ 9
is_nine n h = grind (arith, nat_tests)

equal_by : (a s : ℕ) → a ≤ s → s ≤ a → a ≡ s
equal_by a s p q = omega arith

block_none_at : (q : List ℕ) (k : ℕ) → 4 ≤ length q → kind_of q ≡ k → continues_block None q ≡ breaks_if (k == CONTINUATION)
block_none_at q k h x = kind_known q (breaks_if (kind_of q == CONTINUATION)) h ∙ ap (λ a. breaks_if (a == CONTINUATION)) x

block_none_undecided : (p : List ℕ) → continues_block None p ≡ Undecided → MayGoEitherWay (continues_block None) p
block_none_undecided p e = either (length p) 4
    (λ few. both (continues_block None) p (head_list 0 0 0) (head_list 9 0 0) (head_is_bytes 0 0 0 (lit< tt) (lit< tt) (lit< tt)) (head_is_bytes 9 0 0 (lit< tt) (lit< tt) (lit< tt))
    (block_none_at (filled p (head_list 0 0 0)) 0 (ten p 0 0 0 4 (lit≤ tt)) (kind_new p 0 0 0 few)) (block_none_at (filled p (head_list 9 0 0)) 9 (ten p 9 0 0 4 (lit≤ tt)) (kind_new p 9 0 0 few)))
    (λ four. decided_not (continues_block None) p _ (known 4 p _ four (refusal_decided _)) e)

abbrev block_by : ℕ → ℕ → ℕ → Verdict
block_by s k n = cond (k == CONTINUATION) (of_all (n == s && n == s) (nat_lt s n || nat_lt n s)) Breaks

block_at : (s : ℕ) (q : List ℕ) (k n : ℕ) → 4 ≤ length q → kind_of q ≡ k → stream_with 0 q ≡ n → stream_with 255 q ≡ n → continues_block (Some s) q ≡ block_by s k n
block_at s q k n h x low high =
    let at : ℕ → ℕ → Verdict = λ a b. cond (kind_of q == CONTINUATION) (of_all (a == s && b == s) (nat_lt s a || nat_lt b s)) Breaks in
    kind_known q (at (stream_with 0 q) (stream_with 255 q)) h ∙ ap₂ at low high ∙ ap (λ a. block_by s a n) x

block_same : (s n : ℕ) → n ≡ s → block_by s 9 n ≡ Keeps
block_same s n h = ap (λ b. of_all b (nat_lt s n || nat_lt n s)) (same_test s n h)

block_other : (s n : ℕ) → (n == s) ≡ false → block_by s 9 n ≡ Breaks
block_other s n h = ap₂ of_all (and_false (n == s) h) (other_test s n h)

-- the four bytes of a stream
abbrev stream_by : ℕ → ℕ → ℕ → ℕ → ℕ
stream_by w x y z = (w % 128) * 16777216 + x * 65536 + y * 256 + z

stream_same : (a b c d w x y z : ℕ) → a ≡ w → b ≡ x → c ≡ y → d ≡ z → stream_by a b c d ≡ stream_by w x y z
stream_same a b c d w x y z p q r s = ap₂ (λ i j. stream_by i j c d) p q ∙ ap₂ (λ i j. stream_by w x i j) r s

abbrev stream_list : ℕ → List ℕ
stream_list s = 0 ∷ 0 ∷ 0 ∷ 9 ∷ 0 ∷ (s / 16777216) ∷ (s / 65536 % 256) ∷ (s / 256 % 256) ∷ (s % 256) ∷ []

stream_list_bytes : (s : ℕ) → s < 2 ^ 31 → AreBytes (stream_list s)
stream_list_bytes s h =
    let a : s / 16777216 < 256 = omega arith in
    let b : s / 65536 % 256 < 256 = omega arith in
    let c : s / 256 % 256 < 256 = omega arith in
    let d : s % 256 < 256 = omega arith in
    AreBytes_more 0 (0 ∷ 0 ∷ 9 ∷ 0 ∷ (s / 16777216) ∷ (s / 65536 % 256) ∷ (s / 256 % 256) ∷ (s % 256) ∷ []) (lit< tt) (AreBytes_more 0 (0 ∷ 9 ∷ 0 ∷ (s / 16777216) ∷ (s / 65536 % 256) ∷ (s / 256 % 256) ∷ (s % 256) ∷ []) (lit< tt)
    (AreBytes_more 0 (9 ∷ 0 ∷ (s / 16777216) ∷ (s / 65536 % 256) ∷ (s / 256 % 256) ∷ (s % 256) ∷ []) (lit< tt) (AreBytes_more 9 (0 ∷ (s / 16777216) ∷ (s / 65536 % 256) ∷ (s / 256 % 256) ∷ (s % 256) ∷ []) (lit< tt)
    (AreBytes_more 0 ((s / 16777216) ∷ (s / 65536 % 256) ∷ (s / 256 % 256) ∷ (s % 256) ∷ []) (lit< tt) (AreBytes_more (s / 16777216) ((s / 65536 % 256) ∷ (s / 256 % 256) ∷ (s % 256) ∷ []) a (AreBytes_more (s / 65536 % 256) ((s / 256 % 256) ∷ (s % 256) ∷ []) b
    (AreBytes_more (s / 256 % 256) ((s % 256) ∷ []) c (AreBytes_more (s % 256) [] d AreBytes_none))))))))

here : (p : List ℕ) (i d e : ℕ) → i < length p → get_or p i d ≡ get_or p i e
here p i d e h = get_or_default_zero p i d h ∙ sym (get_or_default_zero p i e h)

gone : (p : List ℕ) (i d : ℕ) → length p ≤ i → get_or p i d ≡ d
gone p i d h = get_or-eq_default p d {n = i} h

digits0 : (s : ℕ) → s < 2 ^ 31 → stream_by (s / 16777216) (s / 65536 % 256) (s / 256 % 256) (s % 256) ≡ s
digits0 s h = omega arith

digits1 : (v s : ℕ) → stream_by v 0 0 0 ≤ s → s ≤ stream_by v 255 255 255 → stream_by v (s / 65536 % 256) (s / 256 % 256) (s % 256) ≡ s
digits1 v s p q = omega arith

digits2 : (v w s : ℕ) → stream_by v w 0 0 ≤ s → s ≤ stream_by v w 255 255 → stream_by v w (s / 256 % 256) (s % 256) ≡ s
digits2 v w s p q = omega arith

digits3 : (v w x s : ℕ) → stream_by v w x 0 ≤ s → s ≤ stream_by v w x 255 → stream_by v w x (s % 256) ≡ s
digits3 v w x s p q = omega arith

-- the bytes of a stream in reach fill it up
abbrev mixed : List ℕ → ℕ → ℕ
mixed p s = stream_by (get_or p 5 (s / 16777216)) (get_or p 6 (s / 65536 % 256)) (get_or p 7 (s / 256 % 256)) (get_or p 8 (s % 256))

le_by : (a b s : ℕ) → a ≡ b → a ≤ s → b ≤ s
le_by a b s e h = omega arith

ge_by : (a b s : ℕ) → a ≡ b → s ≤ a → s ≤ b
ge_by a b s e h = omega arith

mixed_is : (p : List ℕ) (s : ℕ) → s < 2 ^ 31 → stream_with 0 p ≤ s → s ≤ stream_with 255 p → mixed p s ≡ s
mixed_is p s bound low high =
    let a : ℕ = s / 16777216 in
    let b : ℕ = s / 65536 % 256 in
    let c : ℕ = s / 256 % 256 in
    let d : ℕ = s % 256 in
    let v : ℕ = get_or p 5 0 in
    let w : ℕ = get_or p 6 0 in
    let x : ℕ = get_or p 7 0 in
    either (length p) 6
    (λ five. let i : length p ≤ 5 = omega arith in let j : length p ≤ 6 = omega arith in let k : length p ≤ 7 = omega arith in let l : length p ≤ 8 = omega arith in
    stream_same _ _ _ _ (s / 16777216) (s / 65536 % 256) (s / 256 % 256) (s % 256) (gone p 5 (s / 16777216) i) (gone p 6 (s / 65536 % 256) j) (gone p 7 (s / 256 % 256) k) (gone p 8 (s % 256) l) ∙ digits0 s bound)
    (λ six. let i : 5 < length p = omega arith in either (length p) 7
    (λ few. let j : length p ≤ 6 = omega arith in let k : length p ≤ 7 = omega arith in let l : length p ≤ 8 = omega arith in
    let at = λ (e f g h : ℕ). stream_same (get_or p 5 e) (get_or p 6 f) (get_or p 7 g) (get_or p 8 h) (get_or p 5 0) f g h (here p 5 e 0 i) (gone p 6 f j) (gone p 7 g k) (gone p 8 h l) in
    at (s / 16777216) (s / 65536 % 256) (s / 256 % 256) (s % 256) ∙ digits1 (get_or p 5 0) s (le_by _ _ s (at 0 0 0 0) low) (ge_by _ _ s (at 255 255 255 255) high))
    (λ seven. let j : 6 < length p = omega arith in either (length p) 8
    (λ few. let k : length p ≤ 7 = omega arith in let l : length p ≤ 8 = omega arith in
    let at = λ (e f g h : ℕ). stream_same (get_or p 5 e) (get_or p 6 f) (get_or p 7 g) (get_or p 8 h) (get_or p 5 0) (get_or p 6 0) g h (here p 5 e 0 i) (here p 6 f 0 j) (gone p 7 g k) (gone p 8 h l) in
    at (s / 16777216) (s / 65536 % 256) (s / 256 % 256) (s % 256) ∙ digits2 (get_or p 5 0) (get_or p 6 0) s (le_by _ _ s (at 0 0 0 0) low) (ge_by _ _ s (at 255 255 255 255) high))
    (λ eight. let k : 7 < length p = omega arith in either (length p) 9
    (λ few. let l : length p ≤ 8 = omega arith in
    let at = λ (e f g h : ℕ). stream_same (get_or p 5 e) (get_or p 6 f) (get_or p 7 g) (get_or p 8 h) (get_or p 5 0) (get_or p 6 0) (get_or p 7 0) h (here p 5 e 0 i) (here p 6 f 0 j) (here p 7 g 0 k) (gone p 8 h l) in
    at (s / 16777216) (s / 65536 % 256) (s / 256 % 256) (s % 256) ∙ digits3 (get_or p 5 0) (get_or p 6 0) (get_or p 7 0) s (le_by _ _ s (at 0 0 0 0) low) (ge_by _ _ s (at 255 255 255 255) high))
    (λ nine. let l : 8 < length p = omega arith in
    let at = λ (e f g h : ℕ). stream_same (get_or p 5 e) (get_or p 6 f) (get_or p 7 g) (get_or p 8 h) (get_or p 5 0) (get_or p 6 0) (get_or p 7 0) (get_or p 8 0) (here p 5 e 0 i) (here p 6 f 0 j) (here p 7 g 0 k) (here p 8 h 0 l) in
    let top : s ≤ stream_with 0 p = ge_by _ _ s (at 255 255 255 255) high in
    at (s / 16777216) (s / 65536 % 256) (s / 256 % 256) (s % 256) ∙ equal_by (stream_with 0 p) s low top))))

mixed_filled : (p : List ℕ) (s d : ℕ) → stream_with d (filled p (stream_list s)) ≡ mixed p s
mixed_filled p s d = stream_same _ _ _ _ _ _ _ _ (fill_at p (stream_list s) 5 d (s / 16777216) refl) (fill_at p (stream_list s) 6 d (s / 65536 % 256) refl) (fill_at p (stream_list s) 7 d (s / 256 % 256) refl) (fill_at p (stream_list s) 8 d (s % 256) refl)

stream_none_high : (p : List ℕ) → length p < 4 → stream_with 255 p ≡ 2147483647
stream_none_high p h =
    let a : length p ≤ 5 = omega arith in
    let b : length p ≤ 6 = omega arith in
    let c : length p ≤ 7 = omega arith in
    let d : length p ≤ 8 = omega arith in
    stream_same _ _ _ _ 255 255 255 255 (gone p 5 255 a) (gone p 6 255 b) (gone p 7 255 c) (gone p 8 255 d)

block_some_undecided : (s : ℕ) (p : List ℕ) → s < 2 ^ 31 → continues_block (Some s) p ≡ Undecided → MayGoEitherWay (continues_block (Some s)) p
block_some_undecided s p bound e =
    let rule : List ℕ → Verdict = continues_block (Some s) in
    let nine = fill_length p (stream_list s) in
    let four_of : 4 ≤ length (filled p (stream_list s)) = omega arith in
    either (length p) 4
    (λ few.
    let l : length p ≤ 3 = omega arith in
    let low : stream_with 0 p ≤ s = omega (arith, stream_none p few) in
    let high : s ≤ stream_with 255 p = omega (arith, stream_none_high p few) in
    let m = mixed_is p s bound low high in
    both rule p (stream_list s) (head_list 0 0 0) (stream_list_bytes s bound) (head_is_bytes 0 0 0 (lit< tt) (lit< tt) (lit< tt))
    (block_at s (filled p (stream_list s)) 9 s four_of (fill_new p (stream_list s) 3 9 l refl) (mixed_filled p s 0 ∙ m) (mixed_filled p s 255 ∙ m) ∙ block_same s s refl)
    (block_at s (filled p (head_list 0 0 0)) 0 0 (ten p 0 0 0 4 (lit≤ tt)) (kind_new p 0 0 0 few) (stream_filled p 0 0 0 0 ∙ stream_none p few) (stream_filled p 0 0 0 255 ∙ stream_none p few)))
    (λ four.
    let l : 3 < length p = omega arith in
    let now = sym (kind_known p (cond (kind_of p == CONTINUATION) (of_all (stream_with 0 p == s && stream_with 255 p == s) (nat_lt s (stream_with 0 p) || nat_lt (stream_with 255 p) s)) Breaks) four) ∙ e in
    by_bool (kind_of p == CONTINUATION)
    (λ is.
    let k : kind_of p ≡ 9 = is_nine (kind_of p) is in
    let o = of_all_undecided (stream_with 0 p == s && stream_with 255 p == s) (nat_lt s (stream_with 0 p) || nat_lt (stream_with 255 p) s) (ap (λ b. cond b (of_all (stream_with 0 p == s && stream_with 255 p == s) (nat_lt s (stream_with 0 p) || nat_lt (stream_with 255 p) s)) Breaks) (sym is) ∙ now) in
    let r = in_reach (stream_with 0 p) (stream_with 255 p) s o.1 in
    let m = mixed_is p s bound r.0 r.1 in
    let good = block_at s (filled p (stream_list s)) 9 s four_of (fill_old p (stream_list s) 3 l ∙ k) (mixed_filled p s 0 ∙ m) (mixed_filled p s 255 ∙ m) ∙ block_same s s refl in
    by_bool (stream_with 0 p == s)
    (λ same. both rule p (stream_list s) (head_list 0 0 255) (stream_list_bytes s bound) (head_is_bytes 0 0 255 (lit< tt) (lit< tt) (lit< tt)) good
    (block_at s (filled p (head_list 0 0 255)) 9 (stream_with 255 p) (ten p 0 0 255 4 (lit≤ tt)) (kind_old p 0 0 255 four ∙ k) (stream_filled p 0 0 255 0) (stream_filled p 0 0 255 255) ∙ block_other s (stream_with 255 p) (and_second (stream_with 0 p == s) (stream_with 255 p == s) same o.0)))
    (λ other. both rule p (stream_list s) (head_list 0 0 0) (stream_list_bytes s bound) (head_is_bytes 0 0 0 (lit< tt) (lit< tt) (lit< tt)) good
    (block_at s (filled p (head_list 0 0 0)) 9 (stream_with 0 p) (ten p 0 0 0 4 (lit≤ tt)) (kind_old p 0 0 0 four ∙ k) (stream_filled p 0 0 0 0) (stream_filled p 0 0 0 255) ∙ block_other s (stream_with 0 p) other)))
    (λ other. absurd (breaks_decided _ now (ap (λ b. cond b (of_all (stream_with 0 p == s && stream_with 255 p == s) (nat_lt s (stream_with 0 p) || nat_lt (stream_with 255 p) s)) Breaks) other))))

-- a stream has 31 bits
pub block_at_once : (block : Option ℕ) → IfSome block (λ s. s < 2 ^ 31) → IsDecidedAtOnce (continues_block block)
block_at_once None h = at_once (continues_block None) (follows_steady None) (λ bs _ e. block_none_undecided bs e)
block_at_once (Some s) h = at_once (continues_block (Some s)) (follows_steady (Some s)) (λ bs _ e. block_some_undecided s bs h e)
