-- What is not decided may still go either way: the first frame, the limit, the streams and PUSH_PROMISE.
use Rattle.std.proofs.Common.{◌≡◌, ◌<◌, ◌≤◌, ◌==◌, ℕ, Bool, true, false, List, length, cond, nat_lt, nat_le, arith, refl, sym, ap, ap₂, ◌∙◌, lit<, lit≤, Option}
use Rattle.std.proofs.lemmas.Bool.Decides.{nat_tests}
use Rattle.std.proofs.Math.ListN.{get_or-eq_default}
use Rattle.base.specs.Bytes.{AreBytes}
use Rattle.h2_frames.specs.Http2Codes.{SETTINGS, PUSH_PROMISE, ACK, MAX_FRAME_SIZE}
use Rattle.h2_frames.specs.FrameHead.{length_with, stream_with, kind_of, flags_of, has_flag}
use Rattle.h2_frames.specs.FrameErrors.{Context, Verdict, Undecided, Keeps, Breaks, breaks_if, with_flags, of_all, begins_with_settings, is_within_limit, is_of_stream, is_of_connection, is_on_its_stream, is_no_push}
use Rattle.h2_frames.specs.FrameVerdicts.{MayGoEitherWay, IsDecidedAtOnce}
use Rattle.h2_frames.proofs.GrowthLemmas.{either}
use Rattle.h2_frames.proofs.SteadyLemmas.{begins_step, small_steady, stands_steady, push_steady}
use Rattle.h2_frames.proofs.DecidedLemmas.{known, refusal_decided, begins_decided}
use Rattle.h2_frames.proofs.FilledLemmas.{filled, both, decided_not, kind_known, flags_known, at_once, head_list, head_is_bytes, ten, kind_new, kind_old, flags_new, length_filled, stream_filled, by_bool, breaks_decided, of_all_undecided, not_above, above}

-- the first frame

begins_at : (block : Option ℕ) (q : List ℕ) (k f : ℕ) → 5 ≤ length q → kind_of q ≡ k → flags_of q ≡ f → begins_with_settings (record { first = true; block = block }) q ≡ cond (k == SETTINGS) (breaks_if (has_flag ACK f)) Breaks
begins_at block q k f h x y =
    let four : 4 ≤ length q = omega arith in
    kind_known q (cond (kind_of q == SETTINGS) (with_flags q (breaks_if (has_flag ACK (flags_of q)))) Breaks) four
    ∙ ap (λ v. cond (kind_of q == SETTINGS) v Breaks) (flags_known q (breaks_if (has_flag ACK (flags_of q))) h)
    ∙ ap₂ (λ a b. cond (a == SETTINGS) (breaks_if (has_flag ACK b)) Breaks) x y

begins_undecided : (first : Bool) (block : Option ℕ) (p : List ℕ) → begins_with_settings (record { first = first; block = block }) p ≡ Undecided → MayGoEitherWay (begins_with_settings (record { first = first; block = block })) p
begins_undecided false block p e = absurd (cc)
begins_undecided true block p e =
    let rule : List ℕ → Verdict = begins_with_settings (record { first = true; block = block }) in
    either (length p) 4
    (λ few. let five : length p < 5 = omega arith in
    both rule p (head_list 4 0 0) (head_list 0 0 0) (head_is_bytes 4 0 0 (lit< tt) (lit< tt) (lit< tt)) (head_is_bytes 0 0 0 (lit< tt) (lit< tt) (lit< tt))
    (begins_at block (filled p (head_list 4 0 0)) 4 0 (ten p 4 0 0 5 (lit≤ tt)) (kind_new p 4 0 0 few) (flags_new p 4 0 0 five))
    (begins_at block (filled p (head_list 0 0 0)) 0 0 (ten p 0 0 0 5 (lit≤ tt)) (kind_new p 0 0 0 few) (flags_new p 0 0 0 five)))
    (λ four. either (length p) 5
    (λ five. by_bool (kind_of p == SETTINGS)
    (λ is. both rule p (head_list 0 0 0) (head_list 0 1 0) (head_is_bytes 0 0 0 (lit< tt) (lit< tt) (lit< tt)) (head_is_bytes 0 1 0 (lit< tt) (lit< tt) (lit< tt))
    (begins_at block (filled p (head_list 0 0 0)) (kind_of p) 0 (ten p 0 0 0 5 (lit≤ tt)) (kind_old p 0 0 0 four) (flags_new p 0 0 0 five) ∙ ap (λ b. cond b Keeps Breaks) is)
    (begins_at block (filled p (head_list 0 1 0)) (kind_of p) 1 (ten p 0 1 0 5 (lit≤ tt)) (kind_old p 0 1 0 four) (flags_new p 0 1 0 five) ∙ ap (λ b. cond b Breaks Breaks) is))
    (λ other. let v = kind_known p (cond (kind_of p == SETTINGS) (with_flags p (breaks_if (has_flag ACK (flags_of p)))) Breaks) four in
    let w : cond (kind_of p == SETTINGS) (with_flags p (breaks_if (has_flag ACK (flags_of p)))) Breaks ≡ Breaks = ap (λ b. cond b (with_flags p (breaks_if (has_flag ACK (flags_of p)))) Breaks) other in
    absurd (breaks_decided _ (sym v ∙ e) w)))
    (λ five. decided_not rule p _ (begins_decided true block p four five) e))

-- the rule on the first frame is decided at once
pub begins_at_once : (at : Context) → IsDecidedAtOnce (begins_with_settings at)
begins_at_once at = at_once (begins_with_settings at) (λ bs more _. begins_step at.first at.block bs more) (λ bs _ e. begins_undecided at.first at.block bs e)

-- the limit of a payload

small_undecided : (p : List ℕ) → is_within_limit p ≡ Undecided → MayGoEitherWay is_within_limit p
small_undecided p e =
    let o = of_all_undecided (nat_le (length_with 255 p) MAX_FRAME_SIZE) (nat_lt MAX_FRAME_SIZE (length_with 0 p)) e in
    both is_within_limit p (head_list 0 0 0) (head_list 0 0 255) (head_is_bytes 0 0 0 (lit< tt) (lit< tt) (lit< tt)) (head_is_bytes 0 0 255 (lit< tt) (lit< tt) (lit< tt))
    (ap₂ (λ a b. of_all (nat_le a MAX_FRAME_SIZE) (nat_lt MAX_FRAME_SIZE b)) (length_filled p 0 0 0 255) (length_filled p 0 0 0 0) ∙ ap (λ b. of_all b (nat_lt MAX_FRAME_SIZE (length_with 0 p))) (not_above MAX_FRAME_SIZE (length_with 0 p) o.1))
    (ap₂ (λ a b. of_all (nat_le a MAX_FRAME_SIZE) (nat_lt MAX_FRAME_SIZE b)) (length_filled p 0 0 255 255) (length_filled p 0 0 255 0) ∙ ap₂ of_all o.0 (above MAX_FRAME_SIZE (length_with 255 p) o.0))

-- the limit of a payload is decided at once
pub small_at_once : IsDecidedAtOnce is_within_limit
small_at_once = at_once is_within_limit small_steady (λ bs _ e. small_undecided bs e)

-- PUSH_PROMISE

push_at : (q : List ℕ) (k : ℕ) → 4 ≤ length q → kind_of q ≡ k → is_no_push q ≡ breaks_if (k == PUSH_PROMISE)
push_at q k h x = kind_known q (breaks_if (kind_of q == PUSH_PROMISE)) h ∙ ap (λ a. breaks_if (a == PUSH_PROMISE)) x

push_undecided : (p : List ℕ) → is_no_push p ≡ Undecided → MayGoEitherWay is_no_push p
push_undecided p e = either (length p) 4
    (λ few. both is_no_push p (head_list 0 0 0) (head_list 5 0 0) (head_is_bytes 0 0 0 (lit< tt) (lit< tt) (lit< tt)) (head_is_bytes 5 0 0 (lit< tt) (lit< tt) (lit< tt))
    (push_at (filled p (head_list 0 0 0)) 0 (ten p 0 0 0 4 (lit≤ tt)) (kind_new p 0 0 0 few)) (push_at (filled p (head_list 5 0 0)) 5 (ten p 5 0 0 4 (lit≤ tt)) (kind_new p 5 0 0 few)))
    (λ four. decided_not is_no_push p _ (known 4 p _ four (refusal_decided _)) e)

-- the rule on PUSH_PROMISE is decided at once
pub push_at_once : IsDecidedAtOnce is_no_push
push_at_once = at_once is_no_push (λ bs more _. push_steady bs more) (λ bs _ e. push_undecided bs e)

-- frames of a stream and of the connection

stands_by : (q : List ℕ) (k s : ℕ) → 4 ≤ length q → kind_of q ≡ k → stream_with 0 q ≡ s → stream_with 255 q ≡ s → is_on_its_stream q ≡ cond (is_of_stream k) (of_all (nat_lt 0 s) (s == 0)) (cond (is_of_connection k) (of_all (s == 0) (nat_lt 0 s)) Keeps)
stands_by q k s h x low high =
    let at : ℕ → ℕ → Verdict = λ a b. cond (is_of_stream (kind_of q)) (of_all (nat_lt 0 a) (b == 0)) (cond (is_of_connection (kind_of q)) (of_all (b == 0) (nat_lt 0 a)) Keeps) in
    kind_known q (at (stream_with 0 q) (stream_with 255 q)) h ∙ ap₂ at low high ∙ ap (λ a. cond (is_of_stream a) (of_all (nat_lt 0 s) (s == 0)) (cond (is_of_connection a) (of_all (s == 0) (nat_lt 0 s)) Keeps)) x

-- a stream of which no byte has come may be 0
pub stream_none : (p : List ℕ) → length p < 4 → stream_with 0 p ≡ 0
stream_none p h =
    let a : length p ≤ 5 = omega arith in
    let b : length p ≤ 6 = omega arith in
    let c : length p ≤ 7 = omega arith in
    let d : length p ≤ 8 = omega arith in
    rw (get_or-eq_default p 0 {n = 5} a, get_or-eq_default p 0 {n = 6} b, get_or-eq_default p 0 {n = 7} c, get_or-eq_default p 0 {n = 8} d) refl

zero_test : (n : ℕ) → nat_lt 0 n ≡ false → n ≡ 0
zero_test n h = grind (arith, nat_tests)

some_test : (n : ℕ) → (n == 0) ≡ false → nat_lt 0 n ≡ true
some_test n h = grind (arith, nat_tests)

stands_either : (p : List ℕ) (b c : Bool) (low high : ℕ) → AreBytes (head_list 0 0 0) → AreBytes (head_list 0 0 255)
    → cond b (of_all (nat_lt 0 low) (high == 0)) (cond c (of_all (high == 0) (nat_lt 0 low)) Keeps) ≡ Undecided
    → is_on_its_stream (filled p (head_list 0 0 0)) ≡ cond b (of_all (nat_lt 0 low) (low == 0)) (cond c (of_all (low == 0) (nat_lt 0 low)) Keeps)
    → is_on_its_stream (filled p (head_list 0 0 255)) ≡ cond b (of_all (nat_lt 0 high) (high == 0)) (cond c (of_all (high == 0) (nat_lt 0 high)) Keeps)
    → MayGoEitherWay is_on_its_stream p
stands_either p true c low high z f e x y =
    let o = of_all_undecided (nat_lt 0 low) (high == 0) e in
    both is_on_its_stream p (head_list 0 0 255) (head_list 0 0 0) f z (y ∙ ap₂ of_all (some_test high o.1) o.1) (x ∙ ap (λ n. of_all (nat_lt 0 n) (n == 0)) (zero_test low o.0))
stands_either p false true low high z f e x y =
    let o = of_all_undecided (high == 0) (nat_lt 0 low) e in
    both is_on_its_stream p (head_list 0 0 0) (head_list 0 0 255) z f (x ∙ ap (λ n. of_all (n == 0) (nat_lt 0 n)) (zero_test low o.1)) (y ∙ ap₂ of_all o.0 (some_test high o.0))
stands_either p false false low high z f e x y = absurd (cc)

stands_undecided : (p : List ℕ) → is_on_its_stream p ≡ Undecided → MayGoEitherWay is_on_its_stream p
stands_undecided p e = either (length p) 4
    (λ few. both is_on_its_stream p (head_list 10 0 0) (head_list 0 0 0) (head_is_bytes 10 0 0 (lit< tt) (lit< tt) (lit< tt)) (head_is_bytes 0 0 0 (lit< tt) (lit< tt) (lit< tt))
    (stands_by (filled p (head_list 10 0 0)) 10 0 (ten p 10 0 0 4 (lit≤ tt)) (kind_new p 10 0 0 few) (stream_filled p 10 0 0 0 ∙ stream_none p few) (stream_filled p 10 0 0 255 ∙ stream_none p few))
    (stands_by (filled p (head_list 0 0 0)) 0 0 (ten p 0 0 0 4 (lit≤ tt)) (kind_new p 0 0 0 few) (stream_filled p 0 0 0 0 ∙ stream_none p few) (stream_filled p 0 0 0 255 ∙ stream_none p few)))
    (λ four.
    let low : ℕ = stream_with 0 p in
    let high : ℕ = stream_with 255 p in
    let known-now = sym (kind_known p (cond (is_of_stream (kind_of p)) (of_all (nat_lt 0 (stream_with 0 p)) (stream_with 255 p == 0)) (cond (is_of_connection (kind_of p)) (of_all (stream_with 255 p == 0) (nat_lt 0 (stream_with 0 p))) Keeps)) four) ∙ e in
    let zeros = stands_by (filled p (head_list 0 0 0)) (kind_of p) (stream_with 0 p) (ten p 0 0 0 4 (lit≤ tt)) (kind_old p 0 0 0 four) (stream_filled p 0 0 0 0) (stream_filled p 0 0 0 255) in
    let ffs = stands_by (filled p (head_list 0 0 255)) (kind_of p) (stream_with 255 p) (ten p 0 0 255 4 (lit≤ tt)) (kind_old p 0 0 255 four) (stream_filled p 0 0 255 0) (stream_filled p 0 0 255 255) in
    let z = head_is_bytes 0 0 0 (lit< tt) (lit< tt) (lit< tt) in
    let f = head_is_bytes 0 0 255 (lit< tt) (lit< tt) (lit< tt) in
    stands_either p (is_of_stream (kind_of p)) (is_of_connection (kind_of p)) (stream_with 0 p) (stream_with 255 p) z f known-now zeros ffs)

-- the rule on streams is decided at once
pub stands_at_once : IsDecidedAtOnce is_on_its_stream
stands_at_once = at_once is_on_its_stream stands_steady (λ bs _ e. stands_undecided bs e)
