-- What is decided stays decided, whatever bytes come.
use Rattle.std.proofs.Common.{◌≡◌, ◌<◌, ◌≤◌, ◌+◌, ◌-◌, ◌%◌, ◌++◌, ◌==◌, ◌&&◌, ◌||◌, ℕ, Bool, true, false, List, length, cond, nat_lt, nat_le, arith, refl, sym, ap, subst, ◌∙◌, length-append, Option, Some, None, get_or}
use Rattle.std.proofs.lemmas.Bool.{ltb-true, ltb-false, le-ltb, lt-ltb}
use Rattle.std.proofs.lemmas.Bool.Decides.{nat_tests}
use Rattle.std.proofs.lemmas.List.{get_or_append_left}
use Rattle.std.proofs.Math.ListN.{get_or-eq_default}
use Rattle.std.proofs.lemmas.Grind.{get_or_default_zero}
use Rattle.base.specs.Bytes.{AreBytes}
use Rattle.h2_frames.specs.Http2Codes.{DATA, HEADERS, PRIORITY, RST_STREAM, SETTINGS, PUSH_PROMISE, PING, GOAWAY, WINDOW_UPDATE, CONTINUATION, ACK, PADDED}
use Rattle.h2_frames.specs.FrameHead.{length_with, stream_with, kind_of, flags_of, has_flag}
use Rattle.h2_frames.specs.FrameErrors.{Context, Verdict, Undecided, Keeps, Breaks, keeps_if, breaks_if, with_kind, with_flags, of_all, begins_with_settings, is_within_limit, continues_block, is_of_stream, is_of_connection, is_on_its_stream, is_no_push, fields_size, fits_kind, pads_within, pads_kind, has_padding_within, Judgement, Fine, Fault, first_broken, judge}
use Rattle.h2_frames.proofs.FrontLemmas.{size_append}

-- by the two cases of a test on numbers
pub split : {A : Type 0} (i n : ℕ) (b : Bool) → (b ≡ true → i < n) → (b ≡ false → n ≤ i) → (i < n → A) → (n ≤ i → A) → A
split i n true p q f g = f (p refl)
split i n false p q f g = g (q refl)

-- an index is within a list, or not
pub by_index : {A : Type 0} (i : ℕ) (bs : List ℕ) → (i < length bs → A) → (length bs ≤ i → A) → A
by_index i bs f g = split i (length bs) (nat_lt i (length bs)) (ltb-true i (length bs)) (ltb-false i (length bs)) f g

-- a byte that has come is the same, whatever stands for one that has not
pub same_default : (i : ℕ) (bs : List ℕ) → i < length bs → get_or bs i 255 ≡ get_or bs i 0
same_default i bs h = get_or_default_zero bs i 255 h

-- a byte in the place of one that has not come
low_le : (i : ℕ) (bs more : List ℕ) → get_or bs i 0 ≤ get_or (bs ++ more) i 0
low_le i bs more = by_index i bs
    (λ h. let e = get_or_append_left bs more 0 i h in omega (arith, e))
    (λ h. let e = get_or-eq_default bs 0 {n = i} h in omega (arith, e))

low_mod_le : (i : ℕ) (bs more : List ℕ) → get_or bs i 0 % 128 ≤ get_or (bs ++ more) i 0 % 128
low_mod_le i bs more = by_index i bs
    (λ h. let e : get_or (bs ++ more) i 0 % 128 ≡ get_or bs i 0 % 128 = ap (λ x. x % 128) (get_or_append_left bs more 0 i h) in omega arith)
    (λ h. let e : get_or bs i 0 % 128 ≡ 0 = ap (λ x. x % 128) (get_or-eq_default bs 0 {n = i} h) in omega arith)

at_most : (i : ℕ) (bs : List ℕ) → AreBytes bs → get_or bs i 255 ≤ 255
at_most i bs k = by_index i bs
    (λ h. let e : get_or bs i 255 ≡ get_or bs i 0 = same_default i bs h in let b : get_or bs i 0 < 256 = k i in omega arith)
    (λ h. let e : get_or bs i 255 ≡ 255 = get_or-eq_default bs 255 {n = i} h in omega arith)

low_high : (i : ℕ) (bs : List ℕ) → get_or bs i 0 ≤ get_or bs i 255
low_high i bs = by_index i bs
    (λ h. let e : get_or bs i 255 ≡ get_or bs i 0 = same_default i bs h in omega arith)
    (λ h. let e : get_or bs i 0 ≡ 0 = get_or-eq_default bs 0 {n = i} h in omega arith)

low_mod_high : (i : ℕ) (bs : List ℕ) → get_or bs i 0 % 128 ≤ get_or bs i 255 % 128
low_mod_high i bs = by_index i bs
    (λ h. let e : get_or bs i 255 % 128 ≡ get_or bs i 0 % 128 = ap (λ x. x % 128) (same_default i bs h) in omega arith)
    (λ h. let e : get_or bs i 0 % 128 ≡ 0 = ap (λ x. x % 128) (get_or-eq_default bs 0 {n = i} h) in omega arith)

high_le : (i : ℕ) (bs more : List ℕ) → AreBytes (bs ++ more) → get_or (bs ++ more) i 255 ≤ get_or bs i 255
high_le i bs more k = by_index i bs
    (λ h. let e = get_or_append_left bs more 255 i h in omega (arith, e))
    (λ h. let e : get_or bs i 255 ≡ 255 = get_or-eq_default bs 255 {n = i} h in let m = at_most i (bs ++ more) k in omega arith)

high_mod_le : (i : ℕ) (bs more : List ℕ) → get_or (bs ++ more) i 255 % 128 ≤ get_or bs i 255 % 128
high_mod_le i bs more = by_index i bs
    (λ h. let e : get_or (bs ++ more) i 255 % 128 ≡ get_or bs i 255 % 128 = ap (λ x. x % 128) (get_or_append_left bs more 255 i h) in omega arith)
    (λ h. let e : get_or bs i 255 % 128 ≡ 127 = ap (λ x. x % 128) (get_or-eq_default bs 255 {n = i} h) in omega arith)

size_low_le : (bs more : List ℕ) → length_with 0 bs ≤ length_with 0 (bs ++ more)
size_low_le bs more = omega (arith, low_le 0 bs more, low_le 1 bs more, low_le 2 bs more)

size_high_le : (bs more : List ℕ) → AreBytes (bs ++ more) → length_with 255 (bs ++ more) ≤ length_with 255 bs
size_high_le bs more k = omega (arith, high_le 0 bs more k, high_le 1 bs more k, high_le 2 bs more k)

size_low_high : (bs : List ℕ) → length_with 0 bs ≤ length_with 255 bs
size_low_high bs = omega (arith, low_high 0 bs, low_high 1 bs, low_high 2 bs)

stream_low_le : (bs more : List ℕ) → stream_with 0 bs ≤ stream_with 0 (bs ++ more)
stream_low_le bs more = omega (arith, low_mod_le 5 bs more, low_le 6 bs more, low_le 7 bs more, low_le 8 bs more)

stream_high_le : (bs more : List ℕ) → AreBytes (bs ++ more) → stream_with 255 (bs ++ more) ≤ stream_with 255 bs
stream_high_le bs more k = omega (arith, high_mod_le 5 bs more, high_le 6 bs more k, high_le 7 bs more k, high_le 8 bs more k)

stream_low_high : (bs : List ℕ) → stream_with 0 bs ≤ stream_with 255 bs
stream_low_high bs = omega (arith, low_mod_high 5 bs, low_high 6 bs, low_high 7 bs, low_high 8 bs)

-- a keeps_if that more bytes leave
abbrev pub Steady : Verdict → Verdict → Type 0
Steady Undecided w = Unit {0}
Steady Keeps w = w ≡ Keeps
Steady Breaks w = w ≡ Breaks

steady_refl : (v : Verdict) → Steady v v
steady_refl Undecided = tt
steady_refl Keeps = refl
steady_refl Breaks = refl

steady_same : (v w : Verdict) → w ≡ v → Steady v w
steady_same v w e = subst (Steady v) (sym e) (steady_refl v)

if_known_step : (v w : Verdict) (b c : Bool) → (b ≡ false → c ≡ false) → (b ≡ false → Steady v w) → Steady (cond b Undecided v) (cond c Undecided w)
if_known_step v w true c p k = tt
if_known_step v w false true p k = absurd (cc (p refl))
if_known_step v w false false p k = k refl

if_known : (n : ℕ) (bs more : List ℕ) (v w : Verdict) → (n ≤ length bs → Steady v w) → Steady (cond (nat_lt (length bs) n) Undecided v) (cond (nat_lt (length (bs ++ more)) n) Undecided w)
if_known n bs more v w k = if_known_step v w (nat_lt (length bs) n) (nat_lt (length (bs ++ more)) n)
    (λ e. let h : n ≤ length bs = ltb-false (length bs) n e in let l : n ≤ length (bs ++ more) = simp length-append (omega arith) in le-ltb (length (bs ++ more)) n l)
    (λ e. k (ltb-false (length bs) n e))

if_same : (b c : Bool) (v w x y : Verdict) → c ≡ b → Steady v w → Steady x y → Steady (cond b v x) (cond c w y)
if_same true true v w x y e p q = p
if_same false false v w x y e p q = q
if_same true false v w x y e p q = absurd (cc)
if_same false true v w x y e p q = absurd (cc)

all_steady : (a n a' n' : Bool) → (a ≡ true → a' ≡ true) → (n ≡ true → a' ≡ false) → (n ≡ true → n' ≡ true) → Steady (of_all a n) (of_all a' n')
all_steady true n a' n' p q r = ap (λ b. cond b Keeps (cond n' Breaks Undecided)) (p refl)
all_steady false true a' n' p q r = ap (λ b. cond b Keeps (cond n' Breaks Undecided)) (q refl) ∙ ap (λ b. cond b Breaks Undecided) (r refl)
all_steady false false a' n' p q r = tt

kind_append : (bs more : List ℕ) → 4 ≤ length bs → kind_of (bs ++ more) ≡ kind_of bs
kind_append bs more h = let l : 3 < length bs = omega arith in get_or_append_left bs more 0 3 l

flags_append : (bs more : List ℕ) → 5 ≤ length bs → flags_of (bs ++ more) ≡ flags_of bs
flags_append bs more h = let l : 4 < length bs = omega arith in get_or_append_left bs more 0 4 l

pad_append : (bs more : List ℕ) → 10 ≤ length bs → get_or (bs ++ more) 9 0 ≡ get_or bs 9 0
pad_append bs more h = let l : 9 < length bs = omega arith in get_or_append_left bs more 0 9 l

by_flags : (f : ℕ → Verdict) (bs more : List ℕ) → Steady (with_flags bs (f (flags_of bs))) (with_flags (bs ++ more) (f (flags_of (bs ++ more))))
by_flags f bs more = if_known 5 bs more _ _ (λ h. steady_same (f (flags_of bs)) (f (flags_of (bs ++ more))) (ap f (flags_append bs more h)))

-- the rule on the first frame stays as it is decided
pub begins_step : (first : Bool) (block : Option ℕ) (bs more : List ℕ) → Steady (begins_with_settings (record { first = first; block = block }) bs) (begins_with_settings (record { first = first; block = block }) (bs ++ more))
begins_step false block bs more = refl
begins_step true block bs more = if_known 4 bs more _ _ (λ h. if_same _ _ _ _ _ _ (ap (λ k. k == SETTINGS) (kind_append bs more h)) (by_flags (λ f. breaks_if (has_flag ACK f)) bs more) refl)

le_tests : (x y n : ℕ) → y ≤ x → nat_le x n ≡ true → nat_le y n ≡ true
le_tests x y n h e = grind (arith, nat_tests)

lt_tests : (x y n : ℕ) → x ≤ y → nat_lt n x ≡ true → nat_lt n y ≡ true
lt_tests x y n h e = grind (arith, nat_tests)

lt_fails : (x y z n : ℕ) → x ≤ y → y ≤ z → nat_lt n x ≡ true → nat_le z n ≡ false
lt_fails x y z n h k e = grind (arith, nat_tests)

-- the limit of a payload stays as it is decided
pub small_steady : (bs more : List ℕ) → AreBytes (bs ++ more) → Steady (is_within_limit bs) (is_within_limit (bs ++ more))
small_steady bs more k =
    let a = size_low_le bs more in let b = size_high_le bs more k in let c = size_low_high (bs ++ more) in
    all_steady _ _ _ _ (le_tests _ _ _ b) (lt_fails _ _ _ _ a c) (lt_tests _ _ _ a)

eq_tests : (low high low' high' s : ℕ) → low ≤ low' → low' ≤ high' → high' ≤ high → (low == s && high == s) ≡ true → (low' == s && high' == s) ≡ true
eq_tests low high low' high' s a b c e = grind (arith, nat_tests)

out_fails : (low high low' high' s : ℕ) → low ≤ low' → low' ≤ high' → high' ≤ high → (nat_lt s low || nat_lt high s) ≡ true → (low' == s && high' == s) ≡ false
out_fails low high low' high' s a b c e = grind (arith, nat_tests)

out_tests : (low high low' high' s : ℕ) → low ≤ low' → high' ≤ high → (nat_lt s low || nat_lt high s) ≡ true → (nat_lt s low' || nat_lt high' s) ≡ true
out_tests low high low' high' s a c e = grind (arith, nat_tests)

-- the rule on field blocks stays as it is decided
pub follows_steady : (block : Option ℕ) (bs more : List ℕ) → AreBytes (bs ++ more) → Steady (continues_block block bs) (continues_block block (bs ++ more))
follows_steady None bs more k = if_known 4 bs more _ _ (λ h. steady_same _ _ (ap (λ x. breaks_if (x == CONTINUATION)) (kind_append bs more h)))
follows_steady (Some s) bs more k =
    let a = stream_low_le bs more in let b = stream_high_le bs more k in let c = stream_low_high (bs ++ more) in
    if_known 4 bs more _ _ (λ h. if_same _ _ _ _ _ _ (ap (λ x. x == CONTINUATION) (kind_append bs more h))
    (all_steady _ _ _ _ (eq_tests _ _ _ _ s a c b) (out_fails _ _ _ _ s a c b) (out_tests _ _ _ _ s a b)) refl)

zero_tests : (x y : ℕ) → y ≤ x → (x == 0) ≡ true → (y == 0) ≡ true
zero_tests x y h e = grind (arith, nat_tests)

zero_fails : (x y z : ℕ) → x ≤ y → y ≤ z → (z == 0) ≡ true → nat_lt 0 x ≡ false
zero_fails x y z h k e = grind (arith, nat_tests)

some_fails : (x y z : ℕ) → x ≤ y → y ≤ z → nat_lt 0 x ≡ true → (z == 0) ≡ false
some_fails x y z h k e = grind (arith, nat_tests)

-- none is in reach where the last number is 0
none_fails : (low' high' high : ℕ) → low' ≤ high' → high' ≤ high → (high == 0) ≡ true → nat_lt 0 low' ≡ false
none_fails low' high' high a b e = grind (arith, nat_tests)

-- the rule on streams stays as it is decided
pub stands_steady : (bs more : List ℕ) → AreBytes (bs ++ more) → Steady (is_on_its_stream bs) (is_on_its_stream (bs ++ more))
stands_steady bs more k =
    let a = stream_low_le bs more in let b = stream_high_le bs more k in let c = stream_low_high (bs ++ more) in
    if_known 4 bs more _ _ (λ h. if_same _ _ _ _ _ _ (ap is_of_stream (kind_append bs more h))
    (all_steady _ _ _ _ (lt_tests _ _ 0 a) (none_fails _ _ _ c b) (zero_tests _ _ b))
    (if_same _ _ _ _ _ _ (ap is_of_connection (kind_append bs more h))
    (all_steady _ _ _ _ (zero_tests _ _ b) (some_fails _ _ _ a c) (lt_tests _ _ 0 a)) refl))

-- the rule on PUSH_PROMISE stays as it is decided
pub push_steady : (bs more : List ℕ) → Steady (is_no_push bs) (is_no_push (bs ++ more))
push_steady bs more = if_known 4 bs more _ _ (λ h. steady_same _ _ (ap (λ x. breaks_if (x == PUSH_PROMISE)) (kind_append bs more h)))

-- the last byte of a head decides as it did
pub fits_steady : (kind size : ℕ) (bs more : List ℕ) → Steady (fits_kind kind size bs) (fits_kind kind size (bs ++ more))
fits_steady kind size bs more =
    if_same (kind == DATA || kind == HEADERS) (kind == DATA || kind == HEADERS) _ _ _ _ refl
    (if_same (nat_le (fields_size kind 255) size) (nat_le (fields_size kind 255) size) _ _ _ _ refl refl (by_flags (λ f. keeps_if (nat_le (fields_size kind f) size)) bs more))
    (if_same (kind == PRIORITY) (kind == PRIORITY) _ _ _ _ refl (steady_refl _)
    (if_same (kind == RST_STREAM || kind == WINDOW_UPDATE) (kind == RST_STREAM || kind == WINDOW_UPDATE) _ _ _ _ refl (steady_refl _)
    (if_same (kind == SETTINGS) (kind == SETTINGS) _ _ _ _ refl
    (if_same (size == 0) (size == 0) _ _ _ _ refl refl (if_same (size % 6 == 0) (size % 6 == 0) _ _ _ _ refl (by_flags (λ f. breaks_if (has_flag ACK f)) bs more) refl))
    (if_same (kind == PING) (kind == PING) _ _ _ _ refl (steady_refl _)
    (if_same (kind == GOAWAY) (kind == GOAWAY) _ _ _ _ refl (steady_refl _) refl)))))

-- a rule by type and length stays as it is decided
pub kind_size_steady : (f : ℕ → ℕ → List ℕ → Verdict) → ((kind size : ℕ) (bs more : List ℕ) → Steady (f kind size bs) (f kind size (bs ++ more))) → (bs more : List ℕ)
    → Steady (with_kind bs (f (kind_of bs) (length_with 0 bs) bs)) (with_kind (bs ++ more) (f (kind_of (bs ++ more)) (length_with 0 (bs ++ more)) (bs ++ more)))
kind_size_steady f k bs more = if_known 4 bs more _ _ (λ h. let l : 3 ≤ length bs = omega arith in
    subst (λ (x : ℕ). Steady (f (kind_of bs) (length_with 0 bs) bs) (f x (length_with 0 (bs ++ more)) (bs ++ more))) (sym (kind_append bs more h))
    (subst (λ (x : ℕ). Steady (f (kind_of bs) (length_with 0 bs) bs) (f (kind_of bs) x (bs ++ more))) (sym (size_append 0 bs more l)) (k (kind_of bs) (length_with 0 bs) bs more)))

within_steady : (room : ℕ) (bs more : List ℕ) → Steady (pads_within room bs) (pads_within room (bs ++ more))
within_steady room bs more = if_same (nat_le 255 room) (nat_le 255 room) _ _ _ _ refl refl (if_known 10 bs more _ _ (λ h. steady_same _ _ (ap (λ x. keeps_if (nat_le x room)) (pad_append bs more h))))

pads_steady : (kind size : ℕ) (bs more : List ℕ) → Steady (pads_kind kind size bs) (pads_kind kind size (bs ++ more))
pads_steady kind size bs more = if_same (kind == DATA || kind == HEADERS) (kind == DATA || kind == HEADERS) _ _ _ _ refl
    (if_same (nat_le (fields_size kind 255 + 255) size) (nat_le (fields_size kind 255 + 255) size) _ _ _ _ refl refl
    (if_known 5 bs more _ _ (λ h.
    subst (λ (x : ℕ). Steady (cond (has_flag PADDED (flags_of bs)) (pads_within (size - fields_size kind (flags_of bs)) bs) Keeps) (cond (has_flag PADDED x) (pads_within (size - fields_size kind x) (bs ++ more)) Keeps)) (sym (flags_append bs more h))
    (if_same (has_flag PADDED (flags_of bs)) (has_flag PADDED (flags_of bs)) _ _ _ _ refl (within_steady (size - fields_size kind (flags_of bs)) bs more) refl)))) refl

le_trans : (a b c : ℕ) → a ≤ b → b ≤ c → a ≤ c
le_trans a b c p q = omega arith

large_steady : (a b : Bool) (v w : Verdict) → (a ≡ true → b ≡ true) → (b ≡ true → Steady v Keeps) → Steady v w → Steady (cond a Keeps v) (cond b Keeps w)
large_steady true b v w p k s = ap (λ (x : Bool). cond x Keeps w) (p refl)
large_steady false true v w p k s = k refl
large_steady false false v w p k s = s

-- while the type has not come, nothing is decided
few_steady : (bs : List ℕ) (v w : Verdict) → length bs < 4 → Steady (with_kind bs v) w
few_steady bs v w h = subst (λ (b : Bool). Steady (cond b Undecided v) w) (sym (lt-ltb (length bs) 4 h)) tt

le_test : (m n : ℕ) → m ≤ n → nat_le m n ≡ true
le_test m n h = grind (arith, nat_tests)

le_true : (m n : ℕ) → nat_le m n ≡ true → m ≤ n
le_true m n h = grind (arith, nat_tests)

-- the rule on padding stays as it is decided
pub padding_steady : (bs more : List ℕ) → Steady (has_padding_within bs) (has_padding_within (bs ++ more))
padding_steady bs more = split (length bs) 4 (nat_lt (length bs) 4) (ltb-true (length bs) 4) (ltb-false (length bs) 4)
    (λ few. large_steady _ _ _ _ (λ e. le_test 261 (length_with 0 (bs ++ more)) (le_trans 261 (length_with 0 bs) (length_with 0 (bs ++ more)) (le_true _ _ e) (size_low_le bs more)))
    (λ _. few_steady bs _ Keeps few) (few_steady bs _ _ few))
    (λ many. let l : 3 ≤ length bs = omega arith in
    if_same (nat_le 261 (length_with 0 bs)) (nat_le 261 (length_with 0 (bs ++ more))) _ _ _ _ (ap (nat_le 261) (size_append 0 bs more l)) refl (kind_size_steady pads_kind pads_steady bs more))

judge_step : (v w : Verdict) (code c : ℕ) (x y : Judgement) → Steady v w → (x ≡ Fault c → y ≡ Fault c) → first_broken v code x ≡ Fault c → first_broken w code y ≡ Fault c
judge_step Undecided w code c x y s k e = absurd (cc)
judge_step Keeps w code c x y s k e = ap (λ v. first_broken v code y) s ∙ k e
judge_step Breaks w code c x y s k e = ap (λ v. first_broken v code y) s ∙ e

fine_not_fault : (c : ℕ) → Fine ≡ Fault c → Fine ≡ Fault c
fine_not_fault c e = e

-- a fault stays, whatever bytes come
pub judge_grows : (at : Context) (bs more : List ℕ) (c : ℕ) → AreBytes (bs ++ more) → judge at bs ≡ Fault c → judge at (bs ++ more) ≡ Fault c
judge_grows at bs more c k = judge_step _ _ 1 c _ _ (begins_step at.first at.block bs more) (judge_step _ _ 6 c _ _ (small_steady bs more k) (judge_step _ _ 1 c _ _ (follows_steady at.block bs more k)
    (judge_step _ _ 1 c _ _ (stands_steady bs more k) (judge_step _ _ 1 c _ _ (push_steady bs more) (judge_step _ _ 6 c _ _ (kind_size_steady fits_kind fits_steady bs more)
    (judge_step _ _ 1 c _ _ (padding_steady bs more) (fine_not_fault c)))))))

kept_step : (v w : Verdict) (code : ℕ) (x y : Judgement) → Steady v w → (x ≡ Fine → y ≡ Fine)
    → first_broken v code x ≡ Fine → first_broken w code y ≡ Fine
kept_step Undecided w code x y s k e = absurd (cc)
kept_step Keeps w code x y s k e = ap (λ v. first_broken v code y) s ∙ k e
kept_step Breaks w code x y s k e = absurd (cc)

-- what keeps all rules keeps them, whatever bytes come
pub fine_grows : (at : Context) (bs more : List ℕ) → AreBytes (bs ++ more) → judge at bs ≡ Fine
    → judge at (bs ++ more) ≡ Fine
fine_grows at bs more k = kept_step _ _ 1 _ _ (begins_step at.first at.block bs more)
    (kept_step _ _ 6 _ _ (small_steady bs more k) (kept_step _ _ 1 _ _ (follows_steady at.block bs more k)
    (kept_step _ _ 1 _ _ (stands_steady bs more k) (kept_step _ _ 1 _ _ (push_steady bs more)
    (kept_step _ _ 6 _ _ (kind_size_steady fits_kind fits_steady bs more)
    (kept_step _ _ 1 _ _ (padding_steady bs more) (λ e. e)))))))
