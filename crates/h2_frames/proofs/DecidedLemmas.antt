-- Ten bytes decide each rule.
use Rattle.std.proofs.Common.{◌≡◌, ◌≢◌, ◌∙◌, length-take, take, min, ◌<◌, ◌≤◌, ◌+◌, ◌-◌, ◌%◌, ◌==◌, ◌&&◌, ◌||◌, ℕ, Bool, true, false, List, length, cond, nat_lt, nat_le, arith, refl, sym, ap, subst, Option, Some, None}
use Rattle.std.proofs.lemmas.Bool.{le-ltb}
use Rattle.std.proofs.lemmas.Bool.Decides.{nat_tests}
use Rattle.std.proofs.lemmas.Grind.{get_or_default_zero}
use Rattle.h2_frames.specs.Http2Codes.{DATA, HEADERS, PRIORITY, RST_STREAM, SETTINGS, PING, GOAWAY, WINDOW_UPDATE, CONTINUATION, PADDED, PRIORITY_FLAG, MAX_FRAME_SIZE, PROTOCOL_ERROR, FRAME_SIZE_ERROR}
use Rattle.h2_frames.specs.FrameHead.{length_with, stream_with, kind_of, flags_of, has_flag, frame_size}
use Rattle.h2_frames.specs.FrameErrors.{Context, Verdict, Undecided, Keeps, Breaks, keeps_if, breaks_if, of_all, with_kind, with_flags, fits_fields, pads_within, pads_fields, has_size_of_kind, has_padding_within, begins_with_settings, continues_block, is_of_stream, is_of_connection, is_on_its_stream, fields_size, fits_kind, pads_kind, Judgement, Open, Fine, Fault, first_broken, judge}
use Rattle.h2_frames.specs.Http2Frame.{judged}
use Rattle.h2_frames.proofs.FrontLemmas.{judged_many, size_take}
use Rattle.h2_frames.proofs.GrowthLemmas.{either}

-- the rule is kept or broken
abbrev pub IsDecided : Verdict → Type 0
IsDecided Undecided = ⊥
IsDecided Keeps = Unit {0}
IsDecided Breaks = Unit {0}

abbrev IsNotOpen : Judgement → Type 0
IsNotOpen Open = ⊥
IsNotOpen Fine = Unit {0}
IsNotOpen (Fault code) = Unit {0}

-- what waits for bytes that have come is decided
pub known : (n : ℕ) (bs : List ℕ) (v : Verdict) → n ≤ length bs → IsDecided v → IsDecided (cond (nat_lt (length bs) n) Undecided v)
known n bs v h d = subst (λ (b : Bool). IsDecided (cond b Undecided v)) (sym (le-ltb (length bs) n h)) d

-- a choice between two that are decided
pub either_way : (b : Bool) (v w : Verdict) → IsDecided v → IsDecided w → IsDecided (cond b v w)
either_way true v w p q = p
either_way false v w p q = q

-- a number that is in reach or not is decided
pub all_or_none : (a n : Bool) → (a ≡ false → n ≡ true) → IsDecided (of_all a n)
all_or_none true n h = tt
all_or_none false n h = subst (λ (b : Bool). IsDecided (cond b Breaks Undecided)) (sym (h refl)) tt

-- the length is known with three bytes
pub size_known : (bs : List ℕ) → 3 ≤ length bs → length_with 255 bs ≡ length_with 0 bs
size_known bs h =
    let x : 0 < length bs = omega arith in
    let y : 1 < length bs = omega arith in
    let z : 2 < length bs = omega arith in
    omega (arith, get_or_default_zero bs 0 255 x, get_or_default_zero bs 1 255 y, get_or_default_zero bs 2 255 z)

-- the stream is known with nine bytes
pub stream_known : (bs : List ℕ) → 9 ≤ length bs → stream_with 255 bs ≡ stream_with 0 bs
stream_known bs h =
    let x : 5 < length bs = omega arith in
    let y : 6 < length bs = omega arith in
    let z : 7 < length bs = omega arith in
    let w : 8 < length bs = omega arith in
    omega (arith, ap (λ n. n % 128) (get_or_default_zero bs 5 255 x), get_or_default_zero bs 6 255 y, get_or_default_zero bs 7 255 z, get_or_default_zero bs 8 255 w)

-- a number that is in reach or not
pub small_or : (x y n : ℕ) → y ≡ x → nat_le y n ≡ false → nat_lt n x ≡ true
small_or x y n e h = grind (arith, nat_tests)

stream_or : (x y s : ℕ) → y ≡ x → (x == s && y == s) ≡ false → (nat_lt s x || nat_lt y s) ≡ true
stream_or x y s e h = grind (arith, nat_tests)

some_or : (x y : ℕ) → y ≡ x → nat_lt 0 x ≡ false → (y == 0) ≡ true
some_or x y e h = grind (arith, nat_tests)

none_or : (x y : ℕ) → y ≡ x → (y == 0) ≡ false → nat_lt 0 x ≡ true
none_or x y e h = grind (arith, nat_tests)

-- a test that breaks a rule decides it
pub refusal_decided : (b : Bool) → IsDecided (breaks_if b)
refusal_decided true = tt
refusal_decided false = tt

-- a test that keeps a rule decides it
pub verdict_decided : (b : Bool) → IsDecided (keeps_if b)
verdict_decided true = tt
verdict_decided false = tt

-- the rule on the first frame is decided by five bytes
pub begins_decided : (first : Bool) (block : Option ℕ) (bs : List ℕ) → 4 ≤ length bs → 5 ≤ length bs → IsDecided (begins_with_settings (record { first = first; block = block }) bs)
begins_decided false block bs p q = tt
begins_decided true block bs p q = known 4 bs _ p (either_way (kind_of bs == SETTINGS) _ _ (known 5 bs _ q (refusal_decided _)) tt)

-- the rule on field blocks is decided by a head
pub follows_decided : (block : Option ℕ) (bs : List ℕ) → 4 ≤ length bs → 9 ≤ length bs → IsDecided (continues_block block bs)
follows_decided None bs p q = known 4 bs _ p (refusal_decided _)
follows_decided (Some s) bs p q = known 4 bs _ p (either_way (kind_of bs == CONTINUATION) _ _ (all_or_none _ _ (stream_or _ _ s (stream_known bs q))) tt)

-- the rule on streams is decided by a head
pub stands_decided : (bs : List ℕ) → 4 ≤ length bs → 9 ≤ length bs → IsDecided (is_on_its_stream bs)
stands_decided bs p q = known 4 bs _ p (either_way (is_of_stream (kind_of bs)) _ _ (all_or_none _ _ (some_or _ _ (stream_known bs q)))
    (either_way (is_of_connection (kind_of bs)) _ _ (all_or_none _ _ (none_or _ _ (stream_known bs q))) tt))

-- the size of a type is decided by five bytes
pub fits_decided : (kind size : ℕ) (bs : List ℕ) → 5 ≤ length bs → IsDecided (fits_kind kind size bs)
fits_decided kind size bs q =
    either_way (kind == DATA || kind == HEADERS) _ _ (either_way (nat_le (fields_size kind 255) size) _ _ tt (known 5 bs _ q (verdict_decided _)))
    (either_way (kind == PRIORITY) _ _ (verdict_decided _) (either_way (kind == RST_STREAM || kind == WINDOW_UPDATE) _ _ (verdict_decided _)
    (either_way (kind == SETTINGS) _ _ (either_way (size == 0) _ _ tt (either_way (size % 6 == 0) _ _ (known 5 bs _ q (refusal_decided _)) tt))
    (either_way (kind == PING) _ _ (verdict_decided _) (either_way (kind == GOAWAY) _ _ (verdict_decided _) tt)))))

-- the padding is decided by ten bytes
pub pads_decided : (kind size : ℕ) (bs : List ℕ) → 5 ≤ length bs → 10 ≤ length bs → IsDecided (pads_kind kind size bs)
pads_decided kind size bs q r = either_way (kind == DATA || kind == HEADERS) _ _ (either_way (nat_le (fields_size kind 255 + 255) size) _ _ tt (known 5 bs _ q
    (either_way (has_flag PADDED (flags_of bs)) _ _ (either_way (nat_le 255 (size - fields_size kind (flags_of bs))) _ _ tt (known 10 bs _ r (verdict_decided _))) tt))) tt

judge_step : (v : Verdict) (code : ℕ) (rest : Judgement) → IsDecided v → IsNotOpen rest → IsNotOpen (first_broken v code rest)
judge_step Undecided code rest p q = p
judge_step Keeps code rest p q = q
judge_step Breaks code rest p q = tt

decided : (at : Context) (bs : List ℕ) → 10 ≤ length bs → IsNotOpen (judge at bs)
decided at bs r =
    let p : 4 ≤ length bs = omega arith in
    let q : 5 ≤ length bs = omega arith in
    let n : 9 ≤ length bs = omega arith in
    let t : 3 ≤ length bs = omega arith in
    judge_step _ 1 _ (begins_decided at.first at.block bs p q) (judge_step _ 6 _ (all_or_none _ _ (small_or _ _ MAX_FRAME_SIZE (size_known bs t))) (judge_step _ 1 _ (follows_decided at.block bs p n) (judge_step _ 1 _ (stands_decided bs p n)
    (judge_step _ 1 _ (known 4 bs _ p (refusal_decided _)) (judge_step _ 6 _ (known 4 bs _ p (fits_decided (kind_of bs) (length_with 0 bs) bs q)) (judge_step _ 1 _ (either_way (nat_le 261 (length_with 0 bs)) _ _ tt (known 4 bs _ p (pads_decided (kind_of bs) (length_with 0 bs) bs q r))) tt))))))

-- a frame with no payload, whose padding no byte can decide

no_room : (n size : ℕ) → 1 ≤ n → size ≡ 0 → nat_le n size ≡ false
no_room n size h z = grind (arith, nat_tests)

padded_size : (kind flags : ℕ) (b : Bool) → has_flag PADDED flags ≡ b → b ≡ true → 1 ≤ fields_size kind flags
padded_size kind flags b e h =
    let more : ℕ = cond (kind == HEADERS && has_flag PRIORITY_FLAG flags) 5 0 in
    let one : fields_size kind flags ≡ 1 + cond (kind == HEADERS && has_flag PRIORITY_FLAG flags) 5 0 = ap (λ (x : Bool). cond x 1 0 + cond (kind == HEADERS && has_flag PRIORITY_FLAG flags) 5 0) (e ∙ h) in
    omega arith

-- where the fields fit into nothing, there is no padding
unpadded : (kind size : ℕ) (bs : List ℕ) (b : Bool) → 5 ≤ length bs → size ≡ 0 → fits_fields kind size bs ≡ Keeps → has_flag PADDED (flags_of bs) ≡ b → IsDecided (cond b (pads_within (size - fields_size kind (flags_of bs)) bs) Keeps)
unpadded kind size bs false q z e h = tt
unpadded kind size bs true q z e h =
    let a : nat_le (fields_size kind 255) size ≡ false = no_room (fields_size kind 255) size (padded_size kind 255 true refl refl) z in
    let c : nat_le (fields_size kind (flags_of bs)) size ≡ false = no_room (fields_size kind (flags_of bs)) size (padded_size kind (flags_of bs) true h refl) z in
    let inner : Verdict = with_flags bs (keeps_if (nat_le (fields_size kind (flags_of bs)) size)) in
    let broken : fits_fields kind size bs ≡ Breaks = ap (λ (x : Bool). cond x Keeps (with_flags bs (keeps_if (nat_le (fields_size kind (flags_of bs)) size)))) a ∙ ap (λ (x : Bool). cond x Undecided (keeps_if (nat_le (fields_size kind (flags_of bs)) size))) (le-ltb (length bs) 5 q) ∙ ap keeps_if c in
    absurd (cc)

short_fields : (kind size : ℕ) (bs : List ℕ) (b : Bool) (other : Verdict) → 5 ≤ length bs → size ≡ 0 → cond b (fits_fields kind size bs) other ≡ Keeps → IsDecided (cond b (pads_fields kind size bs) Keeps)
short_fields kind size bs true other q z e = either_way (nat_le (fields_size kind 255 + 255) size) _ _ tt (known 5 bs _ q (unpadded kind size bs (has_flag PADDED (flags_of bs)) q z e refl))
short_fields kind size bs false other q z e = tt

tail_by : (first second : Verdict) (c d : ℕ) → IsDecided first → (first ≡ Keeps → IsDecided second) → IsNotOpen (first_broken first c (first_broken second d Fine))
tail_by Undecided second c d p k = p
tail_by Breaks second c d p k = tt
tail_by Keeps second c d p k = judge_step second d Fine (k refl) tt

kept_kind : (bs : List ℕ) (v : Verdict) → 4 ≤ length bs → with_kind bs v ≡ v
kept_kind bs v p = ap (λ (x : Bool). cond x Undecided v) (le-ltb (length bs) 4 p)

decided_short : (at : Context) (bs : List ℕ) → 9 ≤ length bs → length_with 0 bs ≡ 0 → IsNotOpen (judge at bs)
decided_short at bs n z =
    let p : 4 ≤ length bs = omega arith in
    let q : 5 ≤ length bs = omega arith in
    let t : 3 ≤ length bs = omega arith in
    judge_step _ PROTOCOL_ERROR _ (begins_decided at.first at.block bs p q) (judge_step _ FRAME_SIZE_ERROR _ (all_or_none _ _ (small_or _ _ MAX_FRAME_SIZE (size_known bs t))) (judge_step _ PROTOCOL_ERROR _ (follows_decided at.block bs p n) (judge_step _ PROTOCOL_ERROR _ (stands_decided bs p n)
    (judge_step _ PROTOCOL_ERROR _ (known 4 bs _ p (refusal_decided _)) (tail_by (has_size_of_kind bs) (has_padding_within bs) FRAME_SIZE_ERROR PROTOCOL_ERROR (known 4 bs _ p (fits_decided (kind_of bs) (length_with 0 bs) bs q))
    (λ e. either_way (nat_le 261 (length_with 0 bs)) _ _ tt (known 4 bs _ p (short_fields (kind_of bs) (length_with 0 bs) bs (kind_of bs == DATA || kind_of bs == HEADERS) _ q z (sym (kept_kind bs (fits_kind (kind_of bs) (length_with 0 bs) bs) p) ∙ e)))))))))

-- a whole frame leaves no rule undecided
decided_whole : (at : Context) (bs : List ℕ) → 9 ≤ length bs → frame_size bs ≤ length bs → IsNotOpen (judge at (judged bs))
decided_whole at bs n w =
    let cut : judged bs ≡ take (min 10 (frame_size bs)) bs = judged_many bs n in
    subst (λ (xs : List ℕ). IsNotOpen (judge at xs)) (sym cut)
    (either (frame_size bs) 10
    (λ small.
    let m : min 10 (frame_size bs) ≡ 9 = omega arith in
    let nine : 9 ≤ length (take (min 10 (frame_size bs)) bs) = omega (arith, length-take (min 10 (frame_size bs)) bs) in
    let three : 3 ≤ min 10 (frame_size bs) = omega arith in
    decided_short at (take (min 10 (frame_size bs)) bs) nine (omega (arith, size_take 0 (min 10 (frame_size bs)) bs three)))
    (λ large.
    let ten : 10 ≤ length (take (min 10 (frame_size bs)) bs) = omega (arith, length-take (min 10 (frame_size bs)) bs) in
    decided at (take (min 10 (frame_size bs)) bs) ten))

-- a whole frame leaves no rule undecided
pub judge_decides : (at : Context) (bs : List ℕ) → 9 ≤ length bs → frame_size bs ≤ length bs → judge at (judged bs) ≢ Open
judge_decides at bs n w e = subst IsNotOpen e (decided_whole at bs n w)

-- ten bytes leave no rule undecided
pub ten_decide : (at : Context) (bs : List ℕ) → 10 ≤ length bs → judge at bs ≢ Open
ten_decide at bs ten e = subst IsNotOpen e (decided at bs ten)
