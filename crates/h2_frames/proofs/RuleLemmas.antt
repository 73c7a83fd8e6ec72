-- The rules of a frame, each as the standard says it.
use Rattle.std.proofs.Common.{◌≡◌, ◌≢◌, ◌<◌, ◌≤◌, ◌+◌, ◌%◌, ◌==◌, ◌&&◌, ◌||◌, ℕ, Bool, true, false, List, length, cond, nat_lt, nat_le, arith, refl, sym, ap, subst, ◌∙◌, Option, Some, None}
use Rattle.std.proofs.lemmas.Bool.{leb-true, le-leb, ltb-true, lt-ltb, eqb-true, eq-eqb, ne_eqb, both_ways}
use Rattle.std.proofs.lemmas.Bool.Decides.{nat_tests}
use Rattle.h2_frames.specs.Http2Codes.{DATA, HEADERS, PRIORITY, RST_STREAM, SETTINGS, PUSH_PROMISE, PING, GOAWAY, WINDOW_UPDATE, CONTINUATION, ACK, PADDED, PRIORITY_FLAG}
use Rattle.h2_frames.specs.FrameHead.{length_with, stream_with, kind_of, flags_of, has_flag}
use Rattle.h2_frames.specs.FrameErrors.{Context, Verdict, Keeps, Breaks, keeps_if, breaks_if, of_all, begins_with_settings, is_within_limit, continues_block, is_of_stream, is_of_connection, is_on_its_stream, is_no_push, fields_size, has_size_of_kind}
use Rattle.h2_frames.specs.FrameContent.{bytes_before}
use Rattle.h2_frames.specs.FrameRules.{HasSizeOfKind}
use Rattle.h2_frames.proofs.DecidedLemmas.{size_known, stream_known}
use Rattle.h2_frames.proofs.FilledLemmas.{kind_known, flags_known, by_bool}
use Rattle.h2_frames.proofs.SizeLemmas.{fits_by, size_by}

-- a test that keeps a rule holds
pub keeps_true : (b : Bool) → keeps_if b ≡ Keeps → b ≡ true
keeps_true true e = refl
keeps_true false e = absurd (cc)

breaks_false : (b : Bool) → breaks_if b ≡ Keeps → b ≡ false
breaks_false true e = absurd (cc)
breaks_false false e = refl

all_true : (a n : Bool) → of_all a n ≡ Keeps → a ≡ true
all_true true n e = refl
all_true false true e = absurd (cc)
all_true false false e = absurd (cc)

all_keeps : (a n : Bool) → a ≡ true → of_all a n ≡ Keeps
all_keeps a n e = ap (λ b. of_all b n) e

-- types one by one

at_test : (P : ℕ → Type 0) (k n : ℕ) → P n → ((k == n) ≡ false → P k) → P k
at_test P k n p q = by_bool (k == n) (λ e. subst P (sym (eqb-true k n e)) p) q

-- a type for which no size is asked
record IsOther (k : ℕ) : Type 0 where
  pub datum : (k == DATA) ≡ false
  pub headers : (k == HEADERS) ≡ false
  pub priority : (k == PRIORITY) ≡ false
  pub reset : (k == RST_STREAM) ≡ false
  pub settings : (k == SETTINGS) ≡ false
  pub ping : (k == PING) ≡ false
  pub goaway : (k == GOAWAY) ≡ false
  pub update : (k == WINDOW_UPDATE) ≡ false

by_kind : (P : ℕ → Type 0) (k : ℕ) → P 0 → P 1 → P 2 → P 3 → P 4 → P 6 → P 7 → P 8 → (IsOther k → P k) → P k
by_kind P k p0 p1 p2 p3 p4 p6 p7 p8 other =
    at_test P k 0 p0 (λ e0. at_test P k 1 p1
    (λ e1. at_test P k 2 p2 (λ e2. at_test P k 3 p3
    (λ e3. at_test P k 4 p4 (λ e4. at_test P k 6 p6 (λ e6. at_test P k 7 p7 (λ e7. at_test P k 8 p8 (λ e8.
    other (record {
      datum = e0;
      headers = e1;
      priority = e2;
      reset = e3;
      settings = e4;
      ping = e6;
      goaway = e7;
      update
          = e8;
    })))))))))

-- sizes by type

-- what is asked of a size by type and flags
abbrev pub sized : ℕ → ℕ → ℕ → Verdict
sized k n f = fits_by k n (keeps_if (nat_le (fields_size k f) n)) (breaks_if (has_flag ACK f))

-- a whole head shows its size
pub size_is : (q : List ℕ) → 5 ≤ length q → has_size_of_kind q ≡ sized (kind_of q) (length_with 0 q) (flags_of q)
size_is q h = size_by q (kind_of q) (length_with 0 q) (flags_of q) h refl refl refl

fields_at_most : (p r : Bool) → cond p 1 0 + cond r 5 0 ≤ 6
fields_at_most true true = omega arith
fields_at_most true false = omega arith
fields_at_most false true = omega arith
fields_at_most false false = omega arith

one_at_most : (p : Bool) → cond p 1 0 + 0 ≤ 1
one_at_most true = omega arith
one_at_most false = omega arith

fields_fit : (most this n : ℕ) (b : Bool) → this ≤ most → nat_le most n ≡ b → cond b Keeps (keeps_if (nat_le this n))
    ≡ Keeps → this ≤ n
fields_fit most this n true l t e = let m : most ≤ n = leb-true most n t in omega arith
fields_fit most this n false l t e = leb-true this n (keeps_true (nat_le this n) e)

abbrev FieldsFit : ℕ → ℕ → ℕ → Type 0
FieldsFit n f k = sized k n f ≡ Keeps → bytes_before k f ≤ n

no_fields_of : (a b p r : Bool) (n : ℕ) → a ≡ false → b ≡ false → cond ((a || b) && p) 1 0 + cond (b && r) 5 0 ≤ n
no_fields_of true b p r n x y = absurd (cc)
no_fields_of false true p r n x y = absurd (cc)
no_fields_of false false p r n x y = omega arith

fields_in : (n f k : ℕ) → FieldsFit n f k
fields_in n f k = by_kind (FieldsFit n f) k
    (λ e. fields_fit 1 (fields_size 0 f) n (nat_le 1 n) (one_at_most (has_flag PADDED f)) refl e)
    (λ e. fields_fit 6 (fields_size 1 f) n (nat_le 6 n)
    (fields_at_most (has_flag PADDED f) (has_flag PRIORITY_FLAG f)) refl e)
    (λ e. omega arith) (λ e. omega arith) (λ e. omega arith) (λ e. omega arith) (λ e. omega arith) (λ e. omega arith)
    (λ o e. no_fields_of (k == DATA) (k == HEADERS) (has_flag PADDED f) (has_flag PRIORITY_FLAG f) n o.datum
    o.headers)

settings_size : (n : ℕ) (none even ack : Bool) → (n == 0) ≡ none → (n % 6 == 0) ≡ even
    → cond none Keeps (cond even (breaks_if ack) Breaks) ≡ Keeps → n % 6 ≡ 0
settings_size n true even ack z m e = let w : n ≡ 0 = eqb-true n 0 z in ap (λ j. j % 6) w
settings_size n false true ack z m e = eqb-true (n % 6) 0 m
settings_size n false false ack z m e = absurd (cc)

settings_empty : (n : ℕ) (none even ack : Bool) → (n == 0) ≡ none → cond none Keeps (cond even (breaks_if ack) Breaks)
    ≡ Keeps → ack ≡ true → n ≡ 0
settings_empty n true even ack z e h = eqb-true n 0 z
settings_empty n false true true z e h = absurd (cc)
settings_empty n false true false z e h = absurd (cc)
settings_empty n false false ack z e h = absurd (cc)

-- a size that is kept is one of its type
pub size_kept : (k n f : ℕ) → sized k n f ≡ Keeps → HasSizeOfKind n k f
size_kept k n f h = record {
  fields = fields_in n f k h;
  priority = λ e. eqb-true n 5 (keeps_true (n == 5) (subst (λ (j : ℕ). sized j n f ≡ Keeps) e h));
  rst_stream = λ e. eqb-true n 4 (keeps_true (n == 4) (subst (λ (j : ℕ). sized j n f ≡ Keeps) e h));
  settings = λ e. settings_size n (n == 0) (n % 6 == 0) (has_flag ACK f) refl refl (subst (λ (j : ℕ). sized j n f
      ≡ Keeps) e h);
  acknowledgement = λ e a. settings_empty n (n == 0) (n % 6 == 0) (has_flag ACK f) refl (subst (λ (j : ℕ). sized j n f
      ≡ Keeps) e h) a;
  ping = λ e. eqb-true n 8 (keeps_true (n == 8) (subst (λ (j : ℕ). sized j n f ≡ Keeps) e h));
  goaway = λ e. leb-true 8 n (keeps_true (nat_le 8 n) (subst (λ (j : ℕ). sized j n f ≡ Keeps) e h));
  window_update = λ e. eqb-true n 4 (keeps_true (n == 4) (subst (λ (j : ℕ). sized j n f ≡ Keeps) e h));
}

fit_keeps : (most : Bool) (this n : ℕ) → this ≤ n → cond most Keeps (keeps_if (nat_le this n)) ≡ Keeps
fit_keeps true this n l = refl
fit_keeps false this n l = ap keeps_if (le-leb this n l)

settings_keep : (n : ℕ) (ack : Bool) → n % 6 ≡ 0 → (ack ≡ true → n ≡ 0)
    → cond (n == 0) Keeps (cond (n % 6 == 0) (breaks_if ack) Breaks) ≡ Keeps
settings_keep n true m z = ap (λ (b : Bool). cond b Keeps (cond (n % 6 == 0) Breaks Breaks)) (eq-eqb n 0 (z refl))
settings_keep n false m z = either_keeps (n == 0) (n % 6 == 0) (eq-eqb (n % 6) 0 m)
  where
    either_keeps : (none even : Bool) → even ≡ true → cond none Keeps (cond even Keeps Breaks) ≡ Keeps
    either_keeps true even e = refl
    either_keeps false even e = ap (λ (b : Bool). cond b Keeps Breaks) e

other_keeps : (d h p r w s g o : Bool) (v1 v2 v3 v4 v5 v6 : Verdict) → d ≡ false → h ≡ false → p ≡ false → r ≡ false
    → w ≡ false → s ≡ false → g ≡ false → o ≡ false
    → cond (d || h) v1 (cond p v2 (cond (r || w) v3 (cond s v4 (cond g v5 (cond o v6 Keeps))))) ≡ Keeps
other_keeps d h p r w s g o v1 v2 v3 v4 v5 v6 a b c e i j k l = rw (a, b, c, e, i, j, k, l) refl

abbrev SizeKeeps : ℕ → ℕ → ℕ → Type 0
SizeKeeps n f k = HasSizeOfKind n k f → sized k n f ≡ Keeps

-- a size of its type is kept
pub size_keeps : (k n f : ℕ) → HasSizeOfKind n k f → sized k n f ≡ Keeps
size_keeps k n f = by_kind (SizeKeeps n f) k
    (λ h. fit_keeps (nat_le 1 n) (fields_size 0 f) n h.fields)
    (λ h. fit_keeps (nat_le 6 n) (fields_size 1 f) n h.fields)
    (λ h. ap keeps_if (eq-eqb n 5 (h.priority refl)))
    (λ h. ap keeps_if (eq-eqb n 4 (h.rst_stream refl)))
    (λ h. settings_keep n (has_flag ACK f) (h.settings refl) (h.acknowledgement refl))
    (λ h. ap keeps_if (eq-eqb n 8 (h.ping refl)))
    (λ h. ap keeps_if (le-leb 8 n (h.goaway refl)))
    (λ h. ap keeps_if (eq-eqb n 4 (h.window_update refl)))
    (λ o h. other_keeps (k == DATA) (k == HEADERS) (k == PRIORITY) (k == RST_STREAM) (k == WINDOW_UPDATE)
    (k == SETTINGS) (k == PING) (k == GOAWAY) _ _ _ _ _ _ o.datum o.headers o.priority o.reset o.update o.settings
    o.ping o.goaway)

-- the first frame

begins_is : (at : Context) (q : List ℕ) → 4 ≤ length q → 5 ≤ length q → begins_with_settings at q
    ≡ cond at.first (cond (kind_of q == SETTINGS) (breaks_if (has_flag ACK (flags_of q))) Breaks) Keeps
begins_is at q four five = ap (λ v. cond at.first v Keeps) (kind_known q _ four
    ∙ ap (λ v. cond (kind_of q == SETTINGS) v Breaks) (flags_known q (breaks_if (has_flag ACK (flags_of q))) five))

begins_true : (first is ack : Bool) → cond first (cond is (breaks_if ack) Breaks) Keeps ≡ Keeps → first ≡ true
    → (is ≡ true) × (ack ≡ false)
begins_true false is ack e h = absurd (cc)
begins_true true true true e h = absurd (cc)
begins_true true true false e h = (refl, refl)
begins_true true false ack e h = absurd (cc)

-- a first frame that is kept is SETTINGS without ACK
pub first_kept : (at : Context) (q : List ℕ) → 9 ≤ length q → begins_with_settings at q ≡ Keeps → at.first ≡ true
    → (kind_of q ≡ SETTINGS) × (has_flag ACK (flags_of q) ≡ false)
first_kept at q nine e h =
    let four : 4 ≤ length q = omega arith in
    let five : 5 ≤ length q = omega arith in
    let t = begins_true at.first (kind_of q == SETTINGS) (has_flag ACK (flags_of q)) (sym (begins_is at q four five)
    ∙ e) h in
    (eqb-true (kind_of q) SETTINGS t.0, t.1)

begins_keeps : (first is ack : Bool) → (first ≡ true → (is ≡ true) × (ack ≡ false))
    → cond first (cond is (breaks_if ack) Breaks) Keeps ≡ Keeps
begins_keeps true is ack h = let t = h refl in rw (t.0, t.1) refl
begins_keeps false is ack h = refl

-- SETTINGS without ACK is kept as the first frame
pub first_keeps : (at : Context) (q : List ℕ) → 9 ≤ length q
    → (at.first ≡ true → (kind_of q ≡ SETTINGS) × (has_flag ACK (flags_of q) ≡ false)) → begins_with_settings at q
    ≡ Keeps
first_keeps at q nine h =
    let four : 4 ≤ length q = omega arith in
    let five : 5 ≤ length q = omega arith in
    begins_is at q four five ∙ begins_keeps at.first (kind_of q == SETTINGS) (has_flag ACK (flags_of q))
    (λ f. let t = h f in (eq-eqb (kind_of q) SETTINGS t.0, t.1))

-- the limit

-- a size that is kept is within the limit
pub limit_kept : (q : List ℕ) → 9 ≤ length q → is_within_limit q ≡ Keeps → length_with 0 q ≤ 16384
limit_kept q nine e =
    let three : 3 ≤ length q = omega arith in
    let t : length_with 255 q ≤ 16384 = leb-true (length_with 255 q) 16384 (all_true _ _ e) in
    omega (arith, size_known q three)

-- a size within the limit is kept
pub limit_keeps : (q : List ℕ) → 9 ≤ length q → length_with 0 q ≤ 16384 → is_within_limit q ≡ Keeps
limit_keeps q nine l =
    let three : 3 ≤ length q = omega arith in
    let t : length_with 255 q ≤ 16384 = omega (arith, size_known q three) in
    all_keeps (nat_le (length_with 255 q) 16384) _ (le-leb (length_with 255 q) 16384 t)

-- field blocks

continued : (is : Bool) (v : Verdict) → cond is v Breaks ≡ Keeps → (is ≡ true) × (v ≡ Keeps)
continued true v e = (refl, e)
continued false v e = absurd (cc)

and_left : (a b : Bool) → (a && b) ≡ true → a ≡ true
and_left true b e = refl
and_left false b e = absurd (cc)

and_both : (a b : Bool) → a ≡ true → b ≡ true → (a && b) ≡ true
and_both a b x y = rw (x, y) refl

-- within a field block only CONTINUATION of its stream is kept
pub block_kept : (o : Option ℕ) (q : List ℕ) → 9 ≤ length q → continues_block o q ≡ Keeps → (s : ℕ) → o ≡ Some s
    → (kind_of q ≡ CONTINUATION) × (stream_with 0 q ≡ s)
block_kept None q nine e s h = absurd (cc)
block_kept (Some t) q nine e s h =
    let four : 4 ≤ length q = omega arith in
    let c = continued (kind_of q == CONTINUATION) _ (sym (kind_known q _ four) ∙ e) in
    let same : t ≡ s = cc in (
      eqb-true (kind_of q) CONTINUATION c.0,
      eqb-true (stream_with 0 q) t
          (and_left (stream_with 0 q == t) (stream_with 255 q == t) (all_true _ _ c.1)) ∙ same,
    )

-- outside of field blocks CONTINUATION is not kept
pub no_block_kept : (o : Option ℕ) (q : List ℕ) → 9 ≤ length q → continues_block o q ≡ Keeps → o ≡ None
    → kind_of q ≢ CONTINUATION
no_block_kept None q nine e h =
    let four : 4 ≤ length q = omega arith in
    λ c. both_ways (kind_of q == CONTINUATION) (breaks_false (kind_of q == CONTINUATION) (sym (kind_known q _ four)
    ∙ e)) (eq-eqb (kind_of q) CONTINUATION c)
no_block_kept (Some t) q nine e h = absurd (cc)

-- what follows as it should is kept
pub block_keeps : (o : Option ℕ) (q : List ℕ) → 9 ≤ length q
    → ((s : ℕ) → o ≡ Some s → (kind_of q ≡ CONTINUATION) × (stream_with 0 q ≡ s))
    → (o ≡ None → kind_of q ≢ CONTINUATION) → continues_block o q ≡ Keeps
block_keeps None q nine h k =
    let four : 4 ≤ length q = omega arith in
    kind_known q _ four ∙ ap breaks_if (ne_eqb (kind_of q) CONTINUATION (k refl))
block_keeps (Some t) q nine h k =
    let four : 4 ≤ length q = omega arith in
    let c = h t refl in
    let high : stream_with 255 q ≡ t = stream_known q nine ∙ c.1 in
    kind_known q _ four
    ∙ ap (λ (b : Bool). cond b (of_all (stream_with 0 q == t && stream_with 255 q == t)
    (nat_lt t (stream_with 0 q) || nat_lt (stream_with 255 q) t)) Breaks) (eq-eqb (kind_of q) CONTINUATION c.0)
    ∙ all_keeps (stream_with 0 q == t && stream_with 255 q == t) _
    (and_both (stream_with 0 q == t) (stream_with 255 q == t) (eq-eqb (stream_with 0 q) t c.1)
    (eq-eqb (stream_with 255 q) t high))

-- streams

abbrev IsApart : ℕ → Type 0
IsApart k = is_of_connection k ≡ true → is_of_stream k ≡ false

no_connection : (s p g : Bool) → s ≡ false → p ≡ false → g ≡ false → (s || p || g) ≡ true → ⊥
no_connection s p g a b c e = let z : (s || p || g) ≡ false = rw (a, b, c) refl in both_ways (s || p || g) z e

kinds_apart : (k : ℕ) → IsApart k
kinds_apart k = by_kind IsApart k (λ e. absurd (cc)) (λ e. absurd (cc)) (λ e. absurd (cc)) (λ e. absurd (cc))
    (λ e. refl) (λ e. refl) (λ e. refl) (λ e. absurd (cc))
    (λ o e. absurd (no_connection (k == SETTINGS) (k == PING) (k == GOAWAY) o.settings o.ping o.goaway e))

on_stream : (a b : Bool) (v w : Verdict) → cond a v (cond b w Keeps) ≡ Keeps → a ≡ true → v ≡ Keeps
on_stream a b v w e h = sym (ap (λ (x : Bool). cond x v (cond b w Keeps)) h) ∙ e

on_connection : (a b : Bool) (v w : Verdict) → cond a v (cond b w Keeps) ≡ Keeps → a ≡ false → b ≡ true → w ≡ Keeps
on_connection a b v w e h k = sym (ap (λ (x : Bool). cond x v (cond b w Keeps)) h
    ∙ ap (λ (x : Bool). cond x w Keeps) k) ∙ e

-- a frame of a stream that is kept is not on stream 0
pub stream_kept : (q : List ℕ) → 9 ≤ length q → is_on_its_stream q ≡ Keeps → is_of_stream (kind_of q) ≡ true
    → stream_with 0 q ≢ 0
stream_kept q nine e h =
    let four : 4 ≤ length q = omega arith in
    let v = on_stream (is_of_stream (kind_of q)) (is_of_connection (kind_of q)) _ _ (sym (kind_known q _ four)
    ∙ e) h in
    let p : 0 < stream_with 0 q = ltb-true 0 (stream_with 0 q) (all_true _ _ v) in
    λ z. absurd (omega (arith, z))

-- a frame of the connection that is kept is on stream 0
pub connection_kept : (q : List ℕ) → 9 ≤ length q → is_on_its_stream q ≡ Keeps → is_of_connection (kind_of q) ≡ true
    → stream_with 0 q ≡ 0
connection_kept q nine e h =
    let four : 4 ≤ length q = omega arith in
    let v = on_connection (is_of_stream (kind_of q)) (is_of_connection (kind_of q)) _ _ (sym (kind_known q _ four)
    ∙ e) (kinds_apart (kind_of q) h) h in
    sym (stream_known q nine) ∙ eqb-true (stream_with 255 q) 0 (all_true _ _ v)

streams_keep : (a b : Bool) (v w : Verdict) → (a ≡ true → v ≡ Keeps) → (b ≡ true → w ≡ Keeps)
    → cond a v (cond b w Keeps) ≡ Keeps
streams_keep true b v w h k = h refl
streams_keep false true v w h k = k refl
streams_keep false false v w h k = refl

above_zero : (n : ℕ) → (n == 0) ≡ false → 0 < n
above_zero n h = grind (arith, nat_tests)

-- a frame on its stream is kept
pub stream_keeps : (q : List ℕ) → 9 ≤ length q → (is_of_stream (kind_of q) ≡ true → stream_with 0 q ≢ 0)
    → (is_of_connection (kind_of q) ≡ true → stream_with 0 q ≡ 0) → is_on_its_stream q ≡ Keeps
stream_keeps q nine h k =
    let four : 4 ≤ length q = omega arith in
    kind_known q _ four ∙ streams_keep (is_of_stream (kind_of q)) (is_of_connection (kind_of q)) _ _
    (λ t. all_keeps (nat_lt 0 (stream_with 0 q)) _ (some_stream (stream_with 0 q) (h t)))
    (λ t. all_keeps (stream_with 255 q == 0) _ (eq-eqb (stream_with 255 q) 0 (stream_known q nine ∙ k t)))
  where
    some_stream : (s : ℕ) → s ≢ 0 → nat_lt 0 s ≡ true
    some_stream s h = by_bool (s == 0) (λ z. absurd (h (eqb-true s 0 z))) (λ z. lt-ltb 0 s (above_zero s z))

-- server push

-- PUSH_PROMISE is not kept
pub push_kept : (q : List ℕ) → 9 ≤ length q → is_no_push q ≡ Keeps → kind_of q ≢ PUSH_PROMISE
push_kept q nine e =
    let four : 4 ≤ length q = omega arith in
    λ c. both_ways (kind_of q == PUSH_PROMISE) (breaks_false (kind_of q == PUSH_PROMISE) (sym (kind_known q _ four)
    ∙ e)) (eq-eqb (kind_of q) PUSH_PROMISE c)

-- other types are kept
pub push_keeps : (q : List ℕ) → 9 ≤ length q → kind_of q ≢ PUSH_PROMISE → is_no_push q ≡ Keeps
push_keeps q nine h =
    let four : 4 ≤ length q = omega arith in
    kind_known q _ four ∙ ap breaks_if (ne_eqb (kind_of q) PUSH_PROMISE h)
