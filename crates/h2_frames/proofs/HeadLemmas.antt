-- The rules of a head, and of a whole frame, all together.
use Rattle.std.proofs.Common.{◌≡◌, ◌≢◌, ◌≤◌, ◌==◌, ◌||◌, ℕ, Bool, true, false, List, length, arith, refl, sym, ap, ◌∙◌}
use Rattle.std.proofs.lemmas.Bool.{eqb-true}
use Rattle.h2_frames.specs.Http2Codes.{MAX_FRAME_SIZE, DATA, HEADERS, PRIORITY, RST_STREAM, SETTINGS, PUSH_PROMISE, PING, GOAWAY}
use Rattle.h2_frames.specs.FrameHead.{length_with, stream_with, kind_of, flags_of}
use Rattle.h2_frames.specs.FrameErrors.{Context, Verdict, Undecided, Keeps, Breaks, begins_with_settings, is_within_limit, continues_block, is_of_stream, is_of_connection, is_on_its_stream, is_no_push, has_size_of_kind, has_padding_within, Judgement, Fine, first_broken, judge}
use Rattle.h2_frames.specs.FrameReader.{IsNoFault}
use Rattle.h2_frames.specs.FrameRules.{HasStreamOfKind, KeepsHeadRules}
use Rattle.h2_frames.proofs.DecidedLemmas.{IsDecided, known, all_or_none, begins_decided, follows_decided, stands_decided, fits_decided, small_or, size_known, refusal_decided}
use Rattle.h2_frames.proofs.RuleLemmas.{size_is, size_kept, size_keeps, first_kept, first_keeps, limit_kept, limit_keeps, block_kept, no_block_kept, block_keeps, stream_kept, connection_kept, stream_keeps, push_kept, push_keeps}

-- streams by type

-- a frame that is kept has a stream of its type
of_kind_kept : (q : List ℕ) → 9 ≤ length q → is_on_its_stream q ≡ Keeps
    → HasStreamOfKind (stream_with 0 q) (kind_of q)
of_kind_kept q n e = record {
  data_frame = λ k. stream_kept q n e (ap is_of_stream k);
  headers = λ k. stream_kept q n e (ap is_of_stream k);
  priority = λ k. stream_kept q n e (ap is_of_stream k);
  rst_stream = λ k. stream_kept q n e (ap is_of_stream k);
  push_promise = λ k. stream_kept q n e (ap is_of_stream k);
  settings = λ k. connection_kept q n e (ap is_of_connection k);
  ping = λ k. connection_kept q n e (ap is_of_connection k);
  goaway = λ k. connection_kept q n e (ap is_of_connection k);
}

one_of_five : (P : Type 0) (a b c d e : Bool) → (a ≡ true → P) → (b ≡ true → P) → (c ≡ true → P) → (d ≡ true → P)
    → (e ≡ true → P) → (a || b || c || d || e) ≡ true → P
one_of_five P true b c d e f g h i j t = f refl
one_of_five P false true c d e f g h i j t = g refl
one_of_five P false false true d e f g h i j t = h refl
one_of_five P false false false true e f g h i j t = i refl
one_of_five P false false false false true f g h i j t = j refl
one_of_five P false false false false false f g h i j t = absurd (cc)

one_of_three : (P : Type 0) (a b c : Bool) → (a ≡ true → P) → (b ≡ true → P) → (c ≡ true → P)
    → (a || b || c) ≡ true → P
one_of_three P true b c f g h t = f refl
one_of_three P false true c f g h t = g refl
one_of_three P false false true f g h t = h refl
one_of_three P false false false f g h t = absurd (cc)

not_zero : (s k : ℕ) → HasStreamOfKind s k → is_of_stream k ≡ true → s ≢ 0
not_zero s k r t = one_of_five (s ≢ 0) (k == DATA) (k == HEADERS) (k == PRIORITY) (k == RST_STREAM)
    (k == PUSH_PROMISE) (λ e. r.data_frame (eqb-true k DATA e)) (λ e. r.headers (eqb-true k HEADERS e))
    (λ e. r.priority (eqb-true k PRIORITY e)) (λ e. r.rst_stream (eqb-true k RST_STREAM e))
    (λ e. r.push_promise (eqb-true k PUSH_PROMISE e)) t

is_zero : (s k : ℕ) → HasStreamOfKind s k → is_of_connection k ≡ true → s ≡ 0
is_zero s k r t = one_of_three (s ≡ 0) (k == SETTINGS) (k == PING) (k == GOAWAY)
    (λ e. r.settings (eqb-true k SETTINGS e)) (λ e. r.ping (eqb-true k PING e))
    (λ e. r.goaway (eqb-true k GOAWAY e)) t

-- a frame with a stream of its type is kept
of_kind_keeps : (q : List ℕ) → 9 ≤ length q → HasStreamOfKind (stream_with 0 q) (kind_of q)
    → is_on_its_stream q ≡ Keeps
of_kind_keeps q n r = stream_keeps q n (not_zero (stream_with 0 q) (kind_of q) r)
    (is_zero (stream_with 0 q) (kind_of q) r)

-- all rules

-- a rule that is decided and not broken is kept
pub fine_step : (v : Verdict) (code : ℕ) (rest : Judgement) → IsDecided v → IsNoFault (first_broken v code rest)
    → (v ≡ Keeps) × IsNoFault rest
fine_step Undecided code rest d h = absurd d
fine_step Keeps code rest d h = (refl, h)
fine_step Breaks code rest d h = absurd h

-- all rules but the last are kept
pub record KeepsSix (at : Context) (q : List ℕ) : Type 0 where
  pub begins : begins_with_settings at q ≡ Keeps
  pub limit : is_within_limit q ≡ Keeps
  pub block : continues_block at.block q ≡ Keeps
  pub stream : is_on_its_stream q ≡ Keeps
  pub push : is_no_push q ≡ Keeps
  pub size : has_size_of_kind q ≡ Keeps

-- what is left is the rule on padding
pub record Six (at : Context) (q : List ℕ) : Type 0 where
  pub six : KeepsSix at q
  pub last : IsNoFault (first_broken (has_padding_within q) 1 Fine)

-- where no fault is found, six rules are kept
pub six_kept : (at : Context) (q : List ℕ) → 9 ≤ length q → IsNoFault (judge at q) → Six at q
six_kept at q n h =
    let p : 4 ≤ length q = omega arith in
    let f : 5 ≤ length q = omega arith in
    let t : 3 ≤ length q = omega arith in
    let a = fine_step (begins_with_settings at q) 1 _ (begins_decided at.first at.block q p f) h in
    let b = fine_step (is_within_limit q) 6 _ (all_or_none _ _ (small_or _ _ MAX_FRAME_SIZE (size_known q t))) a.1 in
    let c = fine_step (continues_block at.block q) 1 _ (follows_decided at.block q p n) b.1 in
    let d = fine_step (is_on_its_stream q) 1 _ (stands_decided q p n) c.1 in
    let e = fine_step (is_no_push q) 1 _ (known 4 q _ p (refusal_decided _)) d.1 in
    let g = fine_step (has_size_of_kind q) 6 _ (known 4 q _ p (fits_decided (kind_of q) (length_with 0 q) q f)) e.1 in
    record {
      six = record { begins = a.0; limit = b.0; block = c.0; stream = d.0; push = e.0; size = g.0 };
      last = g.1;
    }

-- what six rules leave is the last
pub six_leave : (at : Context) (q : List ℕ) → KeepsSix at q → judge at q ≡ first_broken (has_padding_within q) 1 Fine
six_leave at q s = rw (s.begins, s.limit, s.block, s.stream, s.push, s.size) refl

-- the numbers of a head
abbrev pub RulesOf : Context → List ℕ → Type 0
RulesOf at q = KeepsHeadRules at (length_with 0 q) (kind_of q) (flags_of q) (stream_with 0 q)

-- six rules that are kept are those of a head
pub six_rules : (at : Context) (q : List ℕ) → 9 ≤ length q → KeepsSix at q → RulesOf at q
six_rules at q n s =
    let f : 5 ≤ length q = omega arith in
    record {
      first = first_kept at q n s.begins;
      limit = limit_kept q n s.limit;
      block = block_kept at.block q n s.block;
      no_block = no_block_kept at.block q n s.block;
      of_kind = of_kind_kept q n s.stream;
      no_push = push_kept q n s.push;
      payload = size_kept (kind_of q) (length_with 0 q) (flags_of q) (sym (size_is q f) ∙ s.size);
    }

-- a head in which no fault is found keeps its rules
pub head_rules : (at : Context) (q : List ℕ) → 9 ≤ length q → IsNoFault (judge at q) → RulesOf at q
head_rules at q n h = six_rules at q n (six_kept at q n h).six

-- the rules of a head keep six rules
pub rules_six : (at : Context) (q : List ℕ) → 9 ≤ length q → RulesOf at q → KeepsSix at q
rules_six at q n r =
    let f : 5 ≤ length q = omega arith in
    record {
      begins = first_keeps at q n r.first;
      limit = limit_keeps q n r.limit;
      block = block_keeps at.block q n r.block r.no_block;
      stream = of_kind_keeps q n r.of_kind;
      push = push_keeps q n r.no_push;
      size = size_is q f ∙ size_keeps (kind_of q) (length_with 0 q) (flags_of q) r.payload;
    }
