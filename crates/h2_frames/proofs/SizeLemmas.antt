-- What is not decided may still go either way: sizes and padding.
use Rattle.std.proofs.Common.{◌≡◌, ◌<◌, ◌≤◌, ◌+◌, ◌-◌, ◌%◌, ◌==◌, ◌&&◌, ◌||◌, ℕ, Bool, true, false, List, [], ◌∷◌, length, cond, nat_le, arith, refl, sym, ap, ap₂, ◌∙◌, get_or, lit<, lit≤}
use Rattle.std.proofs.lemmas.Bool.{le-ltb, lt-ltb}
use Rattle.std.proofs.lemmas.Bool.Decides.{nat_tests}
use Rattle.base.specs.Bytes.{AreBytes}
use Rattle.base.proofs.AreBytesLemmas.{AreBytes_more, AreBytes_none}
use Rattle.h2_frames.specs.Http2Codes.{DATA, HEADERS, PRIORITY, RST_STREAM, SETTINGS, PING, GOAWAY, WINDOW_UPDATE, ACK, PADDED}
use Rattle.h2_frames.specs.FrameHead.{length_with, kind_of, flags_of, has_flag}
use Rattle.h2_frames.specs.FrameErrors.{Verdict, Undecided, Keeps, Breaks, keeps_if, breaks_if, with_kind, with_flags, fields_size, fits_kind, has_size_of_kind, pads_within, pads_kind, has_padding_within}
use Rattle.h2_frames.specs.FrameVerdicts.{MayGoEitherWay, IsDecidedAtOnce}
use Rattle.h2_frames.proofs.GrowthLemmas.{either}
use Rattle.h2_frames.proofs.SteadyLemmas.{kind_size_steady, fits_steady, padding_steady}
use Rattle.h2_frames.proofs.DecidedLemmas.{known, either_way, fits_decided, pads_decided}
use Rattle.h2_frames.proofs.FilledLemmas.{filled, fill_at, fill_old, fill_new, fill_length, both, decided_not, kind_known, flags_known, at_once, head_list, head_is_bytes, ten, kind_new, kind_old, flags_new, length_filled, by_bool, keeps_decided}

-- sizes by type

zero_fits : (n : ℕ) → nat_le 0 n ≡ true
zero_fits n = grind (arith, nat_tests)

not_four : (n : ℕ) → (n == 5) ≡ true → (n == 4) ≡ false
not_four n h = grind (arith, nat_tests)

-- a size of a type, with what the flags say of fields and of settings
abbrev pub fits_by : ℕ → ℕ → Verdict → Verdict → Verdict
fits_by k n v w = cond (k == DATA || k == HEADERS) (cond (nat_le (fields_size k 255) n) Keeps v)
    (cond (k == PRIORITY) (keeps_if (n == 5)) (cond (k == RST_STREAM || k == WINDOW_UPDATE) (keeps_if (n == 4))
    (cond (k == SETTINGS) (cond (n == 0) Keeps (cond (n % 6 == 0) w Breaks)) (cond (k == PING) (keeps_if (n == 8)) (cond (k == GOAWAY) (keeps_if (nat_le 8 n)) Keeps)))))

size_at : (q : List ℕ) (k n : ℕ) → 4 ≤ length q → kind_of q ≡ k → length_with 0 q ≡ n → has_size_of_kind q ≡ fits_by k n (with_flags q (keeps_if (nat_le (fields_size k (flags_of q)) n))) (with_flags q (breaks_if (has_flag ACK (flags_of q))))
size_at q k n h x z =
    let at : ℕ → ℕ → Verdict = λ a b. fits_by a b (with_flags q (keeps_if (nat_le (fields_size a (flags_of q)) b))) (with_flags q (breaks_if (has_flag ACK (flags_of q)))) in
    kind_known q (at (kind_of q) (length_with 0 q)) h ∙ ap₂ at x z

-- the size of a type with a whole head
pub size_by : (q : List ℕ) (k n f : ℕ) → 5 ≤ length q → kind_of q ≡ k → length_with 0 q ≡ n → flags_of q ≡ f → has_size_of_kind q ≡ fits_by k n (keeps_if (nat_le (fields_size k f) n)) (breaks_if (has_flag ACK f))
size_by q k n f h x z y =
    let four : 4 ≤ length q = omega arith in
    let at : ℕ → Verdict = λ a. fits_by k n (keeps_if (nat_le (fields_size k a) n)) (breaks_if (has_flag ACK a)) in
    size_at q k n four x z ∙ ap₂ (fits_by k n) (flags_known q (keeps_if (nat_le (fields_size k (flags_of q)) n)) h) (flags_known q (breaks_if (has_flag ACK (flags_of q))) h) ∙ ap at y

keeps_if_decided : (b : Bool) → keeps_if b ≡ Undecided → ⊥
keeps_if_decided true e = cc
keeps_if_decided false e = cc

fits_either : (fields few priority fixed settings none even ping goaway p5 p4 p8 pg : Bool) (v w x : Verdict)
    → cond fields (cond few Keeps Undecided) (cond priority (keeps_if p5) (cond fixed (keeps_if p4) (cond settings (cond none Keeps (cond even Undecided Breaks)) (cond ping (keeps_if p8) (cond goaway (keeps_if pg) Keeps))))) ≡ Undecided
    → (few ≡ false → v ≡ x) → w ≡ x
    → cond fields (cond few Keeps v) (cond priority (keeps_if p5) (cond fixed (keeps_if p4) (cond settings (cond none Keeps (cond even w Breaks)) (cond ping (keeps_if p8) (cond goaway (keeps_if pg) Keeps))))) ≡ x
fits_either true true priority fixed settings none even ping goaway p5 p4 p8 pg v w x e p q = absurd (cc)
fits_either true false priority fixed settings none even ping goaway p5 p4 p8 pg v w x e p q = p refl
fits_either false few true fixed settings none even ping goaway p5 p4 p8 pg v w x e p q = absurd (keeps_if_decided p5 e)
fits_either false few false true settings none even ping goaway p5 p4 p8 pg v w x e p q = absurd (keeps_if_decided p4 e)
fits_either false few false false true true even ping goaway p5 p4 p8 pg v w x e p q = absurd (cc)
fits_either false few false false true false true ping goaway p5 p4 p8 pg v w x e p q = q
fits_either false few false false true false false ping goaway p5 p4 p8 pg v w x e p q = absurd (cc)
fits_either false few false false false none even true goaway p5 p4 p8 pg v w x e p q = absurd (keeps_if_decided p8 e)
fits_either false few false false false none even false true p5 p4 p8 pg v w x e p q = absurd (keeps_if_decided pg e)
fits_either false few false false false none even false false p5 p4 p8 pg v w x e p q = absurd (cc)

fits_goes : (k n : ℕ) (v w x : Verdict) → fits_by k n Undecided Undecided ≡ Undecided → (nat_le (fields_size k 255) n ≡ false → v ≡ x) → w ≡ x → fits_by k n v w ≡ x
fits_goes k n v w x e p q = fits_either (k == DATA || k == HEADERS) (nat_le (fields_size k 255) n) (k == PRIORITY) (k == RST_STREAM || k == WINDOW_UPDATE) (k == SETTINGS) (n == 0) (n % 6 == 0) (k == PING) (k == GOAWAY) (n == 5) (n == 4) (n == 8) (nat_le 8 n) v w x e p q

flags_few : (p : List ℕ) (v : Verdict) → length p < 5 → with_flags p v ≡ Undecided
flags_few p v h = ap (λ (b : Bool). cond b Undecided v) (lt-ltb (length p) 5 h)

and_no : (b : Bool) → (b && false) ≡ false
and_no true = refl
and_no false = refl

no_fields : (k : ℕ) → fields_size k 0 ≡ 0
no_fields k = ap (λ b. 0 + cond b 5 0) (and_no (k == HEADERS))

no_fields_fit : (k n : ℕ) → nat_le (fields_size k 0) n ≡ true
no_fields_fit k n = ap (λ m. nat_le m n) (no_fields k) ∙ zero_fits n

size_few : (p : List ℕ) → length p < 4 → MayGoEitherWay has_size_of_kind p
size_few p few =
    let five : length p < 5 = omega arith in
    let z : (kind : ℕ) → length_with 0 (filled p (head_list kind 0 0)) ≡ length_with 0 p = λ kind. length_filled p kind 0 0 0 in
    let good = size_by (filled p (head_list 10 0 0)) 10 (length_with 0 p) 0 (ten p 10 0 0 5 (lit≤ tt)) (kind_new p 10 0 0 few) (length_filled p 10 0 0 0) (flags_new p 10 0 0 five) in
    by_bool (length_with 0 p == 5)
    (λ is. both has_size_of_kind p (head_list 10 0 0) (head_list 3 0 0) (head_is_bytes 10 0 0 (lit< tt) (lit< tt) (lit< tt)) (head_is_bytes 3 0 0 (lit< tt) (lit< tt) (lit< tt)) good
    (size_by (filled p (head_list 3 0 0)) 3 (length_with 0 p) 0 (ten p 3 0 0 5 (lit≤ tt)) (kind_new p 3 0 0 few) (length_filled p 3 0 0 0) (flags_new p 3 0 0 five) ∙ ap keeps_if (not_four (length_with 0 p) is)))
    (λ other. both has_size_of_kind p (head_list 10 0 0) (head_list 2 0 0) (head_is_bytes 10 0 0 (lit< tt) (lit< tt) (lit< tt)) (head_is_bytes 2 0 0 (lit< tt) (lit< tt) (lit< tt)) good
    (size_by (filled p (head_list 2 0 0)) 2 (length_with 0 p) 0 (ten p 2 0 0 5 (lit≤ tt)) (kind_new p 2 0 0 few) (length_filled p 2 0 0 0) (flags_new p 2 0 0 five) ∙ ap keeps_if other))

size_undecided : (p : List ℕ) → has_size_of_kind p ≡ Undecided → MayGoEitherWay has_size_of_kind p
size_undecided p e = either (length p) 4 (size_few p)
    (λ four. either (length p) 5
    (λ five.
    let k : ℕ = kind_of p in
    let n : ℕ = length_with 0 p in
    let now : fits_by (kind_of p) (length_with 0 p) Undecided Undecided ≡ Undecided = sym (ap₂ (fits_by (kind_of p) (length_with 0 p)) (flags_few p (keeps_if (nat_le (fields_size (kind_of p) (flags_of p)) (length_with 0 p))) five) (flags_few p (breaks_if (has_flag ACK (flags_of p))) five)) ∙ sym (size_at p (kind_of p) (length_with 0 p) four refl refl) ∙ e in
    both has_size_of_kind p (head_list 0 0 0) (head_list 0 255 0) (head_is_bytes 0 0 0 (lit< tt) (lit< tt) (lit< tt)) (head_is_bytes 0 255 0 (lit< tt) (lit< tt) (lit< tt))
    (size_by (filled p (head_list 0 0 0)) (kind_of p) (length_with 0 p) 0 (ten p 0 0 0 5 (lit≤ tt)) (kind_old p 0 0 0 four) (length_filled p 0 0 0 0) (flags_new p 0 0 0 five)
    ∙ fits_goes (kind_of p) (length_with 0 p) _ _ Keeps now (λ _. ap keeps_if (no_fields_fit (kind_of p) (length_with 0 p))) refl)
    (size_by (filled p (head_list 0 255 0)) (kind_of p) (length_with 0 p) 255 (ten p 0 255 0 5 (lit≤ tt)) (kind_old p 0 255 0 four) (length_filled p 0 255 0 0) (flags_new p 0 255 0 five)
    ∙ fits_goes (kind_of p) (length_with 0 p) _ _ Breaks now (λ large. ap keeps_if large) refl))
    (λ five. decided_not has_size_of_kind p _ (known 4 p _ four (fits_decided (kind_of p) (length_with 0 p) p five)) e))

-- the rule on sizes is decided at once
pub size_at_once : IsDecidedAtOnce has_size_of_kind
size_at_once = at_once has_size_of_kind (λ bs more _. kind_size_steady fits_kind fits_steady bs more) (λ bs _ e. size_undecided bs e)

-- padding

abbrev pad_list : ℕ → ℕ → ℕ → List ℕ
pad_list kind flags pad = 0 ∷ 0 ∷ 0 ∷ kind ∷ flags ∷ 0 ∷ 0 ∷ 0 ∷ 0 ∷ pad ∷ []

pad_bytes : (kind flags pad : ℕ) → kind < 256 → flags < 256 → pad < 256 → AreBytes (pad_list kind flags pad)
pad_bytes kind flags pad x y z = AreBytes_more 0 (0 ∷ 0 ∷ kind ∷ flags ∷ 0 ∷ 0 ∷ 0 ∷ 0 ∷ pad ∷ []) (lit< tt) (AreBytes_more 0 (0 ∷ kind ∷ flags ∷ 0 ∷ 0 ∷ 0 ∷ 0 ∷ pad ∷ []) (lit< tt) (AreBytes_more 0 (kind ∷ flags ∷ 0 ∷ 0 ∷ 0 ∷ 0 ∷ pad ∷ []) (lit< tt)
    (AreBytes_more kind (flags ∷ 0 ∷ 0 ∷ 0 ∷ 0 ∷ pad ∷ []) x (AreBytes_more flags (0 ∷ 0 ∷ 0 ∷ 0 ∷ pad ∷ []) y (AreBytes_more 0 (0 ∷ 0 ∷ 0 ∷ pad ∷ []) (lit< tt) (AreBytes_more 0 (0 ∷ 0 ∷ pad ∷ []) (lit< tt) (AreBytes_more 0 (0 ∷ pad ∷ []) (lit< tt) (AreBytes_more 0 (pad ∷ []) (lit< tt) (AreBytes_more pad [] z AreBytes_none)))))))))

-- a frame's padding, by type, size, flags and pad length
abbrev pub pads_by : ℕ → ℕ → ℕ → ℕ → Verdict
pads_by k n f a = cond (nat_le 261 n) Keeps (cond (k == DATA || k == HEADERS) (cond (nat_le (fields_size k 255 + 255) n) Keeps (cond (has_flag PADDED f) (cond (nat_le 255 (n - fields_size k f)) Keeps (keeps_if (nat_le a (n - fields_size k f)))) Keeps)) Keeps)

-- ten bytes show all of the padding
pub pads_at : (q : List ℕ) → 10 ≤ length q → has_padding_within q ≡ pads_by (kind_of q) (length_with 0 q) (flags_of q) (get_or q 9 0)
pads_at q h =
    let four : 4 ≤ length q = omega arith in
    let five : 5 ≤ length q = omega arith in
    let k : ℕ = kind_of q in
    let n : ℕ = length_with 0 q in
    let f : ℕ = flags_of q in
    let room : ℕ = length_with 0 q - fields_size (kind_of q) (flags_of q) in
    let inner : Verdict → Verdict = λ v. cond (nat_le 261 (length_with 0 q)) Keeps (cond (kind_of q == DATA || kind_of q == HEADERS) (cond (nat_le (fields_size (kind_of q) 255 + 255) (length_with 0 q)) Keeps v) Keeps) in
    let last : Verdict → Verdict = λ v. cond (has_flag PADDED (flags_of q)) (cond (nat_le 255 (length_with 0 q - fields_size (kind_of q) (flags_of q))) Keeps v) Keeps in
    ap (λ v. cond (nat_le 261 (length_with 0 q)) Keeps v) (kind_known q (pads_kind (kind_of q) (length_with 0 q) q) four)
    ∙ ap inner (flags_known q (cond (has_flag PADDED (flags_of q)) (pads_within (length_with 0 q - fields_size (kind_of q) (flags_of q)) q) Keeps) five)
    ∙ ap (λ v. inner (last v)) (ap (λ (b : Bool). cond b Undecided (keeps_if (nat_le (get_or q 9 0) (length_with 0 q - fields_size (kind_of q) (flags_of q))))) (le-ltb (length q) 10 h))

pads_by_test : (q : List ℕ) (k n f a : ℕ) → 10 ≤ length q → kind_of q ≡ k → length_with 0 q ≡ n → flags_of q ≡ f → get_or q 9 0 ≡ a → has_padding_within q ≡ pads_by k n f a
pads_by_test q k n f a h x z y w = pads_at q h ∙ ap₂ (λ i j. pads_by i j (flags_of q) (get_or q 9 0)) x z ∙ ap₂ (λ i j. pads_by k n i j) y w

pad_ten : (p : List ℕ) (kind flags pad : ℕ) → 10 ≤ length (filled p (pad_list kind flags pad))
pad_ten p kind flags pad = fill_length p (pad_list kind flags pad)

pad_length : (p : List ℕ) (kind flags pad : ℕ) → length_with 0 (filled p (pad_list kind flags pad)) ≡ length_with 0 p
pad_length p kind flags pad = rw (fill_at p (pad_list kind flags pad) 0 0 0 refl, fill_at p (pad_list kind flags pad) 1 0 0 refl, fill_at p (pad_list kind flags pad) 2 0 0 refl) refl

small_size : (n : ℕ) → nat_le 261 n ≡ false → nat_le 255 (n - 6) ≡ false
small_size n h = grind (arith, nat_tests)

no_room_left : (n m : ℕ) → nat_le (m + 255) n ≡ false → nat_le 255 (n - m) ≡ false
no_room_left n m h = grind (arith, nat_tests)

padding_few : (p : List ℕ) → length p < 4 → nat_le 261 (length_with 0 p) ≡ false → MayGoEitherWay has_padding_within p
padding_few p few small =
    let a : length p ≤ 3 = omega arith in
    let b : length p ≤ 4 = omega arith in
    let c : length p ≤ 9 = omega arith in
    let n : ℕ = length_with 0 p in
    both has_padding_within p (pad_list 10 0 0) (pad_list 1 40 255) (pad_bytes 10 0 0 (lit< tt) (lit< tt) (lit< tt)) (pad_bytes 1 40 255 (lit< tt) (lit< tt) (lit< tt))
    (pads_by_test (filled p (pad_list 10 0 0)) 10 (length_with 0 p) 0 0 (pad_ten p 10 0 0) (fill_new p (pad_list 10 0 0) 3 10 a refl) (pad_length p 10 0 0) (fill_new p (pad_list 10 0 0) 4 0 b refl) (fill_new p (pad_list 10 0 0) 9 0 c refl) ∙ ap (λ (b : Bool). cond b Keeps Keeps) small)
    (pads_by_test (filled p (pad_list 1 40 255)) 1 (length_with 0 p) 40 255 (pad_ten p 1 40 255) (fill_new p (pad_list 1 40 255) 3 1 a refl) (pad_length p 1 40 255) (fill_new p (pad_list 1 40 255) 4 40 b refl) (fill_new p (pad_list 1 40 255) 9 255 c refl)
    ∙ ap (λ (b : Bool). cond b Keeps (cond b Keeps (cond (nat_le 255 (length_with 0 p - 6)) Keeps (keeps_if (nat_le 255 (length_with 0 p - 6)))))) small ∙ ap (λ (b : Bool). cond b Keeps (keeps_if b)) (small_size (length_with 0 p) small))

-- what is undecided with the type, and with the flags
padded_open : (large both_kinds any : Bool) (v : Verdict) → cond large Keeps (cond both_kinds (cond any Keeps v) Keeps) ≡ Undecided → (large ≡ false) × (both_kinds ≡ true) × (any ≡ false) × (v ≡ Undecided)
padded_open true both_kinds any v e = absurd (cc)
padded_open false false any v e = absurd (cc)
padded_open false true true v e = absurd (cc)
padded_open false true false v e = (refl, refl, refl, e)

flag_open : (padded roomy : Bool) (v : Verdict) → cond padded (cond roomy Keeps v) Keeps ≡ Undecided → (padded ≡ true) × (roomy ≡ false)
flag_open false roomy v e = absurd (cc)
flag_open true true v e = absurd (cc)
flag_open true false v e = (refl, refl)

pads_shown : (large both_kinds any padded roomy : Bool) (v : Verdict) → large ≡ false → both_kinds ≡ true → any ≡ false → padded ≡ true → roomy ≡ false → cond large Keeps (cond both_kinds (cond any Keeps (cond padded (cond roomy Keeps v) Keeps)) Keeps) ≡ v
pads_shown large both_kinds any padded roomy v a b c d f =
    ap (λ (x : Bool). cond x Keeps (cond both_kinds (cond any Keeps (cond padded (cond roomy Keeps v) Keeps)) Keeps)) a ∙ ap (λ (x : Bool). cond x (cond any Keeps (cond padded (cond roomy Keeps v) Keeps)) Keeps) b
    ∙ ap (λ (x : Bool). cond x Keeps (cond padded (cond roomy Keeps v) Keeps)) c ∙ ap (λ (x : Bool). cond x (cond roomy Keeps v) Keeps) d ∙ ap (λ (x : Bool). cond x Keeps v) f

all_keep : (large both_kinds any : Bool) → cond large Keeps (cond both_kinds (cond any Keeps Keeps) Keeps) ≡ Keeps
all_keep true b c = refl
all_keep false false c = refl
all_keep false true true = refl
all_keep false true false = refl

padding_many : (p : List ℕ) → 4 ≤ length p → length p < 10 → has_padding_within p ≡ Undecided → MayGoEitherWay has_padding_within p
padding_many p four few e =
    let k : ℕ = kind_of p in
    let n : ℕ = length_with 0 p in
    let l3 : 3 < length p = omega arith in
    let l9 : length p ≤ 9 = omega arith in
    let shape : Verdict = with_flags p (cond (has_flag PADDED (flags_of p)) (pads_within (length_with 0 p - fields_size (kind_of p) (flags_of p)) p) Keeps) in
    let now = sym (ap (λ v. cond (nat_le 261 (length_with 0 p)) Keeps v) (kind_known p (pads_kind (kind_of p) (length_with 0 p) p) four)) ∙ e in
    let o = padded_open (nat_le 261 (length_with 0 p)) (kind_of p == DATA || kind_of p == HEADERS) (nat_le (fields_size (kind_of p) 255 + 255) (length_with 0 p)) (with_flags p (cond (has_flag PADDED (flags_of p)) (pads_within (length_with 0 p - fields_size (kind_of p) (flags_of p)) p) Keeps)) now in
    either (length p) 5
    (λ five. let l4 : length p ≤ 4 = omega arith in
    both has_padding_within p (pad_list 0 0 0) (pad_list 0 255 255) (pad_bytes 0 0 0 (lit< tt) (lit< tt) (lit< tt)) (pad_bytes 0 255 255 (lit< tt) (lit< tt) (lit< tt))
    (pads_by_test (filled p (pad_list 0 0 0)) (kind_of p) (length_with 0 p) 0 0 (pad_ten p 0 0 0) (fill_old p (pad_list 0 0 0) 3 l3) (pad_length p 0 0 0) (fill_new p (pad_list 0 0 0) 4 0 l4 refl) (fill_new p (pad_list 0 0 0) 9 0 l9 refl)
    ∙ all_keep (nat_le 261 (length_with 0 p)) (kind_of p == DATA || kind_of p == HEADERS) (nat_le (fields_size (kind_of p) 255 + 255) (length_with 0 p)))
    (pads_by_test (filled p (pad_list 0 255 255)) (kind_of p) (length_with 0 p) 255 255 (pad_ten p 0 255 255) (fill_old p (pad_list 0 255 255) 3 l3) (pad_length p 0 255 255) (fill_new p (pad_list 0 255 255) 4 255 l4 refl) (fill_new p (pad_list 0 255 255) 9 255 l9 refl)
    ∙ pads_shown (nat_le 261 (length_with 0 p)) (kind_of p == DATA || kind_of p == HEADERS) (nat_le (fields_size (kind_of p) 255 + 255) (length_with 0 p)) true (nat_le 255 (length_with 0 p - fields_size (kind_of p) 255)) (keeps_if (nat_le 255 (length_with 0 p - fields_size (kind_of p) 255))) o.0 o.1 o.2 refl (no_room_left (length_with 0 p) (fields_size (kind_of p) 255) o.2)
    ∙ ap keeps_if (no_room_left (length_with 0 p) (fields_size (kind_of p) 255) o.2)))
    (λ five. let l4 : 4 < length p = omega arith in
    let f = flag_open (has_flag PADDED (flags_of p)) (nat_le 255 (length_with 0 p - fields_size (kind_of p) (flags_of p))) _ (sym (flags_known p (cond (has_flag PADDED (flags_of p)) (pads_within (length_with 0 p - fields_size (kind_of p) (flags_of p)) p) Keeps) five) ∙ o.3) in
    let shown = λ (a : ℕ). pads_shown (nat_le 261 (length_with 0 p)) (kind_of p == DATA || kind_of p == HEADERS) (nat_le (fields_size (kind_of p) 255 + 255) (length_with 0 p)) (has_flag PADDED (flags_of p)) (nat_le 255 (length_with 0 p - fields_size (kind_of p) (flags_of p))) (keeps_if (nat_le a (length_with 0 p - fields_size (kind_of p) (flags_of p)))) o.0 o.1 o.2 f.0 f.1 in
    both has_padding_within p (pad_list 0 0 0) (pad_list 0 0 255) (pad_bytes 0 0 0 (lit< tt) (lit< tt) (lit< tt)) (pad_bytes 0 0 255 (lit< tt) (lit< tt) (lit< tt))
    (pads_by_test (filled p (pad_list 0 0 0)) (kind_of p) (length_with 0 p) (flags_of p) 0 (pad_ten p 0 0 0) (fill_old p (pad_list 0 0 0) 3 l3) (pad_length p 0 0 0) (fill_old p (pad_list 0 0 0) 4 l4) (fill_new p (pad_list 0 0 0) 9 0 l9 refl)
    ∙ shown 0 ∙ ap keeps_if (zero_fits (length_with 0 p - fields_size (kind_of p) (flags_of p))))
    (pads_by_test (filled p (pad_list 0 0 255)) (kind_of p) (length_with 0 p) (flags_of p) 255 (pad_ten p 0 0 255) (fill_old p (pad_list 0 0 255) 3 l3) (pad_length p 0 0 255) (fill_old p (pad_list 0 0 255) 4 l4) (fill_new p (pad_list 0 0 255) 9 255 l9 refl)
    ∙ shown 255 ∙ ap keeps_if f.1))

padding_undecided : (p : List ℕ) → has_padding_within p ≡ Undecided → MayGoEitherWay has_padding_within p
padding_undecided p e = either (length p) 4
    (λ few. by_bool (nat_le 261 (length_with 0 p))
    (λ large. absurd (keeps_decided _ e (ap (λ (b : Bool). cond b Keeps (with_kind p (pads_kind (kind_of p) (length_with 0 p) p))) large)))
    (padding_few p few))
    (λ four. either (length p) 10
    (λ few. padding_many p four few e)
    (λ ten_of. let five : 5 ≤ length p = omega arith in decided_not has_padding_within p _ (either_way (nat_le 261 (length_with 0 p)) _ _ tt (known 4 p _ four (pads_decided (kind_of p) (length_with 0 p) p five ten_of))) e))

-- the rule on padding is decided at once
pub padding_at_once : IsDecidedAtOnce has_padding_within
padding_at_once = at_once has_padding_within (λ bs more _. padding_steady bs more) (λ bs _ e. padding_undecided bs e)
