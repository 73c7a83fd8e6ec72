-- The rule on padding of a whole frame, and of a head.
use Rattle.std.proofs.Common.{◌≡◌, ◌↔◌, ◌<◌, ◌≤◌, ◌+◌, ◌-◌, ◌==◌, ◌&&◌, ◌||◌, ℕ, Bool, true, false, List, length, take, drop, min, cond, nat_lt, nat_le, arith, refl, sym, ap, subst, ◌∙◌, get_or, length-take}
use Rattle.std.proofs.lemmas.Bool.{leb-true, leb-false, le-leb, lt-leb, ltb-true, lt-ltb}
use Rattle.std.proofs.lemmas.List.{get_or-take, get_or-drop}
use Rattle.base.specs.Bytes.{AreBytes}
use Rattle.base.proofs.AreBytesLemmas.{AreBytes-take}
use Rattle.h2_frames.specs.Http2Codes.{DATA, HEADERS, PADDED, PRIORITY_FLAG}
use Rattle.h2_frames.specs.FrameHead.{length_with, stream_with, kind_of, flags_of, has_flag, frame_size, frame_of}
use Rattle.h2_frames.specs.FrameErrors.{Context, Verdict, Undecided, Keeps, keeps_if, fields_size, pads_within, has_padding_within, pads_kind, Open, Fine, first_broken, judge}
use Rattle.h2_frames.specs.Http2Frame.{judged}
use Rattle.h2_frames.specs.FrameReader.{IsNoFault}
use Rattle.h2_frames.specs.FrameContent.{is_padded, bytes_before, padding_size, waits_for_padding}
use Rattle.h2_frames.specs.FrameRules.{KeepsHeadRules, KeepsRules}
use Rattle.h2_frames.proofs.FrontLemmas.{judged_many, size_take}
use Rattle.h2_frames.proofs.GrowthLemmas.{either}
use Rattle.h2_frames.proofs.DecidedLemmas.{IsDecided, known, either_way, pads_decided}
use Rattle.h2_frames.proofs.FilledLemmas.{kind_known, flags_known}
use Rattle.h2_frames.proofs.SizeLemmas.{pads_by, pads_at}
use Rattle.h2_frames.proofs.RuleLemmas.{keeps_true}
use Rattle.h2_frames.proofs.HeadLemmas.{RulesOf, fine_step, Six, six_kept, six_leave, six_rules, rules_six}

-- a padding that is kept fits

room_by : (n m big a : ℕ) (large any roomy : Bool) → nat_le 261 n ≡ large → nat_le (big + 255) n ≡ any
    → nat_le 255 (n - m) ≡ roomy
    → cond large Keeps (cond any Keeps (cond roomy Keeps (keeps_if (nat_le a (n - m))))) ≡ Keeps → m ≤ n → a ≤ 255
    → m ≤ 6 → m ≤ big → m + a ≤ n
room_by n m big a true any roomy x y z e h k i j = let w : 261 ≤ n = leb-true 261 n x in omega arith
room_by n m big a false true roomy x y z e h k i j = let w : big + 255 ≤ n = leb-true (big + 255) n y in omega arith
room_by n m big a false false true x y z e h k i j = let w : 255 ≤ n - m = leb-true 255 (n - m) z in omega arith
room_by n m big a false false false x y z e h k i j = let w : a ≤ n - m = leb-true a (n - m)
    (keeps_true (nat_le a (n - m)) e) in omega arith

padding_fits : (both p : Bool) (x n big a : ℕ)
    → cond (nat_le 261 n) Keeps (cond both
    (cond (nat_le (big + 255) n) Keeps
    (cond p (cond (nat_le 255 (n - (cond p 1 0 + x))) Keeps (keeps_if (nat_le a (n - (cond p 1 0 + x))))) Keeps))
    Keeps) ≡ Keeps
    → cond (both && p) 1 0 + x ≤ n → a ≤ 255 → x ≤ 5 → 1 + x ≤ big
    → (cond (both && p) 1 0 + x) + cond (both && p) a 0 ≤ n
padding_fits false p x n big a e h k i j = omega (arith, h)
padding_fits true false x n big a e h k i j = omega (arith, h)
padding_fits true true x n big a e h k i j =
    let six : 1 + x ≤ 6 = omega arith in
    room_by n (1 + x) big a (nat_le 261 n) (nat_le (big + 255) n) (nat_le 255 (n - (1 + x))) refl refl refl e h k six
    j

priority_most : (h r : Bool) → cond (h && r) 5 0 ≤ 5
priority_most true true = omega arith
priority_most true false = omega arith
priority_most false r = omega arith

fields_big : (h r : Bool) → 1 + cond (h && r) 5 0 ≤ 1 + cond (h && true) 5 0
fields_big true true = omega arith
fields_big true false = omega arith
fields_big false r = omega arith

pads_fit : (k n f a : ℕ) → pads_by k n f a ≡ Keeps → bytes_before k f ≤ n → a ≤ 255
    → bytes_before k f + padding_size k f a ≤ n
pads_fit k n f a e h l = padding_fits (k == DATA || k == HEADERS) (has_flag PADDED f)
    (cond (k == HEADERS && has_flag PRIORITY_FLAG f) 5 0) n (fields_size k 255) a e h l
    (priority_most (k == HEADERS) (has_flag PRIORITY_FLAG f)) (fields_big (k == HEADERS) (has_flag PRIORITY_FLAG f))

-- a padding that fits is kept

padding_keeps : (large both any p roomy : Bool) (x n a : ℕ) → (cond (both && p) 1 0 + x) + cond (both && p) a 0 ≤ n
    → cond large Keeps (cond both (cond any Keeps
    (cond p (cond roomy Keeps (keeps_if (nat_le a (n - (cond p 1 0 + x))))) Keeps)) Keeps) ≡ Keeps
padding_keeps true both any p roomy x n a h = refl
padding_keeps false false any p roomy x n a h = refl
padding_keeps false true true p roomy x n a h = refl
padding_keeps false true false false roomy x n a h = refl
padding_keeps false true false true true x n a h = refl
padding_keeps false true false true false x n a h = let l : a ≤ n - (1 + x) = omega (arith, h) in ap keeps_if
    (le-leb a (n - (1 + x)) l)

pads_keep : (k n f a : ℕ) → bytes_before k f + padding_size k f a ≤ n → pads_by k n f a ≡ Keeps
pads_keep k n f a h = padding_keeps (nat_le 261 n) (k == DATA || k == HEADERS) (nat_le (fields_size k 255 + 255) n)
    (has_flag PADDED f) (nat_le 255 (n - fields_size k f)) (cond (k == HEADERS && has_flag PRIORITY_FLAG f) 5 0) n a h

-- a frame without a payload has no padding

none_around : (p : Bool) (x a n : ℕ) → n ≡ 0 → cond p 1 0 + x ≤ n → (cond p 1 0 + x) + cond p a 0 ≤ n
none_around true x a n z h = absurd (omega (arith, h))
none_around false x a n z h = omega (arith, h)

not_padded : (p : Bool) (x n : ℕ) → n ≡ 0 → cond p 1 0 + x ≤ n → p ≡ false
not_padded true x n z h = absurd (omega (arith, h))
not_padded false x n z h = refl

-- the rule on padding with a whole head
abbrev pads_with : ℕ → ℕ → ℕ → Verdict → Verdict
pads_with k n f v = cond (nat_le 261 n) Keeps
    (cond (k == DATA || k == HEADERS)
    (cond (nat_le (fields_size k 255 + 255) n) Keeps (cond (has_flag PADDED f) v Keeps)) Keeps)

pads_head : (q : List ℕ) → 9 ≤ length q → has_padding_within q
    ≡ pads_with (kind_of q) (length_with 0 q) (flags_of q)
    (pads_within (length_with 0 q - fields_size (kind_of q) (flags_of q)) q)
pads_head q h =
    let four : 4 ≤ length q = omega arith in
    let five : 5 ≤ length q = omega arith in
    let inner : Verdict → Verdict = λ v. cond (nat_le 261 (length_with 0 q)) Keeps
    (cond (kind_of q == DATA || kind_of q == HEADERS)
    (cond (nat_le (fields_size (kind_of q) 255 + 255) (length_with 0 q)) Keeps v) Keeps) in
    ap (λ v. cond (nat_le 261 (length_with 0 q)) Keeps v)
    (kind_known q (pads_kind (kind_of q) (length_with 0 q) q) four)
    ∙ ap inner (flags_known q (cond (has_flag PADDED (flags_of q))
    (pads_within (length_with 0 q - fields_size (kind_of q) (flags_of q)) q) Keeps) five)

without_keeps : (large both any p : Bool) (v : Verdict) → (both && p) ≡ false
    → cond large Keeps (cond both (cond any Keeps (cond p v Keeps)) Keeps) ≡ Keeps
without_keeps true both any p v e = refl
without_keeps false false any p v e = refl
without_keeps false true true p v e = refl
without_keeps false true false false v e = refl
without_keeps false true false true v e = absurd (cc)

-- a whole frame

same_first : (bytes : List ℕ) (n : ℕ) → 9 < n → get_or (take n bytes) 9 0 ≡ get_or (drop 9 bytes) 0 0
same_first bytes n h = get_or-take n bytes 9 0 h ∙ sym (get_or-drop 9 bytes 0 0)

-- the same of equal numbers
pub moved_numbers : (P : ℕ → ℕ → ℕ → ℕ → Type 0) (s k f t s' k' f' t' : ℕ) → s ≡ s' → k ≡ k' → f ≡ f' → t ≡ t'
    → P s k f t → P s' k' f' t'
moved_numbers P s k f t s' k' f' t' a b c d h = subst (P s' k' f') d
    (subst (λ x. P s' k' x t) c (subst (λ x. P s' x f t) b (subst (λ x. P x k f t) a h)))

stream_take : (n : ℕ) (bytes : List ℕ) → 9 ≤ n → stream_with 0 (take n bytes) ≡ stream_with 0 bytes
stream_take n bytes h =
    let a : 5 < n = omega arith in
    let b : 6 < n = omega arith in
    let c : 7 < n = omega arith in
    let d : 8 < n = omega arith in
    rw (get_or-take n bytes 5 0 a, get_or-take n bytes 6 0 b, get_or-take n bytes 7 0 c, get_or-take n bytes 8 0 d)
    refl

taken_rules : (at : Context) (n : ℕ) (bytes : List ℕ) → 9 ≤ n → RulesOf at (take n bytes) → RulesOf at bytes
taken_rules at n bytes h r =
    let three : 3 ≤ n = omega arith in
    let k : 3 < n = omega arith in
    let f : 4 < n = omega arith in
    moved_numbers (KeepsHeadRules at) _ _ _ _ _ _ _ _ (size_take 0 n bytes three) (get_or-take n bytes 3 0 k)
    (get_or-take n bytes 4 0 f) (stream_take n bytes h) r

rules_taken : (at : Context) (n : ℕ) (bytes : List ℕ) → 9 ≤ n → RulesOf at bytes → RulesOf at (take n bytes)
rules_taken at n bytes h r =
    let three : 3 ≤ n = omega arith in
    let k : 3 < n = omega arith in
    let f : 4 < n = omega arith in
    moved_numbers (KeepsHeadRules at) _ _ _ _ _ _ _ _ (sym (size_take 0 n bytes three))
    (sym (get_or-take n bytes 3 0 k)) (sym (get_or-take n bytes 4 0 f)) (sym (stream_take n bytes h)) r

-- what is no content fits into the payload
abbrev pub Around : List ℕ → ℕ → Type 0
Around q a = bytes_before (kind_of q) (flags_of q) + padding_size (kind_of q) (flags_of q) a ≤ length_with 0 q

-- ten bytes in which no fault is found have padding that fits
pub around_ten : (q : List ℕ) → get_or q 9 0 < 256 → 10 ≤ length q
    → bytes_before (kind_of q) (flags_of q) ≤ length_with 0 q → IsNoFault (first_broken (has_padding_within q) 1 Fine)
    → Around q (get_or q 9 0)
around_ten q b ten fields h =
    let four : 4 ≤ length q = omega arith in
    let five : 5 ≤ length q = omega arith in
    let d : IsDecided (has_padding_within q) = either_way (nat_le 261 (length_with 0 q)) _ _ tt
    (known 4 q _ four (pads_decided (kind_of q) (length_with 0 q) q five ten)) in
    let keeps = (fine_step (has_padding_within q) 1 Fine d h).0 in
    let small : get_or q 9 0 ≤ 255 = omega arith in
    pads_fit (kind_of q) (length_with 0 q) (flags_of q) (get_or q 9 0) (sym (pads_at q ten) ∙ keeps) fields small

-- where no fault is found in ten bytes, what is no content fits
pub ten_fit : (at : Context) (q : List ℕ) → AreBytes q → 10 ≤ length q → IsNoFault (judge at q)
    → Around q (get_or q 9 0)
ten_fit at q b ten h =
    let nine : 9 ≤ length q = omega arith in
    let s : Six at q = six_kept at q nine h in
    let r : RulesOf at q = six_rules at q nine s.six in
    around_ten q (b 9) ten r.payload.fields s.last

-- the same of equal numbers
pub moved_around : (s k f a s' k' f' a' : ℕ) → s ≡ s' → k ≡ k' → f ≡ f' → a ≡ a'
    → bytes_before k f + padding_size k f a ≤ s → bytes_before k' f' + padding_size k' f' a' ≤ s'
moved_around s k f a s' k' f' a' x y z w h = moved_numbers (λ i j l m. bytes_before j l + padding_size j l m ≤ i) s k
    f a s' k' f' a' x y z w h

-- a whole frame in which no fault is found keeps its rules
pub whole_kept : (at : Context) (bytes : List ℕ) → AreBytes bytes → 9 ≤ length bytes → length bytes ≡ frame_size bytes
    → IsNoFault (judge at (judged bytes)) → KeepsRules at (frame_of bytes)
whole_kept at bytes b nine whole h =
    let q : judged bytes ≡ take (min 10 (frame_size bytes)) bytes = judged_many bytes nine in
    let least : 9 ≤ min 10 (frame_size bytes) = omega arith in
    let long : 9 ≤ length (take (min 10 (frame_size bytes)) bytes) = omega
    (arith, length-take (min 10 (frame_size bytes)) bytes) in
    let s : Six at (take (min 10 (frame_size bytes)) bytes) = six_kept at (take (min 10 (frame_size bytes)) bytes)
    long (subst (λ (xs : List ℕ). IsNoFault (judge at xs)) q h) in
    let r : RulesOf at (take (min 10 (frame_size bytes)) bytes) = six_rules at
    (take (min 10 (frame_size bytes)) bytes) long s.six in
    let rules : RulesOf at bytes = taken_rules at (min 10 (frame_size bytes)) bytes least r in
    record {
      head = rules;
      padding = either (frame_size bytes) 10
          (λ small.
          let z : length_with 0 bytes ≡ 0 = omega arith in
          none_around (is_padded (kind_of bytes) (flags_of bytes)) _ (get_or (drop 9 bytes) 0 0) (length_with 0 bytes)
          z rules.payload.fields)
          (λ large.
          let ten : 10 ≤ length (take (min 10 (frame_size bytes)) bytes) = omega
          (arith, length-take (min 10 (frame_size bytes)) bytes) in
          let three : 3 ≤ min 10 (frame_size bytes) = omega arith in
          let k : 3 < min 10 (frame_size bytes) = omega arith in
          let f : 4 < min 10 (frame_size bytes) = omega arith in
          let t : 9 < min 10 (frame_size bytes) = omega arith in
          let byte : get_or (take (min 10 (frame_size bytes)) bytes) 9 0 < 256 = AreBytes-take
          (min 10 (frame_size bytes)) bytes b 9 in
          let a = around_ten (take (min 10 (frame_size bytes)) bytes) byte ten r.payload.fields s.last in
          moved_around _ _ _ _ _ _ _ _ (size_take 0 (min 10 (frame_size bytes)) bytes three)
          (get_or-take (min 10 (frame_size bytes)) bytes 3 0 k)
          (get_or-take (min 10 (frame_size bytes)) bytes 4 0 f) (same_first bytes (min 10 (frame_size bytes)) t)
          a);
    }

-- no fault is found in a whole frame that keeps its rules
pub keeps_whole : (at : Context) (bytes : List ℕ) → 9 ≤ length bytes → length bytes ≡ frame_size bytes
    → KeepsRules at (frame_of bytes) → IsNoFault (judge at (judged bytes))
keeps_whole at bytes nine whole h =
    let q : judged bytes ≡ take (min 10 (frame_size bytes)) bytes = judged_many bytes nine in
    let least : 9 ≤ min 10 (frame_size bytes) = omega arith in
    let long : 9 ≤ length (take (min 10 (frame_size bytes)) bytes) = omega
    (arith, length-take (min 10 (frame_size bytes)) bytes) in
    let three : 3 ≤ min 10 (frame_size bytes) = omega arith in
    let k : 3 < min 10 (frame_size bytes) = omega arith in
    let f : 4 < min 10 (frame_size bytes) = omega arith in
    let r : RulesOf at (take (min 10 (frame_size bytes)) bytes) = rules_taken at (min 10 (frame_size bytes)) bytes
    least h.head in
    let last : has_padding_within (take (min 10 (frame_size bytes)) bytes) ≡ Keeps = either (frame_size bytes) 10
    (λ small.
    let z : length_with 0 bytes ≡ 0 = omega arith in
    let zero_is : length_with 0 (take (min 10 (frame_size bytes)) bytes)
    ≡ 0 = size_take 0 (min 10 (frame_size bytes)) bytes three ∙ z in
    pads_head (take (min 10 (frame_size bytes)) bytes) long
    ∙ without_keeps (nat_le 261 (length_with 0 (take (min 10 (frame_size bytes)) bytes)))
    (kind_of (take (min 10 (frame_size bytes)) bytes) == DATA || kind_of (take (min 10 (frame_size bytes)) bytes)
    == HEADERS) _ (has_flag PADDED (flags_of (take (min 10 (frame_size bytes)) bytes))) _
    (not_padded _ _ (length_with 0 (take (min 10 (frame_size bytes)) bytes)) zero_is r.payload.fields))
    (λ large.
    let ten : 10 ≤ length (take (min 10 (frame_size bytes)) bytes) = omega
    (arith, length-take (min 10 (frame_size bytes)) bytes) in
    let t : 9 < min 10 (frame_size bytes) = omega arith in
    pads_at (take (min 10 (frame_size bytes)) bytes) ten
    ∙ pads_keep (kind_of (take (min 10 (frame_size bytes)) bytes))
    (length_with 0 (take (min 10 (frame_size bytes)) bytes)) (flags_of (take (min 10 (frame_size bytes)) bytes))
    (get_or (take (min 10 (frame_size bytes)) bytes) 9 0)
    (moved_around _ _ _ _ _ _ _ _ (sym (size_take 0 (min 10 (frame_size bytes)) bytes three))
    (sym (get_or-take (min 10 (frame_size bytes)) bytes 3 0 k))
    (sym (get_or-take (min 10 (frame_size bytes)) bytes 4 0 f))
    (sym (same_first bytes (min 10 (frame_size bytes)) t)) h.padding)) in
    let fine : judge at (take (min 10 (frame_size bytes)) bytes)
    ≡ Fine = six_leave at (take (min 10 (frame_size bytes)) bytes)
    (rules_six at (take (min 10 (frame_size bytes)) bytes) long r) ∙ ap (λ v. first_broken v 1 Fine) last in
    subst (λ (xs : List ℕ). IsNoFault (judge at xs)) (sym q) (subst IsNoFault (sym fine) tt)

-- no fault is found in a whole frame exactly where it keeps its rules
pub rules_are_kept : (at : Context) (bytes : List ℕ) → AreBytes bytes → 9 ≤ length bytes → length bytes
    ≡ frame_size bytes → IsNoFault (judge at (judged bytes)) ↔ KeepsRules at (frame_of bytes)
rules_are_kept at bytes b nine whole = (whole_kept at bytes b nine whole, keeps_whole at bytes nine whole)

-- a head alone

open_if : (large both any p roomy : Bool)
    → first_broken (cond large Keeps (cond both (cond any Keeps (cond p (cond roomy Keeps Undecided) Keeps)) Keeps)) 1
    Fine ≡ Open → ((both && p) ≡ true) × (roomy ≡ false)
open_if true both any p roomy e = absurd (cc)
open_if false false any p roomy e = absurd (cc)
open_if false true true p roomy e = absurd (cc)
open_if false true false false roomy e = absurd (cc)
open_if false true false true true e = absurd (cc)
open_if false true false true false e = (refl, refl)

open_then : (large both any p roomy : Bool) → large ≡ false → both ≡ true → any ≡ false → p ≡ true → roomy ≡ false
    → first_broken (cond large Keeps (cond both (cond any Keeps (cond p (cond roomy Keeps Undecided) Keeps)) Keeps)) 1
    Fine ≡ Open
open_then large both any p roomy a b c d e = rw (a, b, c, d, e) refl

both_parts : (a b : Bool) → (a && b) ≡ true → (a ≡ true) × (b ≡ true)
both_parts true b e = (refl, e)
both_parts false b e = absurd (cc)

waiting_when : (both p : Bool) (x n : ℕ) → (both && p) ≡ true → nat_le 255 (n - (cond p 1 0 + x)) ≡ false
    → ((both && p) && nat_lt n ((cond (both && p) 1 0 + x) + 255)) ≡ true
waiting_when true true x n h e = let l : n - (1 + x) < 255 = leb-false 255 (n - (1 + x)) e in let m : n < (1 + x) +
    255 = omega arith in lt-ltb n ((1 + x) + 255) m
waiting_when true false x n h e = absurd (cc)
waiting_when false p x n h e = absurd (cc)

waits_when : (both p : Bool) (x n big : ℕ) → x ≤ 5 → 1 + x ≤ big → 1 + x ≤ n
    → ((both && p) && nat_lt n ((cond (both && p) 1 0 + x) + 255)) ≡ true
    → first_broken (cond (nat_le 261 n) Keeps
    (cond both (cond (nat_le (big + 255) n) Keeps
    (cond p (cond (nat_le 255 (n - (cond p 1 0 + x))) Keeps Undecided) Keeps)) Keeps)) 1 Fine ≡ Open
waits_when true true x n big i j l h =
    let m : n < (1 + x) + 255 = ltb-true n ((1 + x) + 255) h in
    let a : n < 261 = omega arith in
    let b : n < big + 255 = omega arith in
    let c : n - (1 + x) < 255 = omega arith in
    open_then (nat_le 261 n) true (nat_le (big + 255) n) true (nat_le 255 (n - (1 + x))) (lt-leb 261 n a) refl
    (lt-leb (big + 255) n b) refl (lt-leb 255 (n - (1 + x)) c)
waits_when true false x n big i j l h = absurd (cc)
waits_when false p x n big i j l h = absurd (cc)

one_of : (both p : Bool) (x n : ℕ) (b : Bool) → ((both && p) && b) ≡ true → cond (both && p) 1 0 + x ≤ n → 1 + x ≤ n
one_of true true x n b h l = l
one_of true false x n b h l = absurd (cc)
one_of false p x n b h l = absurd (cc)

pads_nine : (q : List ℕ) → length q ≡ 9 → has_padding_within q
    ≡ pads_with (kind_of q) (length_with 0 q) (flags_of q)
    (cond (nat_le 255 (length_with 0 q - fields_size (kind_of q) (flags_of q))) Keeps Undecided)
pads_nine q e =
    let nine : 9 ≤ length q = omega arith in
    let few : length q < 10 = omega arith in
    pads_head q nine ∙ ap (λ (b : Bool). pads_with (kind_of q) (length_with 0 q) (flags_of q)
    (cond (nat_le 255 (length_with 0 q - fields_size (kind_of q) (flags_of q))) Keeps
    (cond b Undecided (keeps_if (nat_le (get_or q 9 0)
    (length_with 0 q - fields_size (kind_of q) (flags_of q))))))) (lt-ltb (length q) 10 few)

-- a head in which no fault is found leaves a rule open exactly where the padding is to be judged
pub head_waits : (at : Context) (q : List ℕ) → length q ≡ 9 → IsNoFault (judge at q)
    → (judge at q ≡ Open) ↔ (waits_for_padding (kind_of q) (flags_of q) (length_with 0 q) ≡ true)
head_waits at q e h =
    let nine : 9 ≤ length q = omega arith in
    let s : Six at q = six_kept at q nine h in
    let r : RulesOf at q = six_rules at q nine s.six in
    let is = six_leave at q s.six ∙ ap (λ v. first_broken v 1 Fine) (pads_nine q e) in (
      (λ opens.
          let t = open_if (nat_le 261 (length_with 0 q)) (kind_of q == DATA || kind_of q == HEADERS)
          (nat_le (fields_size (kind_of q) 255 + 255) (length_with 0 q)) (has_flag PADDED (flags_of q))
          (nat_le 255 (length_with 0 q - fields_size (kind_of q) (flags_of q))) (sym is ∙ opens) in
          waiting_when (kind_of q == DATA || kind_of q == HEADERS) (has_flag PADDED (flags_of q))
          (cond (kind_of q == HEADERS && has_flag PRIORITY_FLAG (flags_of q)) 5 0) (length_with 0 q) t.0 t.1),
      (λ waits. is ∙ waits_when (kind_of q == DATA || kind_of q == HEADERS) (has_flag PADDED (flags_of q))
          (cond (kind_of q == HEADERS && has_flag PRIORITY_FLAG (flags_of q)) 5 0) (length_with 0 q)
          (fields_size (kind_of q) 255)
          (priority_most (kind_of q == HEADERS) (has_flag PRIORITY_FLAG (flags_of q)))
          (fields_big (kind_of q == HEADERS) (has_flag PRIORITY_FLAG (flags_of q)))
          (one_of (kind_of q == DATA || kind_of q == HEADERS) (has_flag PADDED (flags_of q))
          (cond (kind_of q == HEADERS && has_flag PRIORITY_FLAG (flags_of q)) 5 0) (length_with 0 q) _ waits
          r.payload.fields) waits),
    )
