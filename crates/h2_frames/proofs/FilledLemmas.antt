-- Bytes that go on as they are wanted to.
use Rattle.std.proofs.Common.{◌≡◌, ◌<◌, ◌≤◌, ◌+◌, ◌-◌, ◌++◌, ℕ, Bool, true, false, List, [], ◌∷◌, length, drop, cond, nat_lt, nat_le, arith, refl, sym, ap, subst, ◌∙◌, length-append, length-drop, get_or}
use Rattle.std.proofs.lemmas.Bool.{le-ltb}
use Rattle.std.proofs.lemmas.Bool.Decides.{nat_tests}
use Rattle.std.proofs.lemmas.List.{get_or_append_left, get_or-append-add, get_or-drop}
use Rattle.std.proofs.lemmas.Grind.{get_or_default_zero}
use Rattle.std.proofs.Math.ListN.{get_or-eq_default}
use Rattle.base.specs.Bytes.{AreBytes}
use Rattle.base.proofs.AreBytesLemmas.{AreBytes-drop, AreBytes_more, AreBytes_none}
use Rattle.h2_frames.specs.FrameHead.{length_with, stream_with, kind_of, flags_of}
use Rattle.h2_frames.specs.FrameErrors.{Verdict, Undecided, Keeps, Breaks, with_kind, with_flags, of_all}
use Rattle.h2_frames.specs.FrameVerdicts.{MayGoEitherWay, IsDecidedAtOnce}
use Rattle.h2_frames.proofs.GrowthLemmas.{either}
use Rattle.h2_frames.proofs.SteadyLemmas.{Steady}
use Rattle.h2_frames.proofs.DecidedLemmas.{IsDecided}

-- bytes with those of another list behind them, from their length on
abbrev pub filled : List ℕ → List ℕ → List ℕ
filled p t = p ++ drop (length p) t

-- an index of it is one of the bytes, or of the list where it has not come
pub fill_at : (p t : List ℕ) (i d b : ℕ) → get_or t i d ≡ b → get_or (filled p t) i d ≡ get_or p i b
fill_at p t i d b h = either i (length p)
    (λ old. get_or_append_left p (drop (length p) t) d i old ∙ get_or_default_zero p i d old ∙ sym (get_or_default_zero p i b old))
    (λ new.
    let e : i ≡ length p + (i - length p) = omega arith in
    ap (λ k. get_or (filled p t) k d) e ∙ get_or-append-add p (drop (length p) t) (i - length p) d ∙ get_or-drop (length p) t (i - length p) d ∙ ap (λ k. get_or t k d) (sym e) ∙ h ∙ sym (get_or-eq_default p b {n = i} new))

-- the bytes that have come stay
pub fill_old : (p t : List ℕ) (i : ℕ) → i < length p → get_or (filled p t) i 0 ≡ get_or p i 0
fill_old p t i h = get_or_append_left p (drop (length p) t) 0 i h

-- the others are those of the list
pub fill_new : (p t : List ℕ) (i b : ℕ) → length p ≤ i → get_or t i 0 ≡ b → get_or (filled p t) i 0 ≡ b
fill_new p t i b h e = fill_at p t i 0 b e ∙ get_or-eq_default p b {n = i} h

-- bytes that are filled up are no shorter than the list
pub fill_length : (p t : List ℕ) → length t ≤ length (filled p t)
fill_length p t = omega (arith, length-append p (drop (length p) t), length-drop (length p) t)

-- two lists that fill up the bytes show that a rule may go either way
pub both : (rule : List ℕ → Verdict) (p t u : List ℕ) → AreBytes t → AreBytes u → rule (filled p t) ≡ Keeps → rule (filled p u) ≡ Breaks → MayGoEitherWay rule p
both rule p t u k m x y = record { kept = drop (length p) t; broken = drop (length p) u; kept_bytes = AreBytes-drop (length p) t k; broken_bytes = AreBytes-drop (length p) u m; keeps = x; breaks = y }

-- what is decided is not undecided
pub decided_not : (rule : List ℕ → Verdict) (p : List ℕ) (v : Verdict) → IsDecided v → v ≡ Undecided → MayGoEitherWay rule p
decided_not rule p v d e = absurd (subst IsDecided e d)

-- what waits for the type is known with four bytes
pub kind_known : (q : List ℕ) (v : Verdict) → 4 ≤ length q → with_kind q v ≡ v
kind_known q v h = ap (λ (b : Bool). cond b Undecided v) (le-ltb (length q) 4 h)

-- what waits for the flags is known with five bytes
pub flags_known : (q : List ℕ) (v : Verdict) → 5 ≤ length q → with_flags q v ≡ v
flags_known q v h = ap (λ (b : Bool). cond b Undecided v) (le-ltb (length q) 5 h)

-- what is kept stays kept
pub steady_keeps : (v w : Verdict) → Steady v w → v ≡ Keeps → w ≡ Keeps
steady_keeps v w s e = subst (λ x. Steady x w) e s

-- what is broken stays broken
pub steady_breaks : (v w : Verdict) → Steady v w → v ≡ Breaks → w ≡ Breaks
steady_breaks v w s e = subst (λ x. Steady x w) e s

-- a rule that stays as it is decided, and else may go either way, is decided at once
pub at_once : (rule : List ℕ → Verdict) → ((bs more : List ℕ) → AreBytes (bs ++ more) → Steady (rule bs) (rule (bs ++ more))) → ((bs : List ℕ) → AreBytes bs → rule bs ≡ Undecided → MayGoEitherWay rule bs) → IsDecidedAtOnce rule
at_once rule s u = record { keeps = λ bs more k e. steady_keeps (rule bs) (rule (bs ++ more)) (s bs more k) e; breaks = λ bs more k e. steady_breaks (rule bs) (rule (bs ++ more)) (s bs more k) e; undecided = u }

-- lists to go on with: a type and flags, and the last four or nine bytes all the same

-- ten bytes with a type, flags, and one byte in each other place of the head
abbrev pub head_list : ℕ → ℕ → ℕ → List ℕ
head_list kind flags b = b ∷ b ∷ b ∷ kind ∷ flags ∷ b ∷ b ∷ b ∷ b ∷ b ∷ []

-- five times a byte are bytes
pub same_bytes : (b : ℕ) → b < 256 → AreBytes (b ∷ b ∷ b ∷ b ∷ b ∷ [])
same_bytes b z = AreBytes_more b (b ∷ b ∷ b ∷ b ∷ []) z (AreBytes_more b (b ∷ b ∷ b ∷ []) z (AreBytes_more b (b ∷ b ∷ []) z (AreBytes_more b (b ∷ []) z (AreBytes_more b [] z AreBytes_none))))

-- such ten bytes are bytes
pub head_is_bytes : (kind flags b : ℕ) → kind < 256 → flags < 256 → b < 256 → AreBytes (head_list kind flags b)
head_is_bytes kind flags b x y z = AreBytes_more b (b ∷ b ∷ kind ∷ flags ∷ b ∷ b ∷ b ∷ b ∷ b ∷ []) z (AreBytes_more b (b ∷ kind ∷ flags ∷ b ∷ b ∷ b ∷ b ∷ b ∷ []) z (AreBytes_more b (kind ∷ flags ∷ b ∷ b ∷ b ∷ b ∷ b ∷ []) z
    (AreBytes_more kind (flags ∷ b ∷ b ∷ b ∷ b ∷ b ∷ []) x (AreBytes_more flags (b ∷ b ∷ b ∷ b ∷ b ∷ []) y (same_bytes b z)))))

-- bytes that such a list fills up are ten at least
pub ten : (p : List ℕ) (kind flags b n : ℕ) → n ≤ 10 → n ≤ length (filled p (head_list kind flags b))
ten p kind flags b n h = let l = fill_length p (head_list kind flags b) in omega arith

-- the type is that of the list where it has not come
pub kind_new : (p : List ℕ) (kind flags b : ℕ) → length p < 4 → kind_of (filled p (head_list kind flags b)) ≡ kind
kind_new p kind flags b h = let l : length p ≤ 3 = omega arith in fill_new p (head_list kind flags b) 3 kind l refl

-- the type is that of the bytes where it has come
pub kind_old : (p : List ℕ) (kind flags b : ℕ) → 4 ≤ length p → kind_of (filled p (head_list kind flags b)) ≡ kind_of p
kind_old p kind flags b h = let l : 3 < length p = omega arith in fill_old p (head_list kind flags b) 3 l

-- the flags are those of the list where they have not come
pub flags_new : (p : List ℕ) (kind flags b : ℕ) → length p < 5 → flags_of (filled p (head_list kind flags b)) ≡ flags
flags_new p kind flags b h = let l : length p ≤ 4 = omega arith in fill_new p (head_list kind flags b) 4 flags l refl

-- the length with the byte of the list in place of each that has not come
pub length_filled : (p : List ℕ) (kind flags b d : ℕ) → length_with d (filled p (head_list kind flags b)) ≡ length_with b p
length_filled p kind flags b d =
    let t = head_list kind flags b in
    rw (fill_at p (head_list kind flags b) 0 d b refl, fill_at p (head_list kind flags b) 1 d b refl, fill_at p (head_list kind flags b) 2 d b refl) refl

-- the stream with the byte of the list in place of each that has not come
pub stream_filled : (p : List ℕ) (kind flags b d : ℕ) → stream_with d (filled p (head_list kind flags b)) ≡ stream_with b p
stream_filled p kind flags b d = rw (fill_at p (head_list kind flags b) 5 d b refl, fill_at p (head_list kind flags b) 6 d b refl, fill_at p (head_list kind flags b) 7 d b refl, fill_at p (head_list kind flags b) 8 d b refl) refl

-- by the two cases of a test
pub by_bool : {A : Type 0} (b : Bool) → (b ≡ true → A) → (b ≡ false → A) → A
by_bool true f g = f refl
by_bool false f g = g refl

-- what is undecided is not broken
pub breaks_decided : (v : Verdict) → v ≡ Undecided → v ≡ Breaks → ⊥
breaks_decided v e h = let x : Undecided ≡ Breaks = sym e ∙ h in cc

-- what is undecided is not kept
pub keeps_decided : (v : Verdict) → v ≡ Undecided → v ≡ Keeps → ⊥
keeps_decided v e h = let x : Undecided ≡ Keeps = sym e ∙ h in cc

-- a number that is undecided may be in reach or not
pub of_all_undecided : (a n : Bool) → of_all a n ≡ Undecided → (a ≡ false) × (n ≡ false)
of_all_undecided true n e = absurd (cc)
of_all_undecided false true e = absurd (cc)
of_all_undecided false false e = (refl, refl)

-- a number that is not above is at most
pub not_above : (m n : ℕ) → nat_lt m n ≡ false → nat_le n m ≡ true
not_above m n h = grind (arith, nat_tests)

-- a number that is not at most is above
pub above : (m n : ℕ) → nat_le n m ≡ false → nat_lt m n ≡ true
above m n h = grind (arith, nat_tests)
