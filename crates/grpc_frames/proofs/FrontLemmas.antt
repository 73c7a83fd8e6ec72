-- More bytes change nothing of what the first ones decide.
use Rattle.std.proofs.Common.{◌≡◌, ◌<◌, ◌≤◌, ◌+◌, ◌++◌, ◌==◌, ℕ, Bool, true, false, List, [], ◌∷◌, length, take, drop, cond, nat_lt, arith, refl, sym, ap, subst, ◌∙◌}
use Rattle.std.proofs.lemmas.Bool.{ltb-true, ltb-false}
use Rattle.grpc_frames.specs.LengthPrefixed.{FramingError, Prefix, Open, BadPrefix, Sized, sized_prefix, prefix_of, Incomplete, Malformed, Complete, front_from, front}

-- the prefix says something
abbrev pub IsDecided : Prefix → Type 0
IsDecided Open = ⊥
IsDecided (BadPrefix w) = Unit {0}
IsDecided (Sized n) = Unit {0}

-- an open prefix says nothing
undecided : {A : Type 0} (h : Prefix) → Open ≡ h → IsDecided h → A
undecided {A} h e d = absurd (subst IsDecided (sym e) d)

-- more bytes do not change a length
size_grows : (limit : ℕ) (bs more : List ℕ) (h : Prefix) → sized_prefix limit bs ≡ h → IsDecided h → sized_prefix limit (bs ++ more) ≡ h
size_grows limit [] more h e d = undecided h e d
size_grows limit (a ∷ []) more h e d = undecided h e d
size_grows limit (a ∷ b ∷ []) more h e d = undecided h e d
size_grows limit (a ∷ b ∷ c ∷ []) more h e d = undecided h e d
size_grows limit (a ∷ b ∷ c ∷ d ∷ bs) more h e k = e

-- the same behind a test of the flag
prefix_step : (b : Bool) (x y z h : Prefix) → (x ≡ h → y ≡ h) → cond b x z ≡ h → cond b y z ≡ h
prefix_step true x y z h k e = k e
prefix_step false x y z h k e = e

-- more bytes do not change what a prefix says
pub prefix_of_grows : (limit : ℕ) (bs more : List ℕ) (h : Prefix) → prefix_of limit bs ≡ h → IsDecided h → prefix_of limit (bs ++ more) ≡ h
prefix_of_grows limit [] more h e d = undecided h e d
prefix_of_grows limit (f ∷ bs) more h e d = prefix_step (f == 0) (sized_prefix limit bs) (sized_prefix limit (bs ++ more)) _ h (λ k. size_grows limit bs more h k d) e

-- a length, once read, is no open prefix
not_open : (b : Bool) (w : FramingError) (n : ℕ) → cond b (BadPrefix w) (Sized n) ≡ Open → ⊥
not_open true w n e = cc
not_open false w n e = cc

-- nor is a bad flag
bad_not_open : (b : Bool) (w v : FramingError) → cond b (BadPrefix w) (BadPrefix v) ≡ Open → ⊥
bad_not_open true w v e = cc
bad_not_open false w v e = cc

-- a bad flag is no length
bad_not_long : (b : Bool) (w v : FramingError) (n : ℕ) → cond b (BadPrefix w) (BadPrefix v) ≡ Sized n → ⊥
bad_not_long true w v n e = cc
bad_not_long false w v n e = cc

-- an open length has fewer than four bytes
size_few : (limit : ℕ) (bs : List ℕ) → sized_prefix limit bs ≡ Open → length bs < 4
size_few limit [] e = omega arith
size_few limit (a ∷ []) e = omega arith
size_few limit (a ∷ b ∷ []) e = omega arith
size_few limit (a ∷ b ∷ c ∷ []) e = omega arith
size_few limit (a ∷ b ∷ c ∷ d ∷ bs) e = absurd (not_open _ _ _ e)

-- the same behind a test of the flag
few_step : (b c : Bool) (x : Prefix) (w v : FramingError) (n : ℕ) → (x ≡ Open → n < 4) → cond b x (cond c (BadPrefix w) (BadPrefix v)) ≡ Open → n < 4
few_step true c x w v n k e = k e
few_step false c x w v n k e = absurd (bad_not_open c w v e)

-- an open prefix has fewer than five bytes
pub prefix_of_few : (limit : ℕ) (bs : List ℕ) → prefix_of limit bs ≡ Open → length bs < 5
prefix_of_few limit [] e = omega arith
prefix_of_few limit (f ∷ bs) e = let few : length bs < 4 = few_step _ _ (sized_prefix limit bs) _ _ (length bs) (size_few limit bs) e in omega arith

-- a length has four bytes
size_many : (limit : ℕ) (bs : List ℕ) (n : ℕ) → sized_prefix limit bs ≡ Sized n → 4 ≤ length bs
size_many limit [] n e = absurd (cc)
size_many limit (a ∷ []) n e = absurd (cc)
size_many limit (a ∷ b ∷ []) n e = absurd (cc)
size_many limit (a ∷ b ∷ c ∷ []) n e = absurd (cc)
size_many limit (a ∷ b ∷ c ∷ d ∷ bs) n e = omega arith

-- the same behind a test of the flag
many_step : (b c : Bool) (x : Prefix) (w v : FramingError) (n m : ℕ) → (x ≡ Sized m → 4 ≤ n) → cond b x (cond c (BadPrefix w) (BadPrefix v)) ≡ Sized m → 4 ≤ n
many_step true c x w v n m k e = k e
many_step false c x w v n m k e = absurd (bad_not_long c w v m e)

-- a prefix with a length has five bytes
pub prefix_of_many : (limit : ℕ) (bs : List ℕ) (n : ℕ) → prefix_of limit bs ≡ Sized n → 5 ≤ length bs
prefix_of_many limit [] n e = absurd (cc)
prefix_of_many limit (f ∷ bs) n e = let many : 4 ≤ length bs = many_step _ _ (sized_prefix limit bs) _ _ (length bs) n (size_many limit bs n) e in omega arith

-- what a front that is whole says of the bytes
pub record IsComplete (limit : ℕ) (bs message rest : List ℕ) : Type 0 where
  pub size : ℕ
  pub prefix_is : prefix_of limit bs ≡ Sized size
  pub enough : 5 + size ≤ length bs
  pub message_is : message ≡ take size (drop 5 bs)
  pub rest_is : rest ≡ drop (5 + size) bs

-- a test that chose a whole message
whole_step : (limit : ℕ) (bs m rest : List ℕ) (n : ℕ) (b : Bool) → (b ≡ false → 5 + n ≤ length bs) → prefix_of limit bs ≡ Sized n → cond b Incomplete (Complete (take n (drop 5 bs)) (drop (5 + n) bs)) ≡ Complete m rest → IsComplete limit bs m rest
whole_step limit bs m rest n true k h e = absurd (cc)
whole_step limit bs m rest n false k h e = record { size = n; prefix_is = h; enough = k refl; message_is = cc; rest_is = cc }

-- the same for each prefix
whole_of : (limit : ℕ) (bs m rest : List ℕ) (h : Prefix) → prefix_of limit bs ≡ h → front_from h bs ≡ Complete m rest → IsComplete limit bs m rest
whole_of limit bs m rest Open h e = absurd (cc)
whole_of limit bs m rest (BadPrefix w) h e = absurd (cc)
whole_of limit bs m rest (Sized n) h e = whole_step limit bs m rest n (nat_lt (length bs) (5 + n)) (ltb-false (length bs) (5 + n)) h e

-- a whole message has its length, and is the bytes behind the prefix
pub front_complete : (limit : ℕ) (bs m rest : List ℕ) → front limit bs ≡ Complete m rest → IsComplete limit bs m rest
front_complete limit bs m rest e = whole_of limit bs m rest (prefix_of limit bs) refl e

-- a test that finds enough bytes
long_step : (bs : List ℕ) (n : ℕ) (b : Bool) → (b ≡ true → length bs < 5 + n) → 5 + n ≤ length bs → cond b Incomplete (Complete (take n (drop 5 bs)) (drop (5 + n) bs)) ≡ Complete (take n (drop 5 bs)) (drop (5 + n) bs)
long_step bs n true k h = let l : length bs < 5 + n = k refl in absurd (omega arith)
long_step bs n false k h = refl

-- a prefix_of with its whole message
pub complete_front : (limit : ℕ) (bs : List ℕ) (n : ℕ) → prefix_of limit bs ≡ Sized n → 5 + n ≤ length bs → front limit bs ≡ Complete (take n (drop 5 bs)) (drop (5 + n) bs)
complete_front limit bs n h k = ap (λ x. front_from x bs) h ∙ long_step bs n (nat_lt (length bs) (5 + n)) (ltb-true (length bs) (5 + n)) k

-- a test that finds too few bytes
short_step : (bs m rest : List ℕ) (n : ℕ) (b : Bool) → (b ≡ false → 5 + n ≤ length bs) → length bs < 5 + n → cond b Incomplete (Complete m rest) ≡ Incomplete
short_step bs m rest n true k h = refl
short_step bs m rest n false k h = let l : 5 + n ≤ length bs = k refl in absurd (omega arith)

-- a length with too few bytes behind it
pub incomplete_front : (limit : ℕ) (bs : List ℕ) (n : ℕ) → prefix_of limit bs ≡ Sized n → length bs < 5 + n → front limit bs ≡ Incomplete
incomplete_front limit bs n h k = ap (λ x. front_from x bs) h ∙ short_step bs _ _ n (nat_lt (length bs) (5 + n)) (ltb-false (length bs) (5 + n)) k

-- too few bytes were found
unwhole_step : (bs m rest : List ℕ) (n : ℕ) (b : Bool) → (b ≡ true → length bs < 5 + n) → cond b Incomplete (Complete m rest) ≡ Incomplete → length bs < 5 + n
unwhole_step bs m rest n true k e = k refl
unwhole_step bs m rest n false k e = absurd (cc)

-- a prefix_of without its whole message
pub front_incomplete : (limit : ℕ) (bs : List ℕ) (n : ℕ) → prefix_of limit bs ≡ Sized n → front limit bs ≡ Incomplete → length bs < 5 + n
front_incomplete limit bs n h e = unwhole_step bs (take n (drop 5 bs)) (drop (5 + n) bs) n (nat_lt (length bs) (5 + n)) (ltb-true (length bs) (5 + n)) (sym (ap (λ x. front_from x bs) h) ∙ e)

-- no test of the length gives an error
broken_step : (bs m rest : List ℕ) (w : FramingError) (b : Bool) → cond b Incomplete (Complete m rest) ≡ Malformed w → ⊥
broken_step bs m rest w true e = cc
broken_step bs m rest w false e = cc

-- the same for each prefix
broken_of : (bs : List ℕ) (w : FramingError) (h : Prefix) → front_from h bs ≡ Malformed w → h ≡ BadPrefix w
broken_of bs w Open e = absurd (cc)
broken_of bs w (BadPrefix v) e = cc
broken_of bs w (Sized n) e = absurd (broken_step bs _ _ w _ e)

-- an error is one of the prefix
pub front_malformed : (limit : ℕ) (bs : List ℕ) (w : FramingError) → front limit bs ≡ Malformed w → prefix_of limit bs ≡ BadPrefix w
front_malformed limit bs w e = broken_of bs w (prefix_of limit bs) e

-- an error of the prefix is one of the front
pub malformed_front : (limit : ℕ) (bs : List ℕ) (w : FramingError) → prefix_of limit bs ≡ BadPrefix w → front limit bs ≡ Malformed w
malformed_front limit bs w h = ap (λ x. front_from x bs) h

-- an error stays, whatever comes
pub malformed_grows : (limit : ℕ) (bs more : List ℕ) (w : FramingError) → front limit bs ≡ Malformed w → front limit (bs ++ more) ≡ Malformed w
malformed_grows limit bs more w e = malformed_front limit (bs ++ more) w (prefix_of_grows limit bs more (BadPrefix w) (front_malformed limit bs w e) tt)
