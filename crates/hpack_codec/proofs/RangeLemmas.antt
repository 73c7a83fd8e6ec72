-- A range of a list that lies in two parts.
use Rattle.std.proofs.Common.{◌≡◌, ◌+◌, ◌-◌, ◌≤◌, ◌<◌, ◌++◌, ℕ, zero, suc, Bool, true, false, List, [], ◌∷◌, length, take, drop, min, refl, ap, sym, ◌∙◌, arith, append-nil, length-drop}
use Rattle.std.specs.Prelude.{nat_le}
use Rattle.std.proofs.lemmas.Bool.Decides.{nat_tests}
use Rattle.std.proofs.lemmas.List.{drop-append-le, take-append-le, take_rest}
use Rattle.std.proofs.Math.Seq.{drop-append-add, take-append-add}

-- the range from one offset to another
abbrev pub range : ℕ → ℕ → List ℕ → List ℕ
range from to xs = take (to - from) (drop from xs)

empty_range : (from to : ℕ) (xs : List ℕ) → to ≤ from → range from to xs ≡ []
empty_range from to xs h = let e : to - from ≡ 0 = omega arith in rw e refl

-- all lies in the first part
in_first : (f b : List ℕ) (start end : ℕ) → start ≤ end → end ≤ length f → range start end (f ++ b) ≡ range start end f
in_first f b start end h l =
    let short : end - start ≤ length (drop start f) = rw length-drop (omega arith) in
    ap (take (end - start)) (drop-append-le start f b (omega arith)) ∙ take-append-le (end - start) (drop start f) b short

-- it begins in the first part and ends in the second
in_both : (f b : List ℕ) (start end : ℕ) → start ≤ length f → length f ≤ end → range start end (f ++ b) ≡ range start (length f) f ++ range 0 (end - length f) b
in_both f b start end h l =
    let n : end - start ≡ length (drop start f) + (end - length f) = rw length-drop (omega arith) in
    let z : (end - length f) - 0 ≡ end - length f = omega arith in
    ap (take (end - start)) (drop-append-le start f b h)
    ∙ (ap (λ (k : ℕ). take k (drop start f ++ b)) n
    ∙ (take-append-add (drop start f) b (end - length f)
    ∙ (ap (λ (xs : List ℕ). xs ++ take (end - length f) b) (sym (take_rest f start))
    ∙ ap (λ (k : ℕ). range start (length f) f ++ take k b) (sym z))))

-- all lies in the second part
in_second : (f b : List ℕ) (start end : ℕ) → length f ≤ start → range start end (f ++ b) ≡ range (start - length f) (end - length f) b
in_second f b start end h =
    let s : start ≡ length f + (start - length f) = omega arith in
    let n : end - start ≡ (end - length f) - (start - length f) = omega arith in
    ap (λ (k : ℕ). take (end - start) (drop k (f ++ b))) s
    ∙ (ap (take (end - start)) (drop-append-add f b (start - length f))
    ∙ ap (λ (k : ℕ). take k (drop (start - length f) b)) n)

-- what lies in each part
by_parts : (f b : List ℕ) (start end from to : ℕ) (begins ends : Bool) → start ≤ end → nat_le start (length f) ≡ begins → nat_le end (length f) ≡ ends
    → from ≡ min start (length f) → to ≡ min end (length f)
    → range start end (f ++ b) ≡ range from to f ++ range (start - from) (end - to) b
by_parts f b start end from to true true h e1 e2 p q =
    let l : end ≤ length f = grind (arith, nat_tests) in
    let a : from ≡ start = omega arith in
    let z : to ≡ end = omega arith in
    let none : range (start - from) (end - to) b ≡ [] = empty_range (start - from) (end - to) b (omega arith) in
    in_first f b start end h l
    ∙ (sym (append-nil (range start end f))
    ∙ (ap (λ (xs : List ℕ). range start end f ++ xs) (sym none)
    ∙ (ap (λ (k : ℕ). range k end f ++ range (start - from) (end - to) b) (sym a)
    ∙ ap (λ (k : ℕ). range from k f ++ range (start - from) (end - to) b) (sym z))))
by_parts f b start end from to true false h e1 e2 p q =
    let l : start ≤ length f = grind (arith, nat_tests) in
    let m : length f ≤ end = grind (arith, nat_tests) in
    let a : from ≡ start = omega arith in
    let z : to ≡ length f = omega arith in
    let o : start - from ≡ 0 = omega arith in
    in_both f b start end l m
    ∙ (ap (λ (k : ℕ). range start (length f) f ++ range k (end - length f) b) (sym o)
    ∙ (ap (λ (k : ℕ). range k (length f) f ++ range (start - from) (end - length f) b) (sym a)
    ∙ ap (λ (k : ℕ). range from k f ++ range (start - from) (end - k) b) (sym z)))
by_parts f b start end from to false ends h e1 e2 p q =
    let l : length f < start = grind (arith, nat_tests) in
    let a : from ≡ length f = omega arith in
    let z : to ≡ length f = omega arith in
    let none : range from to f ≡ [] = empty_range from to f (omega arith) in
    in_second f b start end (omega arith)
    ∙ (ap (λ (k : ℕ). range (start - k) (end - length f) b) (sym a)
    ∙ (ap (λ (k : ℕ). range (start - from) (end - k) b) (sym z)
    ∙ ap (λ (xs : List ℕ). xs ++ range (start - from) (end - to) b) (sym none)))

-- a range of two parts, one behind the other, is a range of each
pub in_parts : (f b xs : List ℕ) (start end from to : ℕ) → f ++ b ≡ xs → start ≤ end → from ≡ min start (length f) → to ≡ min end (length f)
    → range start end xs ≡ range from to f ++ range (start - from) (end - to) b
in_parts f b xs start end from to e h p q = ap (range start end) (sym e) ∙ by_parts f b start end from to (nat_le start (length f)) (nat_le end (length f)) h refl refl p q

-- two ranges, one behind the other
pub two_ranges : (a b : ℕ) (xs : List ℕ) → a + b ≤ length xs → take (a + b) xs ≡ take a xs ++ take b (drop a xs)
two_ranges zero b xs h = let e : 0 + b ≡ b = omega arith in rw e refl
two_ranges (suc a) b [] h = absurd (omega arith)
two_ranges (suc a) b (x ∷ xs) h = let e : suc a + b ≡ suc (a + b) = omega arith in rw e (ap (λ (ys : List ℕ). x ∷ ys) (two_ranges a b xs (omega arith)))
