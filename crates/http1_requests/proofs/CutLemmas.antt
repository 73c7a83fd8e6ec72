-- What is cut stays cut, whatever follows.
use Rattle.std.proofs.Common.{◌≡◌, ℕ, suc, ◌+◌, ◌-◌, ◌≤◌, ◌<◌, ◌⊎◌, inl, inr, Bool, true, false, ◌||◌, ◌&&◌, ◌==◌, List, [], ◌∷◌, ◌++◌, length, take, drop, refl, sym, ap, ◌∙◌, subst, arith, length-append, length-take, Option, Some, None, option_map, if◌then◌else◌}
use lib.Seq.{take_all, take-append-le, drop-append-le, take-append-add}
use Rattle.std.specs.Prelude.{⊤}
use Rattle.std.proofs.lemmas.Bool.{lt-ltb, le-ltb, cases_lt}
use Rattle.http1_requests.specs.HeadEnd.{begins_empty_line, line_size, size_to_empty_line, head_size, Ends, cut_by, cut_at}
use Rattle.http1_requests.specs.PartGrowth.{GrowsCut}
use Rattle.http1_requests.proofs.GrowLemmas.{Stays, alone}

-- a size of at least one and at most k
abbrev pub Within : Option ℕ → ℕ → Type 0
Within None k = ⊤
Within (Some n) k = (0 < n) × (n ≤ k)

within_suc : (x : Option ℕ) (k : ℕ) → Within x k → Within (option_map suc x) (suc k)
within_suc None k h = tt
within_suc (Some n) k h = (omega arith, omega (arith, h.1))

-- a choice of two sizes
pub within_if : (t : Bool) (x y : Option ℕ) (k : ℕ) → Within x k → Within y k → Within (if t then x else y) k
within_if true x y k h g = h
within_if false x y k h g = g

-- a line has a byte at least, and at most all
pub line_size_within : (bytes : List ℕ) → Within (line_size bytes) (length bytes)
unfolding line_size
line_size_within [] = tt
line_size_within (b ∷ bytes) =
    within_if (b == 10) (Some 1) _ _ (omega arith, omega arith) (within_suc _ _ (line_size_within bytes))

two_within : (s t u : Bool) (y : Option ℕ) → Within y 2
    → Within (if s && (t || (u && false)) then Some (suc (if t then 1 else 2)) else y) 2
two_within true true u y h = (omega arith, omega arith)
two_within true false true y h = h
two_within true false false y h = h
two_within false t u y h = h

three_within : (t : Bool) (n : ℕ) → suc (if t then 1 else 2) ≤ suc (suc (suc n))
three_within true n = omega arith
three_within false n = omega arith

-- the same, through the first empty line behind a line
pub in_line_within : (bytes : List ℕ) → Within (size_to_empty_line bytes) (length bytes)
unfolding size_to_empty_line
in_line_within [] = tt
in_line_within (b ∷ []) = subst (λ (x : Option ℕ). Within x 1) (sym (alone b)) tt
in_line_within (b ∷ c ∷ []) = two_within (b == 10) (c == 10) (c == 13) _ (within_suc _ _ (in_line_within (c ∷ [])))
in_line_within (b ∷ c ∷ d ∷ bytes) =
    within_if (b == 10 && (c == 10 || (c == 13 && d == 10))) (Some (suc (if c == 10 then 1 else 2))) _ _
    (omega arith, three_within (c == 10) (length bytes)) (within_suc _ _ (in_line_within (c ∷ d ∷ bytes)))

-- a head has a byte at least, and at most all
pub head_size_within : (bytes : List ℕ) → Within (head_size bytes) (length bytes)
unfolding head_size
head_size_within [] = tt
head_size_within (b ∷ bytes) =
    within_if (begins_empty_line (b ∷ bytes)) _ _ _ (within_suc _ _ (head_size_within bytes))
    (in_line_within (b ∷ bytes))

same_cut : (n : ℕ) (bytes more : List ℕ) → n ≤ length bytes
    → cut_by (Some n) (bytes ++ more) ≡ Ends (take n bytes) (drop n bytes ++ more)
same_cut n bytes more fits = rw (take-append-le n bytes more fits, drop-append-le n bytes more fits) refl

found_cut : (x y : Option ℕ) (bytes more : List ℕ) → Stays x y → Within x (length bytes) → length bytes < 16384
    → GrowsCut (cut_by x bytes) (cut_by y (bytes ++ more)) more
found_cut None y bytes more stays within few = rw (lt-ltb _ _ few) tt
found_cut (Some n) y bytes more stays within few =
    ap (λ (z : Option ℕ). cut_by z (bytes ++ more)) (stays n refl) ∙ same_cut n bytes more within.1

full_cut : (x : Option ℕ) (bytes more : List ℕ) → Within x (length bytes) → 16384 ≤ length bytes
    → GrowsCut (cut_by x bytes) (cut_by x (bytes ++ more)) more
full_cut None bytes more within many =
    let still : 16384 ≤ length (bytes ++ more) = omega (arith, length-append bytes more, many) in
    rw (le-ltb _ _ many, le-ltb _ _ still) refl
full_cut (Some n) bytes more within many = same_cut n bytes more within.1

-- a size within the first bytes is one within all
pub within_take : (k : ℕ) (x : Option ℕ) (bytes : List ℕ) → Within x (length (take k bytes)) → Within x (length bytes)
within_take k None bytes h = tt
within_take k (Some n) bytes h = (h.0, omega (arith, h.1, length-take k bytes))

-- what is cut stays cut as more comes
pub cut_at_grows : (size : List ℕ → Option ℕ) → ((b m : List ℕ) → Stays (size b) (size (b ++ m)))
    → ((b : List ℕ) → Within (size b) (length b))
    → (bytes more : List ℕ) → GrowsCut (cut_at size bytes) (cut_at size (bytes ++ more)) more
cut_at_grows size grows within bytes more = by (cases_lt (length bytes) 16384)
  where
    by : (length bytes < 16384) ⊎ (16384 ≤ length bytes)
        → GrowsCut (cut_at size bytes) (cut_at size (bytes ++ more)) more
    by (inl few) =
        let there : length bytes + (16384 - length bytes) ≡ 16384 = omega (arith, few) in
        let longer : take 16384 (bytes ++ more) ≡ bytes ++ take (16384 - length bytes) more =
        ap (λ (n : ℕ). take n (bytes ++ more)) (sym there) ∙ take-append-add bytes more (16384 - length bytes) in
        rw (longer, take_all 16384 bytes (omega (arith, few)))
        (found_cut (size bytes) (size (bytes ++ take (16384 - length bytes) more)) bytes more
        (grows bytes (take (16384 - length bytes) more)) (within bytes) few)
    by (inr many) =
        rw (take-append-le 16384 bytes more many)
        (full_cut (size (take 16384 bytes)) bytes more
        (within_take 16384 (size (take 16384 bytes)) bytes (within (take 16384 bytes))) many)
