-- How line feeds are counted, and where a part that ends is cut off, for the crates above.
use Rattle.std.proofs.Common.{◌≡◌, ℕ, ◌+◌, ◌-◌, ◌≤◌, Bool, false, ◌==◌, List, ◌∷◌, ◌++◌, length, take, cond, refl, sym, ap, ◌∙◌, arith, Option, Some}
use Rattle.std.proofs.Math.Seq.{take-append-add, take-append_seam, drop-append_seam}
use Rattle.std.proofs.lemmas.List.Sums.{sum_by-cons, sum_by-append}
use Rattle.http1_requests.specs.HeadEnd.{line_feeds, Cut, Ends, cut_by, cut_at}

-- line feeds of two parts
pub line_feeds-append : (a b : List ℕ) → line_feeds (a ++ b) ≡ line_feeds a + line_feeds b
line_feeds-append a b = sum_by-append (λ x. cond (x == 10) 1 0) a b

-- one byte in front
pub line_feeds-cons : (b : ℕ) (w : List ℕ) → line_feeds (b ∷ w) ≡ cond (b == 10) 1 0 + line_feeds w
line_feeds-cons b w = sum_by-cons (λ x. cond (x == 10) 1 0) b w

zero_plus : (n : ℕ) → 0 + n ≡ n
zero_plus n = omega arith

-- a byte in front that is none
pub line_feeds_other : (b : ℕ) (w : List ℕ) → (b == 10) ≡ false → line_feeds (b ∷ w) ≡ line_feeds w
line_feeds_other b w e = line_feeds-cons b w ∙ ap (λ (t : Bool). cond t 1 0 + line_feeds w) e ∙ zero_plus (line_feeds w)

-- equal cuts have equal parts
pub same_ends : (a b c d : List ℕ) → ◌≡◌ {A = Cut} (Ends a b) (Ends c d) → (a ≡ c) × (b ≡ d)
same_ends a b c d e = (cc, cc)

-- a part that ends with its last byte, whatever follows, is cut off there
pub cut_at_end : (size : List ℕ → Option ℕ) (part : List ℕ)
    → ((more : List ℕ) → size (part ++ more) ≡ Some (length part)) → length part ≤ 16384
    → (rest : List ℕ) → cut_at size (part ++ rest) ≡ Ends part rest
cut_at_end size part ends fits rest =
    let there : length part + (16384 - length part) ≡ 16384 = omega (arith, fits) in
    let front : take 16384 (part ++ rest) ≡ part ++ take (16384 - length part) rest =
    ap (λ (n : ℕ). take n (part ++ rest)) (sym there) ∙ take-append-add part rest (16384 - length part) in
    ap (λ (t : List ℕ). cut_by (size t) (part ++ rest)) front
    ∙ ap (λ (x : Option ℕ). cut_by x (part ++ rest)) (ends (take (16384 - length part) rest))
    ∙ rw (take-append_seam part rest, drop-append_seam part rest) refl
