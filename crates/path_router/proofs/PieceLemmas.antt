-- A path is cut at its slashes in one way.
use Rattle.std.proofs.Common.{◌≡◌, ◌<◌, ◌≤◌, ◌+◌, ◌++◌, ℕ, zero, suc, List, [], ◌∷◌, length, take, drop, get_or, refl, sym, ap, ◌∙◌, subst, arith, length-append}
use Rattle.std.proofs.Math.Seq.{drop-append-add}
use Rattle.std.proofs.lemmas.List.{take_more}
use Rattle.std.specs.List.{AllByRecursion}
use Rattle.http_rules.specs.TemplateMatch.{slashed}
use Rattle.path_router.proofs.EndLemmas.{ended_at, one_end, tail_or_none}
use Rattle.path_router.specs.PathSegments.{IsUncut, IsAtCut, BeginsWith}

-- ---- where a piece ends

-- a piece ends at an offset where a slash stands or nothing follows
pub cut_at : (n : ℕ) (xs : List ℕ) (d : ℕ) → n ≤ length xs → (n < length xs → get_or xs n d ≡ 47) → IsAtCut (drop n xs)
cut_at = ended_at (λ b. b ≡ 47)

-- ---- one cut

-- two pieces at the front, each cut behind, are one
pub one_cut : (p q x y : List ℕ) → IsUncut p → IsUncut q → IsAtCut x → IsAtCut y → p ++ x ≡ q ++ y → (p ≡ q) × (x ≡ y)
one_cut = one_end (λ b. b ≡ 47)

slashed_cut : (ps : List (List ℕ)) → IsAtCut (slashed ps)
slashed_cut [] = tt
slashed_cut (p ∷ ps) = refl

-- the pieces of a path that begins with a piece
pub first_of : (path piece more p : List ℕ) (ps : List (List ℕ)) → BeginsWith path piece more → IsUncut p
    → path ≡ slashed (p ∷ ps) → (piece ≡ p) × (more ≡ slashed ps)
first_of path piece more p ps b n w =
    one_cut piece p more (slashed ps) b.uncut n b.cut (slashed_cut ps) (ap tail_or_none (sym b.written ∙ w))

-- a path that begins with two pieces begins with one
pub one_front : (path p q x y : List ℕ) → BeginsWith path p x → BeginsWith path q y → (p ≡ q) × (x ≡ y)
one_front path p q x y a b = one_cut p q x y a.uncut b.uncut a.cut b.cut (ap tail_or_none (sym a.written ∙ b.written))

-- a path has one list of pieces
pub one_cutting : (ps qs : List (List ℕ)) → AllByRecursion IsUncut ps → AllByRecursion IsUncut qs
    → slashed ps ≡ slashed qs → ps ≡ qs
one_cutting [] [] a b e = refl
one_cutting [] (q ∷ qs) a b e = absurd (cc (e))
one_cutting (p ∷ ps) [] a b e = absurd (cc (e))
one_cutting (p ∷ ps) (q ∷ qs) a b e =
    let r = one_cut p q (slashed ps) (slashed qs) a.0 b.0 (slashed_cut ps) (slashed_cut qs) (ap tail_or_none e) in
    ap (λ z. z ∷ ps) r.0 ∙ ap (λ z. q ∷ z) (one_cutting ps qs a.1 b.1 r.1)

-- ---- where a piece lies

dropped : (i : ℕ) (ps : List (List ℕ)) → drop (length (slashed (take i ps))) (slashed ps) ≡ slashed (drop i ps)
dropped zero ps = refl
dropped (suc i) [] = refl
dropped (suc i) (p ∷ ps) =
    ap (λ n. drop n (slashed (p ∷ ps))) (length-append (47 ∷ p) (slashed (take i ps)))
    ∙ drop-append-add (47 ∷ p) (slashed ps) (length (slashed (take i ps))) ∙ dropped i ps

front_at : (i : ℕ) (ps : List (List ℕ)) → AllByRecursion IsUncut ps → i < length ps
    → BeginsWith (slashed (drop i ps)) (get_or ps i []) (slashed (drop (suc i) ps))
front_at i [] a h = absurd (omega arith)
front_at zero (p ∷ ps) a h = record { written = refl; uncut = a.0; cut = slashed_cut ps }
front_at (suc i) (p ∷ ps) a h = front_at i ps a.1 (omega arith)

-- a path goes on with the piece of an index behind those before it
pub piece_at : (i : ℕ) (ps : List (List ℕ)) (path : List ℕ) → AllByRecursion IsUncut ps → path ≡ slashed ps
    → i < length ps
    → BeginsWith (drop (length (slashed (take i ps))) path) (get_or ps i []) (slashed (drop (i + 1) ps))
piece_at i ps path a w h =
    let on : suc i ≡ i + 1 = omega arith in
    let at : drop (length (slashed (take i ps))) path ≡ slashed (drop i ps) =
    ap (drop (length (slashed (take i ps)))) w ∙ dropped i ps in
    subst (λ z. BeginsWith z (get_or ps i []) (slashed (drop (i + 1) ps))) (sym at)
    (subst (λ k. BeginsWith (slashed (drop i ps)) (get_or ps i []) (slashed (drop k ps))) on (front_at i ps a h))

-- the length of the texts of joined pieces
pub slashed_joined : (ps qs : List (List ℕ)) → length (slashed (ps ++ qs)) ≡ length (slashed ps) + length (slashed qs)
slashed_joined [] qs = omega arith
slashed_joined (p ∷ ps) qs =
    omega (
      arith,
      length-append (47 ∷ p) (slashed (ps ++ qs)),
      length-append (47 ∷ p) (slashed ps),
      slashed_joined ps qs,
    )

-- one piece more ends behind its slash and its bytes
pub end_more : (i : ℕ) (ps : List (List ℕ)) → i < length ps
    → length (slashed (take (i + 1) ps)) ≡ length (slashed (take i ps)) + 1 + length (get_or ps i [])
end_more i ps h =
    let own = get_or ps i [] in
    omega (
      arith,
      ap (λ z. length (slashed z)) (take_more ps i [] h),
      slashed_joined (take i ps) (own ∷ []),
      length-append (47 ∷ own) [],
    )
