-- What segments take of pieces is what they take of a path that the template fits, and where the spans lie.
use Rattle.std.proofs.Common.{◌≡◌, ◌≢◌, ◌<◌, ◌≤◌, ◌+◌, ◌-◌, ◌++◌, inl, inr, min, ℕ, zero, suc, List, [], ◌∷◌, length, take, drop, refl, sym, ap, ◌∙◌, subst, arith, append_assoc, length-append}
use Rattle.std.proofs.lemmas.List.{append-nil, length-take-le, take_all}
use Rattle.std.proofs.lemmas.Bool.{cases_lt}
use Rattle.std.specs.List.{AllByRecursion}
use Rattle.base.proofs.EachLemmas.{each_weaker}
use Rattle.http_rules.specs.Template.{IsLiteral, IsSegment, IsRestLast, IsTemplate}
use Rattle.http_rules.specs.TemplateMatch.{EachTakes, IsPathSegment, shares, slashed, span_between, span_of}
use Rattle.http_rules.specs.declared.template.Segment.{Segment}
use Rattle.http_rules.specs.declared.template.Segment.TheVariants.{Literal, One, Rest}
use Rattle.http_rules.specs.declared.template.Template.{Template}
use Rattle.http_rules.specs.declared.template.Variable.{Variable}
use Rattle.path_router.proofs.PieceLemmas.{slashed_joined}
use Rattle.path_router.specs.PathSegments.{IsUncut, TakeEach, shares_of}

-- literals are cut nowhere
abbrev pub LiteralsUncut : Type 0
LiteralsUncut = (l : List ℕ) → IsLiteral l → AllByRecursion (λ b. b ≢ 47) l

-- ---- two ways to say what segments take

none_taken : (ss : List Segment) (xs : List (List (List ℕ))) → ss ≡ [] → EachTakes ss xs → shares xs ≡ []
none_taken [] [] e h = refl
none_taken [] (x ∷ xs) e h = absurd h
none_taken (s ∷ ss) xs e h = absurd (cc (e))

-- what each segment takes of a path is taken piece by piece
pub shares_taken : LiteralsUncut → (ss : List Segment) (xs : List (List (List ℕ))) → IsRestLast ss
    → AllByRecursion IsSegment ss → EachTakes ss xs → TakeEach ss (shares xs)
shares_taken law [] [] r a h = tt
shares_taken law [] (x ∷ xs) r a h = absurd h
shares_taken law (s ∷ ss) [] r a h = absurd h
shares_taken law (Literal l ∷ ss) (x ∷ xs) r a h =
    subst (λ z. TakeEach (Literal l ∷ ss) (z ++ shares xs)) (sym h.0)
    ((refl, law l a.0), shares_taken law ss xs r.1 a.1 h.1)
shares_taken law (One ∷ ss) (x ∷ xs) r a h =
    subst (λ z. TakeEach (One ∷ ss) (z ++ shares xs)) (sym h.0.2) (h.0.1, shares_taken law ss xs r.1 a.1 h.1)
shares_taken law (Rest ∷ ss) (x ∷ xs) r a h =
    subst (AllByRecursion IsPathSegment) (sym (ap (λ z. x ++ z) (none_taken ss xs r.0 h.1) ∙ append-nil x)) h.0

-- what is taken piece by piece is what each segment takes of a path
pub taken_shares : (ss : List Segment) (ps : List (List ℕ)) → IsRestLast ss → TakeEach ss ps
    → EachTakes ss (shares_of ss ps)
taken_shares [] [] r h = tt
taken_shares [] (p ∷ ps) r h = absurd h
taken_shares (Literal l ∷ ss) [] r h = absurd h
taken_shares (Literal l ∷ ss) (p ∷ ps) r h = (ap (λ z. z ∷ []) h.0.0, taken_shares ss ps r.1 h.1)
taken_shares (One ∷ ss) [] r h = absurd h
taken_shares (One ∷ ss) (p ∷ ps) r h = ((p, h.0, refl), taken_shares ss ps r.1 h.1)
taken_shares (Rest ∷ ss) ps r h = subst (λ z. EachTakes (Rest ∷ z) (ps ∷ [])) (sym r.0) (h, tt)

-- the shares are the pieces
pub shares_back : (ss : List Segment) (ps : List (List ℕ)) → TakeEach ss ps → shares (shares_of ss ps) ≡ ps
shares_back [] [] h = refl
shares_back [] (p ∷ ps) h = absurd h
shares_back (Literal l ∷ ss) [] h = absurd h
shares_back (Literal l ∷ ss) (p ∷ ps) h = ap (λ z. p ∷ z) (shares_back ss ps h.1)
shares_back (One ∷ ss) [] h = absurd h
shares_back (One ∷ ss) (p ∷ ps) h = ap (λ z. p ∷ z) (shares_back ss ps h.1)
shares_back (Rest ∷ ss) ps h = append-nil ps

-- no piece has a slash
pub all_uncut : (ss : List Segment) (ps : List (List ℕ)) → TakeEach ss ps → AllByRecursion IsUncut ps
all_uncut [] [] h = tt
all_uncut [] (p ∷ ps) h = absurd h
all_uncut (Literal l ∷ ss) [] h = absurd h
all_uncut (Literal l ∷ ss) (p ∷ ps) h = (h.0.1, all_uncut ss ps h.1)
all_uncut (One ∷ ss) [] h = absurd h
all_uncut (One ∷ ss) (p ∷ ps) h = (h.0.1, all_uncut ss ps h.1)
all_uncut (Rest ∷ ss) ps h = each_weaker IsPathSegment IsUncut (λ p f. f.1) ps h

-- ---- where the shares of the first segments end

ends_there : (ss : List Segment) → ss ≡ [] → (k : ℕ) → suc k < suc (length ss) → ⊥
ends_there [] e k h = omega arith
ends_there (s ∷ ss) e k h = absurd (cc (e))

-- the first segments, not all, take one piece each
pub shares_front : (ss : List Segment) (ps : List (List ℕ)) (k : ℕ) → IsRestLast ss → TakeEach ss ps → k < length ss
    → (shares (take k (shares_of ss ps)) ≡ take k ps) × (k ≤ length ps)
shares_front [] ps k r h l = absurd (omega arith)
shares_front (s ∷ ss) ps zero r h l = (refl, omega arith)
shares_front (Literal l ∷ ss) [] (suc k) r h less = absurd h
shares_front (Literal l ∷ ss) (p ∷ ps) (suc k) r h less = let on = shares_front ss ps k r.1 h.1 (omega arith) in
    (ap (λ z. p ∷ z) on.0, omega (arith, on.1))
shares_front (One ∷ ss) [] (suc k) r h less = absurd h
shares_front (One ∷ ss) (p ∷ ps) (suc k) r h less = let on = shares_front ss ps k r.1 h.1 (omega arith) in
    (ap (λ z. p ∷ z) on.0, omega (arith, on.1))
shares_front (Rest ∷ ss) ps (suc k) r h less = absurd (ends_there ss r.0 k less)

-- there is one share for each segment
pub share_each : (ss : List Segment) (ps : List (List ℕ)) → IsRestLast ss → TakeEach ss ps
    → length (shares_of ss ps) ≡ length ss
share_each [] [] r h = refl
share_each [] (p ∷ ps) r h = absurd h
share_each (Literal l ∷ ss) [] r h = absurd h
share_each (Literal l ∷ ss) (p ∷ ps) r h = ap suc (share_each ss ps r.1 h.1)
share_each (One ∷ ss) [] r h = absurd h
share_each (One ∷ ss) (p ∷ ps) r h = ap suc (share_each ss ps r.1 h.1)
share_each (Rest ∷ ss) ps r h = sym (ap (λ (z : List Segment). suc (length z)) r.0)

-- ---- spans

nothing : (k : ℕ) → [] ≡ shares (take k [])
nothing zero = refl
nothing (suc k) = refl

shares_split : (from to : ℕ) (xs : List (List (List ℕ))) → from ≤ to
    → shares (take to xs) ≡ shares (take from xs) ++ shares (take (to - from) (drop from xs))
shares_split zero to xs h = ap (λ k. shares (take k xs)) (let e : to ≡ to - 0 = omega arith in e)
shares_split (suc from) zero xs h = absurd (omega arith)
shares_split (suc from) (suc to) [] h = nothing (suc to - suc from)
shares_split (suc from) (suc to) (x ∷ xs) h =
    let less : to - from ≡ suc to - suc from = omega arith in
    ap (λ z. x ++ z)
    (shares_split from to xs (omega arith) ∙ ap (λ k. shares (take from xs) ++ shares (take k (drop from xs))) less)
    ∙ sym (append_assoc x (shares (take from xs)) (shares (take (suc to - suc from) (drop from xs))))

-- a span is told by the ends of what stands before it and of what it takes
between : (before own : List (List ℕ)) (end : ℕ) → (own ≡ [] → length (slashed before) ≡ end)
    → span_between before own
    end ≡ (min (length (slashed before) + 1) (length (slashed (before ++ own))), length (slashed (before ++ own)))
between before [] end h =
    let e : length (slashed before) ≡ end = h refl in
    let same : length (slashed (before ++ [])) ≡ end = ap (λ z. length (slashed z)) (append-nil before) ∙ e in
    let low : end ≡ min (length (slashed before) + 1) (length (slashed (before ++ []))) = omega (arith, e, same) in
    ap (λ z. (z, end)) low
    ∙ ap (λ z. (min (length (slashed before) + 1) (length (slashed (before ++ []))), z)) (sym same)
between before (s ∷ ss) end h =
    let all = length (slashed (before ++ s ∷ ss)) in
    let more : length (slashed before) + 1 ≤ all =
    omega (arith, slashed_joined before (s ∷ ss), length-append (47 ∷ s) (slashed ss)) in
    let low : length (slashed before) + 1 ≡ min (length (slashed before) + 1) all = omega (arith, more) in
    ap (λ z. (z, all)) low

-- what a variable takes of the pieces goes from behind the slash of its first piece to the end of its last one
pub span_is : (ss : List Segment) (ps : List (List ℕ)) (v : Variable) → IsRestLast ss → TakeEach ss ps → v.from < v.to
    → v.to ≤ length ss → (from to : ℕ)
    → from ≡ length (slashed (take v.from ps)) → (v.to < length ss → to ≡ length (slashed (take v.to ps)))
    → (length ss ≤ v.to → to ≡ length (slashed ps))
    → (min (from + 1) to, to) ≡ span_of (shares_of ss ps) v
span_is ss ps v r h some within from to from_is inner last =
    let xs = shares_of ss ps in
    let before = shares (take v.from xs) in
    let own = shares (take (v.to - v.from) (drop v.from xs)) in
    let front = shares_front ss ps v.from r h (omega (arith, some, within)) in
    let start : from ≡ length (slashed before) = from_is ∙ ap (λ z. length (slashed z)) (sym front.0) in
    let split : shares (take v.to xs) ≡ before ++ own = shares_split v.from v.to xs (omega (arith, some)) in
    let all : length ss ≤ v.to → shares (take v.to xs) ≡ ps =
    λ l. ap shares (take_all v.to xs (omega (arith, share_each ss ps r h, l))) ∙ shares_back ss ps h in
    let stop : to ≡ length (slashed (before ++ own)) =
    elim (cases_lt v.to (length ss)) [
      | inl less ↦ inner less ∙ ap (λ z. length (slashed z)) (sym (shares_front ss ps v.to r h less).0 ∙ split)
      | inr more ↦ last more ∙ ap (λ z. length (slashed z)) (sym (all more) ∙ split)
    ] in
    let end : own ≡ [] → length (slashed before) ≡ length (slashed (shares xs)) = λ e.
    let same : shares (take v.to xs) ≡ before = split ∙ ap (λ z. before ++ z) e ∙ append-nil before in
    elim (cases_lt v.to (length ss)) [
      | inl less ↦
          let there = shares_front ss ps v.to r h less in
          let lengths : length (take v.to ps) ≡ length (take v.from ps) = ap length (sym there.0 ∙ same ∙ front.0) in
          absurd (omega (arith, lengths, length-take-le v.to ps there.1, length-take-le v.from ps front.1, some))
      | inr more ↦ ap (λ z. length (slashed z)) (sym same ∙ all more ∙ sym (shares_back ss ps h))
    ] in
    ap (λ z. (min (z + 1) to, to)) start ∙ ap (λ z. (min (length (slashed before) + 1) z, z)) stop
    ∙ sym (between before own (length (slashed (shares xs))) end)

-- `**` stands last in a template
pub rest_is_last : (t : Template) → IsTemplate t → IsRestLast t.segments
rest_is_last t is = subst IsRestLast (sym (ap (λ (x : Template). x.segments) is.means.means)) is.means.rest_last
