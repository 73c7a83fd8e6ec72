-- Segments take the pieces of a path one by one.
use Rattle.std.proofs.Common.{◌≡◌, ◌<◌, ◌↔◌, ◌++◌, ◌==◌, ℕ, Bool, true, List, [], ◌∷◌, length, refl, ap, ◌∙◌, arith, length-append}
use Rattle.std.proofs.lemmas.Bool.Decides.{nat_tests}
use Rattle.std.specs.List.{AllByRecursion}
use Rattle.http_rules.specs.TemplateMatch.{IsPathSegment, slashed}
use Rattle.http_rules.specs.declared.template.Segment.{Segment}
use Rattle.http_rules.specs.declared.template.Segment.TheVariants.{Literal, One, Rest}
use Rattle.path_router.specs.PathSegments.{IsUncut, BeginsWith, TakesFront, TakeEach, TakeAll}
use Rattle.path_router.proofs.PieceLemmas.{first_of}

-- what follows a piece is shorter than the path
pub front_shorter : (s : Segment) (path more : List ℕ) → TakesFront s path more → length more < length path
front_shorter s path more t =
    let b = t.1 in
    omega (arith, ap length b.written, length-append t.0 more)

-- a path goes on behind its first piece
on_behind : (p : List ℕ) (ps : List (List ℕ)) (path : List ℕ) → IsUncut p → path ≡ slashed (p ∷ ps)
    → BeginsWith path p (slashed ps)
on_behind p [] path u w = record { written = w; uncut = u; cut = tt }
on_behind p (q ∷ ps) path u w = record { written = w; uncut = u; cut = refl }

-- where a segment takes the first piece, the others take what follows
pub taken_on : (s : Segment) (ss : List Segment) (path more : List ℕ) → TakesFront s path more → TakeAll ss more
    ↔ TakeAll (s ∷ ss) path
taken_on (Literal l) ss path more t = (
  (λ h. (t.0 ∷ h.0, ((t.2, t.1.uncut), h.1), t.1.written ∙ ap (λ z. 47 ∷ (t.0 ++ z)) h.2)),
  (λ h. back h.0 h.1 h.2),
)
  where
    back : (ps : List (List ℕ)) → TakeEach (Literal l ∷ ss) ps → path ≡ slashed ps → TakeAll ss more
    back [] e w = absurd e
    back (p ∷ ps) e w = (ps, e.1, (first_of path t.0 more p ps t.1 e.0.1 w).1)
taken_on One ss path more t = (
  (λ h. (t.0 ∷ h.0, ((t.2, t.1.uncut), h.1), t.1.written ∙ ap (λ z. 47 ∷ (t.0 ++ z)) h.2)),
  (λ h. back h.0 h.1 h.2),
)
  where
    back : (ps : List (List ℕ)) → TakeEach (One ∷ ss) ps → path ≡ slashed ps → TakeAll ss more
    back [] e w = absurd e
    back (p ∷ ps) e w = (ps, e.1, (first_of path t.0 more p ps t.1 e.0.1 w).1)
taken_on Rest ss path more t = absurd t.2

-- segments take all pieces of a path only where the first takes the first, or is `**`
pub front_taken : (s : Segment) (ss : List Segment) (path : List ℕ) → (s ≡ Rest → ⊥)
    → ((more : List ℕ) → TakesFront s path more → ⊥) → TakeAll (s ∷ ss) path → ⊥
front_taken (Literal l) ss path r none h = on h.0 h.1 h.2
  where
    on : (ps : List (List ℕ)) → TakeEach (Literal l ∷ ss) ps → path ≡ slashed ps → ⊥
    on [] e w = absurd e
    on (p ∷ ps) e w = none (slashed ps) (p, on_behind p ps path e.0.1 w, e.0.0)
front_taken One ss path r none h = on h.0 h.1 h.2
  where
    on : (ps : List (List ℕ)) → TakeEach (One ∷ ss) ps → path ≡ slashed ps → ⊥
    on [] e w = absurd e
    on (p ∷ ps) e w = none (slashed ps) (p, on_behind p ps path e.0.1 w, e.0.0)
front_taken Rest ss path r none h = r refl

-- no segments take the empty path alone
pub none_left : (path : List ℕ) → TakeAll [] path ↔ (path ≡ [])
none_left path = ((λ h. on h.0 h.1 h.2), (λ e. ([], tt, e)))
  where
    on : (ps : List (List ℕ)) → TakeEach [] ps → path ≡ slashed ps → path ≡ []
    on [] e w = w
    on (p ∷ ps) e w = absurd e

-- a path is pieces of which none is empty
abbrev pub AreFull : List ℕ → Type 0
AreFull path = (pieces : List (List ℕ)) × AllByRecursion IsPathSegment pieces × (path ≡ slashed pieces)

-- the pieces behind the first are full where all are
pub full_on : (path more : List ℕ) → TakesFront One path more → AreFull more ↔ AreFull path
full_on path more t = (
  (λ h. (t.0 ∷ h.0, ((t.2, t.1.uncut), h.1), t.1.written ∙ ap (λ z. 47 ∷ (t.0 ++ z)) h.2)),
  (λ h. back h.0 h.1 h.2),
)
  where
    back : (ps : List (List ℕ)) → AllByRecursion IsPathSegment ps → path ≡ slashed ps → AreFull more
    back [] e w = absurd (cc (t.1.written, w))
    back (p ∷ ps) e w = (ps, e.1, (first_of path t.0 more p ps t.1 e.0.1 w).1)

-- where no full piece stands in front, the pieces are full where there are none
pub full_end : (path : List ℕ) → ((more : List ℕ) → TakesFront One path more → ⊥) → (path ≡ []) ↔ AreFull path
full_end path none = ((λ e. ([], tt, e)), (λ h. back h.0 h.1 h.2))
  where
    back : (ps : List (List ℕ)) → AllByRecursion IsPathSegment ps → path ≡ slashed ps → path ≡ []
    back [] e w = w
    back (p ∷ ps) e w = absurd (none (slashed ps) (p, on_behind p ps path e.0.1 w, e.0.0))

-- a test of the length tells whether there is a byte
pub none_tested : (xs : List ℕ) (b : Bool) → b ≡ (length xs == 0) → (b ≡ true) ↔ (xs ≡ [])
none_tested [] b e = ((λ t. refl), (λ n. e))
none_tested (x ∷ xs) b e = ((λ t. absurd (grind (arith, nat_tests, e, t))), (λ n. absurd (cc (n))))
