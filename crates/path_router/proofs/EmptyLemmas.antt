-- No segment of a path that a template fits is empty.
use Rattle.std.proofs.Common.{◌≡◌, ◌≢◌, ◌++◌, ℕ, List, [], ◌∷◌, codes, Option, Some, None, refl, sym, ◌∙◌, subst, arith, append_assoc}
use Rattle.std.proofs.lemmas.List.{append-nil, append_cancel_right}
use Rattle.std.specs.List.{AllByRecursion}
use Rattle.base.proofs.EachLemmas.{each_joined}
use Rattle.http_rules.proofs.Theorems.{literal_no_slash, segments_lawful}
use Rattle.http_rules.specs.Template.{IsLiteral, IsSegment, IsTemplate, IsVerb, verb_text}
use Rattle.http_rules.specs.TemplateMatch.{EachTakes, Fits, IsPathSegment, Takes, shares, slashed}
use Rattle.http_rules.specs.declared.template.Segment.{Segment}
use Rattle.http_rules.specs.declared.template.Segment.TheVariants.{Literal, One, Rest}
use Rattle.http_rules.specs.declared.template.Template.{Template}
use Rattle.path_router.specs.PathSegments.{IsUncut}

-- ---- what a template takes has no empty piece

-- a literal is a full segment
pub literal_full : (l : List ℕ) → IsLiteral l → IsPathSegment l
literal_full [] h = absurd h
literal_full (b ∷ l) h = ((λ e. absurd (cc (e))), literal_no_slash (b ∷ l) h)

share_full : (s : Segment) (x : List (List ℕ)) → IsSegment s → Takes s x → AllByRecursion IsPathSegment x
share_full (Literal l) x is h = subst (AllByRecursion IsPathSegment) (sym h) (literal_full l is, tt)
share_full One x is h = subst (AllByRecursion IsPathSegment) (sym h.2) (h.1, tt)
share_full Rest x is h = h

shares_full : (ss : List Segment) (xs : List (List (List ℕ))) → AllByRecursion IsSegment ss → EachTakes ss xs
    → AllByRecursion IsPathSegment (shares xs)
shares_full [] [] a h = tt
shares_full [] (x ∷ xs) a h = absurd h
shares_full (s ∷ ss) [] a h = absurd h
shares_full (s ∷ ss) (x ∷ xs) a h =
    each_joined IsPathSegment x (shares xs) (share_full s x a.0 h.0) (shares_full ss xs a.1 h.1)

-- ---- behind each slash stands a byte that is no slash

-- a byte that is no slash stands here
abbrev GoesOn : List ℕ → Type 0
GoesOn [] = ⊥
GoesOn (b ∷ bs) = b ≢ 47

-- behind each slash stands a byte that is no slash
abbrev AreApart : List ℕ → Type 0
AreApart [] = Unit {0}
AreApart (b ∷ bs) = (b ≡ 47 → GoesOn bs) × AreApart bs

apart_behind : (p more : List ℕ) → IsUncut p → AreApart more → AreApart (p ++ more)
apart_behind [] more u a = a
apart_behind (b ∷ p) more u a = ((λ e. absurd (u.0 e)), apart_behind p more u.1 a)

goes_on : (p more : List ℕ) → IsPathSegment p → GoesOn (p ++ more)
goes_on [] more f = absurd (f.0 refl)
goes_on (b ∷ p) more f = f.1.0

pieces_apart : (ps : List (List ℕ)) (more : List ℕ) → AllByRecursion IsPathSegment ps → AreApart more
    → AreApart (slashed ps ++ more)
pieces_apart [] more a m = m
pieces_apart (p ∷ ps) more a m =
    subst (λ z. AreApart (47 ∷ z)) (sym (append_assoc p (slashed ps) more)) (
      (λ _. goes_on p (slashed ps ++ more) a.0),
      apart_behind p (slashed ps ++ more) a.0.1 (pieces_apart ps more a.1 m),
    )

no_two : (front back : List ℕ) → AreApart (front ++ codes "//" ++ back) → ⊥
no_two [] back a = a.0 refl refl
no_two (b ∷ front) back a = no_two front back a.1

none_last : (front : List ℕ) → AreApart (front ++ codes "/") → ⊥
none_last [] a = a.0 refl
none_last (b ∷ front) a = none_last front a.1

verb_apart : (v : Option (List ℕ)) → IsVerb v → AreApart (verb_text v)
verb_apart None is = tt
verb_apart (Some l) is =
    ((λ e. absurd (omega (arith, e))), subst AreApart (append-nil l) (apart_behind l [] (literal_no_slash l is) tt))

-- ---- of a path that a template fits

-- a path that a template fits has no two slashes in a row
pub no_two_slashes : (t : Template) (path front back : List ℕ) → IsTemplate t → Fits t path
    → path ≡ front ++ codes "//" ++ back → ⊥
no_two_slashes t path front back is f e =
    let m = f.1 in
    let full = shares_full t.segments m.taken (segments_lawful is.text t is.means) m.each in
    no_two front back
    (subst AreApart (sym m.written ∙ e)
    (pieces_apart (shares m.taken) (verb_text t.verb) full (verb_apart t.verb is.means.verb)))

-- what stands before the verb does not end in a slash
pub no_slash_last : (t : Template) (path front : List ℕ) → IsTemplate t → Fits t path
    → path ≡ front ++ codes "/" ++ verb_text t.verb → ⊥
no_slash_last t path front is f e =
    let m = f.1 in
    let full = shares_full t.segments m.taken (segments_lawful is.text t is.means) m.each in
    let body : slashed (shares m.taken) ≡ front ++ codes "/" =
    append_cancel_right (slashed (shares m.taken)) (front ++ codes "/") (verb_text t.verb)
    (sym m.written ∙ e) in
    none_last front
    (subst AreApart (append-nil (slashed (shares m.taken)) ∙ body) (pieces_apart (shares m.taken) [] full tt))
