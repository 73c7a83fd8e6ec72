-- Literals of a template that fits a path.
use Rattle.std.proofs.Common.{◌≡◌, ◌≢◌, ℕ, zero, suc, List, [], ◌∷◌, ◌++◌, Some, ◌↔◌, refl, sym, ap, ◌∙◌, subst}
use Rattle.std.specs.Prelude.{slice_get, map}
use Rattle.http_rules.specs.declared.template.Segment.{Segment}
use Rattle.http_rules.specs.declared.template.Segment.TheVariants.{Literal, One, Rest}
use Rattle.http_rules.specs.declared.template.Template.{Template}
use Rattle.http_rules.specs.Template.{verb_text}
use Rattle.http_rules.specs.TemplateText.{slashed_segments}
use Rattle.http_rules.specs.TemplateMatch.{IsPath, slashed, Takes, EachTakes, shares, span_of, Matches, Fits, AreLiterals}

share_of : (ss : List Segment) (taken : List (List (List ℕ))) (i : ℕ) (l : List ℕ) → EachTakes ss taken → slice_get ss i ≡ Some (Literal l) → slice_get taken i ≡ Some (l ∷ [])
share_of [] taken i l h e = absurd (cc)
share_of (s ∷ ss) [] i l h e = absurd h
share_of (s ∷ ss) (x ∷ xs) zero l h e = let same : s ≡ Literal l = cc in let taken : x ≡ l ∷ [] = subst (λ z. Takes z x) same h.0 in ap Some taken
share_of (s ∷ ss) (x ∷ xs) (suc i) l h e = share_of ss xs i l h.1 e

-- a literal's share is its bytes
pub literal_share : (t : Template) (path : List ℕ) (spans : List (ℕ × ℕ)) (m : Matches t path spans) (i : ℕ) (l : List ℕ) → slice_get t.segments i ≡ Some (Literal l) → slice_get m.taken i ≡ Some (l ∷ [])
literal_share t path spans m i l e = share_of t.segments m.taken i l m.each e

literal_text : (ss : List Segment) (taken : List (List (List ℕ))) → AreLiterals ss → EachTakes ss taken → slashed (shares taken) ≡ slashed_segments ss
literal_text [] [] a h = refl
literal_text [] (x ∷ xs) a h = absurd h
literal_text (s ∷ ss) [] a h = absurd h
literal_text (Literal l ∷ ss) (x ∷ xs) a h = ap (λ z. slashed (z ++ shares xs)) h.0 ∙ ap (λ z. 47 ∷ (l ++ z)) (literal_text ss xs a h.1)
literal_text (One ∷ ss) (x ∷ xs) a h = absurd a
literal_text (Rest ∷ ss) (x ∷ xs) a h = absurd a

-- each literal takes its bytes
abbrev own_shares : List Segment → List (List (List ℕ))
own_shares [] = []
own_shares (Literal l ∷ ss) = (l ∷ []) ∷ own_shares ss
own_shares (One ∷ ss) = [] ∷ own_shares ss
own_shares (Rest ∷ ss) = [] ∷ own_shares ss

own_takes : (ss : List Segment) → AreLiterals ss → EachTakes ss (own_shares ss)
own_takes [] a = tt
own_takes (Literal l ∷ ss) a = (refl, own_takes ss a)
own_takes (One ∷ ss) a = absurd a
own_takes (Rest ∷ ss) a = absurd a

some_shares : (ss : List Segment) → AreLiterals ss → ss ≢ [] → shares (own_shares ss) ≢ []
some_shares [] a n e = n refl
some_shares (Literal l ∷ ss) a n e = absurd (cc (e))
some_shares (One ∷ ss) a n e = absurd a
some_shares (Rest ∷ ss) a n e = absurd a

-- a template without wildcards fits its own text, and no other path
pub literals_exact : (t : Template) (path : List ℕ) → t.segments ≢ [] → AreLiterals t.segments → IsPath path → Fits t path ↔ (path ≡ slashed_segments t.segments ++ verb_text t.verb)
literals_exact t path n a is = (
  (λ f. let m = f.1 in m.written ∙ ap (λ z. z ++ verb_text t.verb) (literal_text t.segments m.taken a m.each)),
  (λ e. (
    map (span_of (own_shares t.segments)) t.variables,
    record {
      is_path = is;
      taken = own_shares t.segments;
      each = own_takes t.segments a;
      before_verb = λ _. some_shares t.segments a n;
      written = e ∙ ap (λ z. z ++ verb_text t.verb) (sym (literal_text t.segments (own_shares t.segments) a (own_takes t.segments a)));
      spans_are = refl;
    },
  )),
)
