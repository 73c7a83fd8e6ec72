-- A template fits a path where its segments take the part before the verb.
use Rattle.std.proofs.Common.{◌≡◌, ◌↔◌, ◌++◌, ℕ, true, List, [], ◌∷◌, map, MatchOption, Option, Some, None, is_some, refl, sym, ap, ◌∙◌}
use Rattle.std.proofs.lemmas.List.{append_cancel_right}
use Rattle.http_rules.specs.Template.{IsTemplate, verb_text}
use Rattle.http_rules.specs.TemplateMatch.{Fits, Matches, shares, slashed, span_of}
use Rattle.http_rules.specs.declared.template.Template.{Template}
use Rattle.http_rules.proofs.Theorems.{literal_no_slash, segments_lawful}
use Rattle.path_router.specs.PathSegments.{FitsBody, shares_of}
use Rattle.path_router.proofs.ShareLemmas.{shares_taken, taken_shares, shares_back, rest_is_last}

no_bytes : (ps : List (List ℕ)) → slashed ps ≡ [] → ps ≡ []
no_bytes [] e = refl
no_bytes (p ∷ ps) e = absurd (cc (e))

-- where a template fits a path, its segments take the part before the verb
pub body_taken : (t : Template) (path body : List ℕ) → IsTemplate t → path ≡ body ++ verb_text t.verb → Fits t path
    → FitsBody t path body
body_taken t path body is w f =
    let m = f.1 in
    let same : body ≡ slashed (shares m.taken) =
    append_cancel_right body (slashed (shares m.taken)) (verb_text t.verb) (sym w ∙ m.written) in
    record {
      is_path = m.is_path;
      written = w;
      before_verb = λ v e. m.before_verb v (no_bytes (shares m.taken) (sym same ∙ e));
      taken = (
        shares m.taken,
        shares_taken literal_no_slash t.segments m.taken (rest_is_last t is) (segments_lawful is.text t is.means)
            m.each,
        same,
      );
    }

-- where the segments of a template take the part before the verb, it matches the path with their spans
pub body_matches : (t : Template) (path body : List ℕ) → IsTemplate t → (f : FitsBody t path body)
    → Matches t path (map (span_of (shares_of t.segments f.taken.0)) t.variables)
body_matches t path body is f =
    let ps = f.taken.0 in
    let back : shares (shares_of t.segments ps) ≡ ps = shares_back t.segments ps f.taken.1 in
    record {
      is_path = f.is_path;
      taken = shares_of t.segments ps;
      each = taken_shares t.segments ps (rest_is_last t is) f.taken.1;
      before_verb = λ v e. f.before_verb v (f.taken.2 ∙ ap slashed (sym back ∙ e));
      written = f.written ∙ ap (λ z. z ++ verb_text t.verb) (f.taken.2 ∙ ap slashed (sym back));
      spans_are = refl;
    }

-- what is told by a value that is there exactly where a fact holds
pub told_by : {X : Type 0} (P : Type 0) (Q : X → Type 0) → ((x : X) → Q x → P) → (o : Option X)
    → MatchOption o (P → ⊥) Q
    → (is_some o ≡ true) ↔ P
told_by P Q h None m = ((λ t. absurd (cc (t))), (λ p. absurd (m p)))
told_by P Q h (Some x) m = ((λ t. h x m), (λ p. refl))
