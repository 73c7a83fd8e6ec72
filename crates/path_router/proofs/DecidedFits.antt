-- Whether a template fits a path can be told (`each_request_has_a_choice`).
use Rattle.std.proofs.Common.{◌≡◌, ◌≢◌, ◌⊎◌, inl, inr, ◌++◌, ◌^◌, ℕ, Bool, true, false, List, [], ◌∷◌, length, Option, Some, None, IsSome, refl, sym, ap, ◌∙◌, subst}
use Rattle.std.proofs.Math.Decide.{dec_lt}
use Rattle.std.proofs.lemmas.Bool.{cases_eq}
use Rattle.std.proofs.lemmas.Slice.Eq.{bytes_eq-Decides}
use Rattle.std.specs.List.{AllByRecursion}
use Rattle.std.specs.Str.{bytes_eq}
use Rattle.http_rules.specs.Template.{IsTemplate, verb_text}
use Rattle.http_rules.specs.TemplateMatch.{Fits, IsPathSegment, shares, slashed}
use Rattle.http_rules.specs.declared.template.Segment.{Segment}
use Rattle.http_rules.specs.declared.template.Segment.TheVariants.{Literal, One, Rest}
use Rattle.http_rules.specs.declared.template.Template.{Template}
use Rattle.path_router.proofs.FitLemmas.{body_matches, body_taken}
use Rattle.path_router.proofs.PieceLemmas.{one_cutting}
use Rattle.path_router.proofs.ShareLemmas.{all_uncut}
use Rattle.path_router.specs.PathSegments.{FitsBody, IsUncut, TakeAll, TakeEach}

-- ---- facts

both_decided : {P Q : Type 0} → Dec P → Dec Q → Dec (P × Q)
both_decided (yes p) (yes q) = yes (p, q)
both_decided (yes p) (no n) = no (λ h. n h.1)
both_decided (no n) q = no (λ h. n h.0)

each_decided : {X : Type 0} (P : X → Type 0) → ((x : X) → Dec (P x)) → (xs : List X)
    → Dec (AllByRecursion P xs)
each_decided P d [] = yes tt
each_decided P d (x ∷ xs) = both_decided (d x) (each_decided P d xs)

-- two texts are one or are not
pub same_bytes : (a b : List ℕ) → Dec (a ≡ b)
same_bytes a b = pick (bytes_eq a b) refl
  where
    pick : (t : Bool) → t ≡ bytes_eq a b → Dec (a ≡ b)
    pick true e = yes ((bytes_eq-Decides a b).0 (sym e))
    pick false e = no (λ s. let yes : bytes_eq a b ≡ true = (bytes_eq-Decides a b).1 s in absurd (cc (yes, e)))

-- ---- pieces

no_slash : (b : ℕ) → Dec (b ≢ 47)
no_slash b = elim (cases_eq b 47) [ inl e ↦ no (λ n. n e) | inr n ↦ yes n ]

uncut_decided : (piece : List ℕ) → Dec (IsUncut piece)
uncut_decided piece = each_decided (λ b. b ≢ 47) no_slash piece

none_empty : (piece : List ℕ) → Dec (piece ≢ [])
none_empty [] = no (λ n. n refl)
none_empty (b ∷ bs) = yes (λ e. absurd (cc (e)))

segment_decided : (piece : List ℕ) → Dec (IsPathSegment piece)
segment_decided piece = both_decided (none_empty piece) (uncut_decided piece)

-- a text is a piece and then pieces behind slashes
record PiecesOf (text : List ℕ) : Type 0 where
  first : List ℕ
  others : List (List ℕ)
  uncut : IsUncut first
  all_uncut : AllByRecursion IsUncut others
  written : text ≡ first ++ slashed others

pieces_of : (text : List ℕ) → PiecesOf text
pieces_of [] = record { first = []; others = []; uncut = tt; all_uncut = tt; written = refl }
pieces_of (b ∷ text) =
    let r = pieces_of text in
    elim (cases_eq b 47) [
      | inl e ↦ record {
        first = [];
        others = r.first ∷ r.others;
        uncut = tt;
        all_uncut = (r.uncut, r.all_uncut);
        written = ap (λ z. b ∷ z) r.written ∙ ap (λ z. z ∷ (r.first ++ slashed r.others)) e;
      }
      | inr n ↦ record {
        first = b ∷ r.first;
        others = r.others;
        uncut = (n, r.uncut);
        all_uncut = r.all_uncut;
        written = ap (λ z. b ∷ z) r.written;
      }
    ]

-- a path is pieces behind slashes
record IsCutAs (path : List ℕ) : Type 0 where
  pieces : List (List ℕ)
  uncut : AllByRecursion IsUncut pieces
  written : path ≡ slashed pieces

cut_or_none : (path : List ℕ) → IsCutAs path ⊎ ((pieces : List (List ℕ)) → path ≡ slashed pieces → ⊥)
cut_or_none [] = inl (record { pieces = []; uncut = tt; written = refl })
cut_or_none (b ∷ text) =
    let r = pieces_of text in
    elim (cases_eq b 47) [
      | inl e ↦ inl (record {
        pieces = r.first ∷ r.others;
        uncut = (r.uncut, r.all_uncut);
        written = ap (λ z. b ∷ z) r.written ∙ ap (λ z. z ∷ (r.first ++ slashed r.others)) e;
      })
      | inr n ↦ inr (λ pieces w. starts n pieces w)
    ]
  where
    starts : b ≢ 47 → (pieces : List (List ℕ)) → b ∷ text ≡ slashed pieces → ⊥
    starts n [] w = absurd (cc (w))
    starts n (p ∷ ps) w = let e : b ≡ 47 = cc (w) in n e

-- ---- segments

each_taken : (ss : List Segment) (ps : List (List ℕ)) → Dec (TakeEach ss ps)
each_taken [] [] = yes tt
each_taken [] (p ∷ ps) = no (λ h. h)
each_taken (Rest ∷ ss) ps = each_decided IsPathSegment segment_decided ps
each_taken (Literal l ∷ ss) [] = no (λ h. h)
each_taken (Literal l ∷ ss) (p ∷ ps) =
    both_decided (both_decided (same_bytes p l) (uncut_decided p)) (each_taken ss ps)
each_taken (One ∷ ss) [] = no (λ h. h)
each_taken (One ∷ ss) (p ∷ ps) = both_decided (segment_decided p) (each_taken ss ps)

all_taken : (ss : List Segment) (path : List ℕ) → Dec (TakeAll ss path)
all_taken ss path =
    elim (cut_or_none path) [
      | inl cut ↦ elim (each_taken ss cut.pieces) [
        | yes t ↦ yes (cut.pieces, t, cut.written)
        | no n ↦
            no (λ h. n (subst (TakeEach ss)
            (sym (one_cutting cut.pieces h.0 cut.uncut (all_uncut ss h.0 h.1) (sym cut.written ∙ h.2))) h.1))
      ]
      | inr none ↦ no (λ h. none h.0 h.2)
    ]

-- ---- templates

-- a text ends with another, and this stands before it
abbrev EndsWith : List ℕ → List ℕ → Type 0
EndsWith path end = (body : List ℕ) × (path ≡ body ++ end)

ends_none : (end body : List ℕ) → [] ≢ end → [] ≡ body ++ end → ⊥
ends_none end [] n w = n w
ends_none end (c ∷ body) n w = absurd (cc (w))

ends_more : (b : ℕ) (text end body : List ℕ) → b ∷ text ≢ end → (EndsWith text end → ⊥) → b ∷ text ≡ body ++ end → ⊥
ends_more b text end [] n none w = n w
ends_more b text end (c ∷ body) n none w = let e : text ≡ body ++ end = cc (w) in none (body, e)

ends_decided : (path end : List ℕ) → Dec (EndsWith path end)
ends_decided [] end =
    elim (same_bytes [] end) [ yes e ↦ yes ([], e) | no n ↦ no (λ h. ends_none end h.0 n h.1) ]
ends_decided (b ∷ text) end =
    elim (same_bytes (b ∷ text) end) [
      | yes e ↦ yes ([], e)
      | no n ↦ elim (ends_decided text end) [
        | yes r ↦ yes (b ∷ r.0, ap (λ z. b ∷ z) r.1)
        | no none ↦ no (λ h. ends_more b text end h.0 n none h.1)
      ]
    ]

verb_decided : (verb : Option (List ℕ)) (body : List ℕ) → Dec (IsSome verb → body ≢ [])
verb_decided None body = yes (λ s. absurd (cc (s)))
verb_decided (Some v) body =
    elim (none_empty body) [ yes n ↦ yes (λ s. n) | no e ↦ no (λ h. e (h refl)) ]

-- a template fits a path or does not
pub fit_decided : (t : Template) (path : List ℕ) → IsTemplate t → Dec (Fits t path)
fit_decided t path is =
    elim (ends_decided path (verb_text t.verb)) [
      | yes r ↦ of_body r.0 r.1
      | no none ↦ no (λ f. none (slashed (shares f.1.taken), f.1.written))
    ]
  where
    of_body : (body : List ℕ) → path ≡ body ++ verb_text t.verb → Dec (Fits t path)
    of_body body w =
        elim (both_decided (dec_lt (length path) (2 ^ 32))
        (both_decided (verb_decided t.verb body) (all_taken t.segments body))) [
          | yes h ↦
              let f : FitsBody t path body =
              record { is_path = h.0; written = w; before_verb = h.1.0; taken = h.1.1 } in
              yes (_, body_matches t path body is f)
          | no n ↦ no (λ fits. let f = body_taken t path body is w fits in n (f.is_path, (f.before_verb, f.taken)))
        ]
