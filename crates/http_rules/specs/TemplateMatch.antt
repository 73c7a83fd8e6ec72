-- Which paths a template fits, and what each variable takes (google/api/http.proto, path template syntax).
use Rattle.std.specs.Prelude.{◌≡◌, ◌≢◌, ◌<◌, ◌≤◌, ◌^◌, ℕ, ◌+◌, ◌-◌, List, [], ◌∷◌, ◌++◌, length, map, take, drop, IsSome}
use Rattle.std.specs.List.{AllByRecursion, flat_map}
use Rattle.http_rules.specs.declared.template.Segment.{Segment}
use Rattle.http_rules.specs.declared.template.Segment.TheVariants.{Literal, One, Rest}
use Rattle.http_rules.specs.declared.template.Variable.{Variable}
use Rattle.http_rules.specs.declared.template.Template.{Template}
use Rattle.http_rules.specs.Template.{verb_text}

-- a path has offsets of 32 bits
abbrev pub IsPath : List ℕ → Type 0
IsPath path = length path < 2 ^ 32

-- the segments of a path, each behind its slash
abbrev pub slashed : List (List ℕ) → List ℕ
slashed segments = flat_map (λ s. 47 ∷ s) segments

-- what a wildcard takes: a segment that is not empty; no segment has a slash
abbrev pub IsPathSegment : List ℕ → Type 0
IsPathSegment s = (s ≢ []) × AllByRecursion (λ b. b ≢ 47) s

-- the segments of a path that a segment of a template takes: a literal is equal byte for byte, `*`
-- takes one, `**` zero or more
abbrev pub Takes : Segment → List (List ℕ) → Type 0
Takes (Literal l) taken = taken ≡ l ∷ []
Takes One taken = (s : List ℕ) × IsPathSegment s × (taken ≡ s ∷ [])
Takes Rest taken = AllByRecursion IsPathSegment taken

-- each segment of a template takes its share, in order
abbrev pub EachTakes : List Segment → List (List (List ℕ)) → Type 0
EachTakes [] [] = Unit {0}
EachTakes [] (x ∷ xs) = ⊥
EachTakes (s ∷ ss) [] = ⊥
EachTakes (s ∷ ss) (x ∷ xs) = Takes s x × EachTakes ss xs

-- all segments of the shares
abbrev pub shares : List (List (List ℕ)) → List (List ℕ)
shares taken = flat_map (λ x. x) taken

-- from the first byte of the first segment to the end of the last one; with no segment the empty
-- span at the end
abbrev pub span_between : List (List ℕ) → List (List ℕ) → ℕ → ℕ × ℕ
span_between before [] end = (end, end)
span_between before (s ∷ ss) end = (length (slashed before) + 1, length (slashed (before ++ s ∷ ss)))

-- the offsets in the path from which and to which a variable goes
abbrev pub span_of : List (List (List ℕ)) → Variable → ℕ × ℕ
span_of taken v =
    span_between (shares (take v.from taken)) (shares (take (v.to - v.from) (drop v.from taken)))
    (length (slashed (shares taken)))

-- the template fits the path, and its variables take these spans. A verb stands at the end of the
-- last segment, which is not empty before it; without a verb the last segment is taken whole.
pub record Matches (template : Template) (path : List ℕ) (spans : List (ℕ × ℕ)) : Type 0 where
  pub is_path : IsPath path
  pub taken : List (List (List ℕ))
  pub each : EachTakes template.segments taken
  pub before_verb : IsSome template.verb → shares taken ≢ []
  pub written : path ≡ slashed (shares taken) ++ verb_text template.verb
  pub spans_are : spans ≡ map (span_of taken) template.variables

-- the template fits the path
abbrev pub Fits : Template → List ℕ → Type 0
Fits template path = (spans : List (ℕ × ℕ)) × Matches template path spans

-- no segment is a wildcard
abbrev pub AreLiterals : List Segment → Type 0
AreLiterals [] = Unit {0}
AreLiterals (Literal l ∷ ss) = AreLiterals ss
AreLiterals (One ∷ ss) = ⊥
AreLiterals (Rest ∷ ss) = ⊥

-- one span for each variable, inside the path
pub record AreSpansOf (template : Template) (path : List ℕ) (spans : List (ℕ × ℕ)) : Type 0 where
  pub each : length spans ≡ length template.variables
  pub inside : AllByRecursion (λ span. (span.0 ≤ span.1) × (span.1 ≤ length path)) spans
