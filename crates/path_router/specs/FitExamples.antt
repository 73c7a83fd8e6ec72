-- Worked examples of paths that a template fits, and of paths that it does not.
use Rattle.std.specs.Prelude.{[], ◌∷◌, codes, None, Some}
use Rattle.http_rules.specs.TemplateMatch.{Fits, Matches}
use Rattle.http_rules.specs.declared.template.Segment.TheVariants.{Literal, One, Rest}
use Rattle.http_rules.specs.declared.template.Template.{Template}

-- `/v1/*:go`
abbrev pub one_goes : Template
one_goes = record { segments = Literal (codes "v1") ∷ One ∷ []; variables = []; verb = Some (codes "go") }

-- `/v1/{a=**}`
abbrev pub all_behind : Template
all_behind = record {
  segments = Literal (codes "v1") ∷ Rest ∷ [];
  variables = record { path = codes "a" ∷ []; from = 1; to = 2 } ∷ [];
  verb = None;
}

-- `*` takes a segment before the verb, and no empty one; `**` takes several or none, and the span of none is empty, at
-- the end of the path; it takes no empty segment, at the end or inside
pub record FitExamplesHold : Type 0 where
  pub one : Matches one_goes (codes "/v1/a:go") []
  pub nothing_before_verb : Fits one_goes (codes "/v1/:go") → ⊥
  pub several : Matches all_behind (codes "/v1/a/b") ((4, 7) ∷ [])
  pub none : Matches all_behind (codes "/v1") ((3, 3) ∷ [])
  pub empty_last : Fits all_behind (codes "/v1/") → ⊥
  pub empty_inside : Fits all_behind (codes "/v1/a//b") → ⊥
