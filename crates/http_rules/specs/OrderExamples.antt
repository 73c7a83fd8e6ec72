-- Worked examples of which of two templates stands first.
use Rattle.std.specs.Prelude.{List, [], ◌∷◌, codes, None, Some}
use Rattle.http_rules.specs.declared.template.Segment.{Segment}
use Rattle.http_rules.specs.declared.template.Segment.TheVariants.{Literal, One, Rest}
use Rattle.http_rules.specs.declared.template.Template.{Template}
use Rattle.http_rules.specs.TemplateOrder.{IsTemplateBefore}

-- a template of these segments, without variables and a verb
abbrev pub of_segments : List Segment → Template
of_segments segments = record { segments = segments; variables = []; verb = None }

-- `/a`
abbrev pub short : Template
short = of_segments (Literal (codes "a") ∷ [])

-- `/a/` and one more segment
abbrev pub with_segment : Segment → Template
with_segment s = of_segments (Literal (codes "a") ∷ s ∷ [])

-- `/*:go`
abbrev pub any_goes : Template
any_goes = record { segments = One ∷ []; variables = []; verb = Some (codes "go") }

-- a template with a verb stands before one without, whatever their segments are; of segments that begin alike the end
-- comes first, then a literal, then `*`, then `**`, and the first position at which two differ decides
pub record OrderExamplesHold : Type 0 where
  pub verb : IsTemplateBefore any_goes short
  pub end_literal : IsTemplateBefore short (with_segment (Literal (codes "b")))
  pub end_one : IsTemplateBefore short (with_segment One)
  pub end_rest : IsTemplateBefore short (with_segment Rest)
  pub literal_one : IsTemplateBefore (with_segment (Literal (codes "b"))) (with_segment One)
  pub literal_rest : IsTemplateBefore (with_segment (Literal (codes "b"))) (with_segment Rest)
  pub one_rest : IsTemplateBefore (with_segment One) (with_segment Rest)
  pub position : IsTemplateBefore (of_segments (Literal (codes "a") ∷ One ∷ One ∷ []))
      (of_segments (One ∷ Literal (codes "b") ∷ []))
