use denote.Ref.{Bor}
use Rattle.std.proofs.Common.{ℕ, List, map, sym, ◌∙◌}
use Rattle.http_rules.specs.TemplateMatch.{Fits, span_of}
use Rattle.path_router.proofs.FitLemmas.{body_matches, told_by}
use Rattle.path_router.specs.PathSegments.{FitsBody, shares_of}
use Rattle.path_router.proofs.fitting.fits.Goals as goal

pub returns : goal.returns
returns c =
    let t = c.args.template.now in
    let path = c.args.path.now in
    let both = told_by (Fits t path) (λ (body : Bor (List ℕ)). FitsBody t path body.now)
    (λ body f. (map (span_of (shares_of t.segments f.taken.0)) t.variables, body_matches t path body.now c.requires f))
    c.fitting_body.result c.fitting_body.ensures in (
      (λ yes. both.0 (sym c.is_some.ensures ∙ yes)),
      (λ fit. c.is_some.ensures ∙ both.1 fit),
    )
