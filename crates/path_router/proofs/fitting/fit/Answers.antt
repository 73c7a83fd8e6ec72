use Rattle.std.proofs.Common.{subst, sym}
use Rattle.http_rules.specs.TemplateMatch.{Matches}
use Rattle.path_router.proofs.FitLemmas.{body_matches}
use Rattle.path_router.proofs.fitting.fit.Goals as goal

pub returns : goal.returns
returns c =
    let f = c.in_ok-body.ensures in
    subst (Matches c.args.template.now c.args.path.now) (sym (c.captures_in.ensures f.taken))
    (body_matches c.args.template.now c.args.path.now c.in_ok-body.body.now c.requires f)
