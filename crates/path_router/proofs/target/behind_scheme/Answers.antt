use Rattle.std.proofs.Common.{ap, ◌∙◌, map}
use Rattle.std.specs.Char.{to_ascii_lowercase}
use Rattle.path_router.proofs.TargetLemmas.{behind_scheme_found, scheme_parts}
use Rattle.path_router.proofs.target.behind_scheme.Goals as goal

pub returns-then-not-is_http : goal.returns-then-not-is_http
returns-then-not-is_http c b s =
    let is = c.is_http.ensures.1 (ap (map to_ascii_lowercase) c.split_at.ensures.front ∙ (scheme_parts c.args.target.now b s).1) in
    absurd (cc (is, c.if-not-is_http.true))

pub returns : goal.returns
returns c =
    behind_scheme_found c.args.target.now c.split_at.result.0.now c.split_at.result.1.now c.behind_slashes.result
    c.split_at.ensures.front c.split_at.ensures.back (c.is_http.ensures.0 c.if-not-is_http.false) c.behind_slashes.ensures
