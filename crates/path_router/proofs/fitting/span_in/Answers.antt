use Rattle.std.proofs.Common.{◌≡◌, ◌<◌, ◌≤◌, length, take, ap, ◌∙◌, arith}
use Rattle.http_rules.specs.TemplateMatch.{slashed}
use Rattle.path_router.proofs.ShareLemmas.{all_uncut, shares_front, span_is, rest_is_last}
use Rattle.path_router.proofs.fitting.span_in.Goals as goal
use Rattle.path_router.proofs.fitting.span_in.Goals.{then-variable-len, else-variable-len}

pub returns : goal.returns
returns c taken =
    let ss = c.args.template.now.segments in
    let ps = taken.0 in
    let v = c.args.variable.now in
    let r = rest_is_last c.args.template.now c.requires.template in
    let u = all_uncut ss ps taken.1 in
    let start : c.offset_behind-from.result ≡ length (slashed (take v.from ps)) =
    c.offset_behind-from.ensures.there ps u taken.2
    (shares_front ss ps v.from r taken.1 (omega (arith, c.requires.from, c.requires.to))).1 in
    let inner : v.to < length ss → c.if-variable-len.to ≡ length (slashed (take v.to ps)) = λ less.
    elim c.if-variable-len.branch [
      | then-variable-len w ↦
          w.to-is ∙ w.offset_behind-to.ensures.there ps u taken.2 (shares_front ss ps v.to r taken.1 less).1
      | else-variable-len w ↦ absurd (omega arith)
    ] in
    let last : length ss ≤ v.to → c.if-variable-len.to ≡ length (slashed ps) = λ more.
    elim c.if-variable-len.branch [
      | then-variable-len w ↦ absurd (omega arith)
      | else-variable-len w ↦ w.to-is ∙ ap length taken.2
    ] in
    ap (λ z. (z, c.if-variable-len.to)) c.min.ensures
    ∙ span_is ss ps v r taken.1 c.requires.from c.requires.to c.offset_behind-from.result c.if-variable-len.to start
    inner last
