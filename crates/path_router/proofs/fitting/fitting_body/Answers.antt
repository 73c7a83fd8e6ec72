use Rattle.std.proofs.Common.{◌≡◌, [], IsSome, subst, sym, rules}
use Rattle.path_router.proofs.FitLemmas.{body_taken}
use Rattle.path_router.proofs.TakeLemmas.{none_tested}
use Rattle.path_router.specs.PathSegments.{TakeAll}
use Rattle.path_router.proofs.fitting.fitting_body.Goals as goal

pub returns-then-is_empty : goal.returns-then-is_empty
returns-then-is_empty c f =
    let b = body_taken c.args.template.now c.args.path.now c.in_ok-body.body.now c.requires c.in_ok-body.ensures f in
    let none : c.in_ok-body.body.now ≡ [] =
    (none_tested c.in_ok-body.body.now c.is_empty.result c.is_empty.ensures).0 (c.if-is_empty.true) in
    let some : IsSome c.args.template.now.verb = search rules in
    b.before_verb some none

pub returns-else-take_all : goal.returns-else-take_all
returns-else-take_all c f =
    let b = body_taken c.args.template.now c.args.path.now c.in_ok-body.body.now c.requires c.in_ok-body.ensures f in
    let all = c.take_all.ensures.1 (subst (λ z. TakeAll z c.in_ok-body.body.now) (sym c.as_slice.ensures) b.taken) in
    absurd (cc (all, c.if-take_all.false))
