use Rattle.std.proofs.Common.{◌≡◌, ◌+◌, ◌∷◌, drop, sym, subst, ap, ◌∙◌}
use Rattle.std.proofs.lemmas.List.{drop_more}
use Rattle.path_router.proofs.TakeLemmas.{taken_on, front_taken}
use Rattle.path_router.specs.PathSegments.{TakeAll}
use Rattle.path_router.proofs.pieces.take_all.Goals as goal

pub returns-in-None : goal.returns-in-None
returns-in-None c =
    let i = c.loop-segment.segment-index in
    let s = c.segment-item.result in
    let ss = c.args.segments.now in
    let here : drop i ss ≡ s ∷ drop (i + 1) ss =
    drop_more ss i s c.loop-segment-test.true ∙ ap (λ z. z ∷ drop (i + 1) ss) (sym c.segment-item.is) in (
      (λ t. absurd (cc (t))),
      (λ h. absurd (front_taken s (drop (i + 1) ss) c.loop-segment.rest.now c.in_default.not-Rest c.in-None.ensures
          (subst (λ z. TakeAll z c.loop-segment.rest.now) here (c.loop-segment.invariant.1 h)))),
    )

pub loop-segment-preserved : goal.loop-segment-preserved
loop-segment-preserved c =
    let i = c.loop-segment.segment-index in
    let s = c.segment-item.result in
    let ss = c.args.segments.now in
    let here : drop i ss ≡ s ∷ drop (i + 1) ss =
    drop_more ss i s c.loop-segment-test.true ∙ ap (λ z. z ∷ drop (i + 1) ss) (sym c.segment-item.is) in
    let on = taken_on s (drop (i + 1) ss) c.loop-segment.rest.now c.in-Some.more.now c.in-Some.ensures in (
      (λ h. c.loop-segment.invariant.0 (subst (λ z. TakeAll z c.loop-segment.rest.now) (sym here) (on.0 h))),
      (λ h. on.1 (subst (λ z. TakeAll z c.loop-segment.rest.now) here (c.loop-segment.invariant.1 h))),
    )
