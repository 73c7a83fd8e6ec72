use Rattle.path_router.proofs.TakeLemmas.{full_on, full_end, none_tested}
use Rattle.path_router.proofs.pieces.are_full_pieces.Goals as goal

pub loop-more-preserved : goal.loop-more-preserved
loop-more-preserved c =
    let on = full_on c.loop-more.rest.now c.in-Some.more.now c.in-Some.ensures in (
      (λ h. c.loop-more.invariant.0 (on.0 h)),
      (λ h. on.1 (c.loop-more.invariant.1 h)),
    )

pub returns : goal.returns
returns c =
    let end = full_end c.loop-more.rest.now c.in_default.ensures in
    let none = none_tested c.loop-more.rest.now c.is_empty.result c.is_empty.ensures in (
      (λ h. c.loop-more.invariant.0 (end.0 (none.0 h))),
      (λ h. none.1 (end.1 (c.loop-more.invariant.1 h))),
    )
