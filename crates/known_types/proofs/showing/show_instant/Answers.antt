use Rattle.std.proofs.Common.{subst}
use Rattle.known_types.specs.KnownAnswers.{IsKnownShown}
use Rattle.known_types.specs.KnownTexts.{instant_text}
use Rattle.known_types.proofs.KnownLemmas.{instant_shown}
use Rattle.known_types.proofs.showing.show_instant.Goals as goal

pub returns-clause-ok : goal.returns-clause-ok
returns-clause-ok c =
    let m = c.in-Some.moment in
    let old = c.args.out.now.items in
    let new = c.show_timestamp.new.out.items in
    let shown = c.in_ok-show_timestamp.ensures.ok in
    subst (λ x. IsKnownShown (instant_text x) old new) c.in-Some.ensures
    (instant_shown m old new ((c.printable_is_computed.ensures.instants m).1 shown.0)
    (λ t s. c.one_text_of_an_instant.ensures.computed m t shown.0 s) shown.1)
