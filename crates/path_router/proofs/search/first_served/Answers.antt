use Rattle.std.proofs.Common.{◌≡◌, ◌+◌, ◌∷◌, [], ◌++◌, take, length, slice_get, Some, subst, sym, ap, ◌∙◌, arith}
use Rattle.std.proofs.lemmas.List.{take_more, length-take-le}
use Rattle.std.proofs.lemmas.Option.{slice_get-get_or}
use Rattle.path_router.proofs.SearchLemmas.{from_take, stays_best, taken_over}
use Rattle.path_router.specs.RouteChoice.{IsFirst}
use Rattle.path_router.specs.RouteSearch.{IsBest}
use Rattle.path_router.proofs.search.first_served.Goals as goal
use Rattle.path_router.proofs.search.first_served.Goals.{then-takes_over, else-takes_over}

pub loop-i-preserved : goal.loop-i-preserved
loop-i-preserved c =
    let i = c.loop-i.i in
    let bs = c.args.bindings.now in
    let method = c.args.method.now in
    let path = c.args.path.now in
    let b = c.index-bindings-i.result in
    let before = take i bs in
    let len : length before ≡ i = length-take-le i bs (omega (arith, c.loop-i-test.true)) in
    let more : take (i + 1) bs ≡ before ++ b ∷ [] =
    take_more bs i b c.loop-i-test.true ∙ ap (λ z. before ++ z ∷ []) (sym c.index-bindings-i.is) in
    let at : slice_get bs i ≡ Some b =
    slice_get-get_or bs i b c.loop-i-test.true ∙ ap Some (sym c.index-bindings-i.is) in
    elim c.if-takes_over.branch [
      | then-takes_over w ↦
          let first =
          taken_over bs before method path c.loop-i.best b (from_take i bs) c.loop-i.invariant
          (c.takes_over.ensures.0 w.if-takes_over.true) in
          subst (IsBest (take (i + 1) bs) method path) (sym w.best-is)
          (subst (λ z. IsBest z method path (Some i)) (sym more)
          (b, subst (λ k. IsFirst (before ++ b ∷ []) method path k b) len first))
      | else-takes_over w ↦
          let stays =
          stays_best bs before method path c.loop-i.best b (from_take i bs) (ap (slice_get bs) len ∙ at)
          c.requires.templates c.requires.apart c.loop-i.invariant
          (λ t. let yes = c.takes_over.ensures.1 t in absurd (cc (yes, w.if-takes_over.false))) in
          subst (IsBest (take (i + 1) bs) method path) (sym w.best-is)
          (subst (λ z. IsBest z method path c.loop-i.best) (sym more) stays)
    ]
