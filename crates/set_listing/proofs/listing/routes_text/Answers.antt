use Rattle.std.proofs.Common.{◌≡◌, ◌≤◌, ◌+◌, ◌∷◌, [], ◌∙◌, ap, arith, append-nil, drop, length, refl, subst, sym}
use Rattle.std.proofs.lemmas.List.{drop_all, drop_more}
use Rattle.std.specs.List.{AllByRecursion}
use Rattle.set_listing.proofs.ListingLemmas.{one_more_line}
use Rattle.set_listing.specs.RouteLines.{AreRouteLines, IsRoutesText}
use Rattle.linked_api.specs.LinkedApi.{IsBindingOf}
use Rattle.set_listing.proofs.listing.routes_text.Goals as goal

pub loop-binding-preserved : goal.loop-binding-preserved
loop-binding-preserved c =
    let i = c.loop-binding.binding-index in
    let b = c.binding-item.result in
    let bs = c.as_slice-binding-items.result.now in
    let api = c.args.api.now in
    let line = c.in_ok-put_line.ensures in
    let here : drop i bs ≡ b ∷ drop (i + 1) bs = drop_more bs i b c.loop-binding-test.true ∙ ap (λ z. z ∷ drop (i + 1) bs) (sym c.binding-item.is) in
    let each : AllByRecursion (IsBindingOf api) (b ∷ drop (i + 1) bs) = subst (AllByRecursion (IsBindingOf api)) here c.loop-binding.invariant.each in
    record {
      each = each.1;
      told = one_more_line api (drop i bs) b (drop (i + 1) bs) c.loop-binding.out.items c.put_line.new.out.items line.0 here line.1 line.2 c.loop-binding.invariant.told;
    }

pub returns : goal.returns
returns c =
    let i = c.loop-binding.binding-index in
    let bs = c.as_slice-binding-items.result.now in
    let api = c.args.api.now in
    let end : length bs ≤ i = omega (arith, c.loop-binding-test.false) in
    let none : AreRouteLines api (drop i bs) [] = subst (λ z. AreRouteLines api z []) (sym (drop_all i bs end)) refl in
    subst (IsRoutesText api) (append-nil c.loop-binding.out.items) (c.loop-binding.invariant.told [] none)
