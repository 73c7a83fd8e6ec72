use Rattle.std.proofs.Common.{◌≡◌, ◌∙◌, Some, rules, subst, sym}
use Rattle.query_settings.proofs.Gather.{place_below, still_placed}
use Rattle.query_settings.specs.QuerySteps.{ArePlaces, number_at}
use Rattle.query_settings.proofs.gathered.put_item.Goals as goal

pub extend_at-requires : goal.extend_at-requires
extend_at-requires c =
    place_below c.args.settings.now.items c.args.numbers.items c.in-Some.place
    (sym (c.requires c.args.numbers.items)
    ∙ (let held : number_at c.args.places.now c.args.numbers.items ≡ Some c.in-Some.place = search rules in held))

pub returns-in-Some-clause-places : goal.returns-in-Some-clause-places
returns-in-Some-clause-places c =
    subst (ArePlaces c.args.places.now) (sym c.in_ok-extend_at.ensures)
    (still_placed c.args.places.now c.args.settings.now.items c.in-Some.place c.args.item c.requires)
