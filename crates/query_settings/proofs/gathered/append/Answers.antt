use Rattle.std.proofs.Common.{◌∙◌, refl, sym, subst, rules}
use Rattle.query_settings.specs.QuerySteps.{ArePlaces}
use Rattle.query_settings.proofs.Places.{places_more}
use Rattle.query_settings.proofs.gathered.append.Goals as goal

pub returns-clause-places : goal.returns-clause-places
returns-clause-places c =
    subst (ArePlaces c.insert.new.self) (sym c.in_ok-push.ensures.items)
    (places_more c.args.places.now c.insert.new.self c.args.path c.args.settings.now.items c.args.setting c.len.result
    (search rules) c.requires.path c.in_ok-insert.ensures.updates c.requires.places c.requires.absent)
