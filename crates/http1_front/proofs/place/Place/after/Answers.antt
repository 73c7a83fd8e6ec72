use Rattle.std.proofs.Common.{rules}
use Rattle.http1_front.proofs.PlaceLemmas.{after_feed, after_return, after_other}
use Rattle.http1_front.proofs.place.Place.after.Goals as goal

pub returns-in-10 : goal.returns-in-10
returns-in-10 c = rw (c.in-10.is, c.behind_feed.ensures) (after_feed c.args.self)

pub returns-in-13 : goal.returns-in-13
returns-in-13 c = rw (c.in-13.is, c.behind_return.ensures) (after_return c.args.self)

pub returns-in_default : goal.returns-in_default
returns-in_default c = rw c.behind_other.ensures (after_other c.args.self c.args.byte (search rules) (search rules))
