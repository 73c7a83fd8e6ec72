-- A place as the reader keeps it.
use Rattle.json_events.specs.declared.nesting.Spot.{Spot}
use Rattle.json_events.specs.NestingSteps.{Place}

-- the place that a spot of the code is
abbrev pub spot_seen : Spot → Place
spot_seen s = record { want = s.want; around = s.around }
