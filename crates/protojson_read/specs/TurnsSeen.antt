-- What is open, as the definitions have it, and what comes of a token.
use Rattle.std.specs.Prelude.{◌≡◌, List, map, reverse, Result, Ok, Err, ⊤}
use Rattle.json_meanings.specs.ReadingSpots.{Spot as SpotOf}
use Rattle.json_meanings.specs.ReadingTurns.{Levels as LevelsOf, Turn as TurnOf, has_ended, in_array, in_object, wants_value}
use Rattle.json_meanings.specs.declared.fault.FieldKind.{FieldKind}
use Rattle.protojson_read.specs.SpotsSeen.{array_seen, filled_seen, object_seen, spot_seen}
use Rattle.protojson_read.specs.declared.refusal.Refusal.{Refusal}
use Rattle.protojson_read.specs.declared.refusal.Refusal.TheVariants.{Fault, NoMemory}
use Rattle.protojson_read.specs.declared.spots.Spot.{Spot}
use Rattle.protojson_read.specs.declared.turns.Levels.{Levels}
use Rattle.protojson_read.specs.declared.turns.Turn.{Turn}
use Rattle.protojson_read.specs.declared.turns.Turn.TheVariants.{WantsValue, InArray, InObject, HasEnded}

-- what may come next
abbrev pub turn_seen : Turn → TurnOf
turn_seen (WantsValue s) = wants_value (spot_seen s)
turn_seen (InArray a) = in_array (array_seen a)
turn_seen (InObject o) = in_object (object_seen o)
turn_seen (HasEnded x) = has_ended (filled_seen x)

-- the spots around, of which the code keeps the inmost last
abbrev pub around_seen : List Spot → List SpotOf
around_seen spots = reverse (map spot_seen spots)

-- what is open
abbrev pub levels_seen : Levels → LevelsOf
levels_seen l = record { turn = turn_seen l.turn; around = around_seen l.around.items }

-- what is open behind a token, or its fault; out of memory is free
abbrev pub Turns : Result Levels Refusal → Result LevelsOf FieldKind → Type 0
Turns (Ok l) (Ok m) = levels_seen l ≡ m
Turns (Err (Fault k)) (Err e) = k ≡ e
Turns (Err NoMemory) r = ⊤
Turns _ _ = ⊥
