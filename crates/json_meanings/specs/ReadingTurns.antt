-- Reading one token after another: what is open, as a reader keeps it. It comes to the same as the reading of trees.
use Rattle.std.specs.Prelude.{◌≡◌, ℕ, List, [], ◌∷◌, Option, Result, Ok, Err}
use Rattle.message_types.specs.declared.messages.TypeId.{TypeId}
use Rattle.json_events.specs.JsonTree.{Mark, opens, closes, key}
use Rattle.json_events.specs.declared.state.Bracket.TheVariants as bracket
use Rattle.json_meanings.specs.FaultPlaces.{Fault, at_once, behind, onward}
use Rattle.json_meanings.specs.JsonDenotes.{array_with, object_value, object_with, spot_of}
use Rattle.json_meanings.specs.JsonScalars.{Schema}
use Rattle.json_meanings.specs.ReadingSpots.{Filled, OpenArray, OpenObject, Spot, element, entry, many, member, part, whole}
use Rattle.json_meanings.specs.SpotTables.{fills, names_spot, opens_array, opens_object}
use Rattle.json_meanings.specs.declared.fault.FieldKind.{FieldKind}
use Rattle.json_meanings.specs.declared.fault.FieldKind.TheVariants.{WrongShape}

-- what may come next: a value at a spot, an item or the end of an array, a key or the end of an object, or nothing
pub data Turn : Type 0 where
  wants_value : Spot → Turn
  in_array : OpenArray → Turn
  in_object : OpenObject → Turn
  has_ended : Filled → Turn

-- what is open: what may come next in the inmost, and the spots of what is around it, the inmost first
pub record Levels : Type 0 where
  pub turn : Turn
  pub around : List Spot

-- what is open, by its parts
abbrev pub at_turn : Turn → List Spot → Levels
at_turn t st = record { turn = t; around = st }

-- what may come behind a value that has ended at a spot
abbrev pub turn_behind : Filled → Spot → Turn
turn_behind x (whole k id) = has_ended x
turn_behind x (part k f) = has_ended x
turn_behind x (member k id p f) = in_object (object_with (member k id p f) x)
turn_behind x (entry k s kind es t) = in_object (object_with (entry k s kind es t) x)
turn_behind x (element a) = in_array (array_with a x)

-- a value has ended at a spot
abbrev pub give : Filled → Spot → List Spot → Levels
give x spot st = at_turn (turn_behind x spot) st

-- a bracket closes what has come to this, at the inmost of the spots around
abbrev pub close : Filled → List Spot → Result Levels FieldKind
close x [] = Err WrongShape
close x (spot ∷ st) = Ok (give x spot st)

-- a token without brackets fills a spot
abbrev pub given : Spot → List Spot → Result Filled FieldKind → Result Levels FieldKind
given spot st (Ok x) = Ok (give x spot st)
given spot st (Err e) = Err e

-- a bracket opens an array at a spot
abbrev pub array_opened : Spot → List Spot → Result OpenArray FieldKind → Result Levels FieldKind
array_opened spot st (Ok a) = Ok (at_turn (in_array a) (spot ∷ st))
array_opened spot st (Err e) = Err e

-- a bracket opens an object at a spot
abbrev pub object_opened : Spot → List Spot → Result OpenObject FieldKind → Result Levels FieldKind
object_opened spot st (Ok o) = Ok (at_turn (in_object o) (spot ∷ st))
object_opened spot st (Err e) = Err e

-- a token where a value is wanted
abbrev pub value_turn : Schema → Spot → List Spot → Mark → Result Levels FieldKind
value_turn c spot st (opens bracket.Array) = array_opened spot st (opens_array spot)
value_turn c spot st (opens bracket.Object) = object_opened spot st (opens_object c spot)
value_turn c spot st m = given spot st (fills c spot m)

-- a token in an array
abbrev pub array_turn : Schema → OpenArray → List Spot → Mark → Result Levels FieldKind
array_turn c a st (closes b) = close (many a.items) st
array_turn c a st m = value_turn c (element a) st m

-- a key names a spot
abbrev pub named : List Spot → Result Spot FieldKind → Result Levels FieldKind
named st (Ok spot) = Ok (at_turn (wants_value spot) st)
named st (Err e) = Err e

-- a token in an object
abbrev pub object_turn : Schema → OpenObject → List Spot → Mark → Result Levels FieldKind
object_turn c o st (closes b) = close (object_value o) st
object_turn c o st (key t) = named st (names_spot c o t)
object_turn c o st _ = Err WrongShape

-- a token, by what may come
abbrev pub turn_in : Schema → Turn → List Spot → Mark → Result Levels FieldKind
turn_in c (wants_value spot) st m = value_turn c spot st m
turn_in c (in_array a) st m = array_turn c a st m
turn_in c (in_object o) st m = object_turn c o st m
turn_in c (has_ended x) st m = Err WrongShape

-- one token
abbrev pub step : Schema → Levels → Mark → Result Levels FieldKind
step c l m = turn_in c l.turn l.around m

-- all tokens of a list, or the first fault
abbrev pub run : Schema → Levels → List Mark → Result Levels Fault
run c l [] = Ok l
run c l (m ∷ ms) = onward (at_once (step c l m)) (λ n. behind 1 (run c n ms))

-- what is open before the first token of a value that stands alone
abbrev pub start : Spot → Levels
start spot = at_turn (wants_value spot) []

-- these tokens have been taken as a message of the type, or as its one field, without a fault, and this is open
abbrev pub Stands : Schema → TypeId → Option ℕ → Levels → List Mark → Type 0
Stands c id n l ts = run c (start (spot_of c id n)) ts ≡ Ok l
