-- Where a value stands and what it comes to, as the definitions have it.
use Rattle.json_meanings.specs.ReadingSpots.{Filled as FilledOf, OpenArray as ArrayOf, OpenObject as ObjectOf, Spot as SpotOf, element, entry, many, member, of_map, of_message, pairs, part, single, unset, whole}
use Rattle.protojson_read.specs.MessageSeen.{entries_seen, form_seen, message_seen}
use Rattle.protojson_read.specs.declared.spots.Filled.{Filled}
use Rattle.protojson_read.specs.declared.spots.Filled.TheVariants.{Unset, Single, Many, Pairs}
use Rattle.protojson_read.specs.declared.spots.OpenArray.{OpenArray}
use Rattle.protojson_read.specs.declared.spots.OpenObject.{OpenObject}
use Rattle.protojson_read.specs.declared.spots.OpenObject.TheVariants.{Message, Map}
use Rattle.protojson_read.specs.declared.spots.Spot.{Spot}
use Rattle.protojson_read.specs.declared.spots.Spot.TheVariants.{Whole, Part, Member, Entry, Element}
use Rattle.schema.specs.Pairs.{entries_of}
use Rattle.schema.specs.declared.value.Item.{out-Item}

-- an array that is open
abbrev pub array_seen : OpenArray → ArrayOf
array_seen a = record { levels = a.levels; kind = a.kind; items = a.items }

-- an object that is open
abbrev pub object_seen : OpenObject → ObjectOf
object_seen (Message k id m) = of_message k id (message_seen m)
object_seen (Map k s kind es) = of_map k s kind (entries_seen es)

-- where a value stands
abbrev pub spot_seen : Spot → SpotOf
spot_seen (Whole k id) = whole k id
spot_seen (Part k f) = part k (form_seen f)
spot_seen (Member k id m f) = member k id (message_seen m) (form_seen f)
spot_seen (Entry k s kind es key) = entry k s kind (entries_seen es) key
spot_seen (Element a) = element (array_seen a)

-- what a value comes to
abbrev pub filled_seen : Filled → FilledOf
filled_seen Unset = unset
filled_seen (Single i) = single (out-Item i)
filled_seen (Many is) = many is
filled_seen (Pairs ps) = pairs (entries_of ps)
