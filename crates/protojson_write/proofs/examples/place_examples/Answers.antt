use Rattle.protojson_write.proofs.KnownPlaceFacts.{places_hold, unprintable_places_hold}
use Rattle.protojson_write.proofs.examples.place_examples.Goals as goal

pub returns : goal.returns
returns c = record { shown = places_hold; unprintable = unprintable_places_hold }
