use Rattle.json_meanings.specs.KnownReadings.{schema_of}
use Rattle.json_bodies.proofs.laws.bodies_are_valid.Goals as goal

pub returns : goal.returns
returns c types id n bytes v sound means =
    c.read_values_are_valid.ensures.values (schema_of types) id n means.0 v sound
    (c.readings_of_types_give_valid_values.ensures types sound)
    (c.read_values_are_valid.ensures.strings means.0 bytes means.1.0 means.1.1) means.2
