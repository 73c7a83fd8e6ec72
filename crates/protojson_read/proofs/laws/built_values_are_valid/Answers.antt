use Rattle.json_meanings.specs.KnownReadings.{schema_of}
use Rattle.protojson_read.proofs.laws.built_values_are_valid.Goals as goal

pub returns : goal.returns
returns c = λ types id n j v sound utf8 denotes.
    c.read_values_are_valid.ensures.values (schema_of types) id n j v sound
    (c.readings_of_types_give_valid_values.ensures types sound) utf8 denotes
