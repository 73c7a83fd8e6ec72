use Rattle.known_types.specs.KnownTexts.{known_value}
use Rattle.json_meanings.specs.SpotTables.{known_of}
use Rattle.json_meanings.proofs.KnownReadingLemmas.{field_of_text, known_fields}
use Rattle.json_meanings.proofs.laws.readings_of_types_give_valid_values.Goals as goal

pub returns : goal.returns
returns c types sound id t v k kind e =
    c.known_values_are_valid.ensures types id k (known_of types id) t v (known_fields types sound id)
    (field_of_text (known_value (known_of types id) t) v e)
