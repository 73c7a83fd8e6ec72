use Rattle.std.proofs.Common.{ap}
use Rattle.json_meanings.specs.KnownReadings.{as_field}
use Rattle.json_meanings.specs.SpotTables.{known_of}
use Rattle.protojson_write.proofs.PlainTexts.{known_plain, plain_string}
use Rattle.protojson_write.proofs.laws.known_texts_are_read_back.Goals as goal

pub returns : goal.returns
returns c types sound id k v t kind valid e = (
  plain_string c.written_texts_mean_their_values.ensures.strings t
      (known_plain t (c.known_texts_are_plain.ensures (known_of types id) v t e)),
  ap as_field (c.known_texts_are_read_back.ensures.read types id k (known_of types id) v t
      (c.sound_types_have_known_fields.ensures types id sound) valid e),
)
