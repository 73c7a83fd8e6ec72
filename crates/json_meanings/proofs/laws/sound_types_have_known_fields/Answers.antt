use Rattle.json_meanings.proofs.KnownReadingLemmas.{known_fields}
use Rattle.json_meanings.proofs.laws.sound_types_have_known_fields.Goals as goal

pub returns : goal.returns
returns c types id sound = known_fields types sound id
