use Rattle.wire_format.proofs.round_trip.MessageReadLemmas.{sound_fields}
use Rattle.wire_format.proofs.laws.sound_types_have_sound_fields.Goals as goal

pub returns : goal.returns
returns c types sound = sound_fields types sound
