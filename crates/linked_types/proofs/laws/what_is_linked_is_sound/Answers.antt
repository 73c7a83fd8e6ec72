use Rattle.linked_types.proofs.SoundTypes.{types_sound}
use Rattle.linked_types.proofs.laws.what_is_linked_is_sound.Goals as goal

pub returns : goal.returns
returns c = λ types ms t h g. types_sound types ms t (c.what_is_reached_is_closed.ensures types ms) h g
