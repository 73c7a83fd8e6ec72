use Rattle.hpack_codec.proofs.RoomLemmas.{limit_is}
use Rattle.hpack_codec.proofs.laws.lists_within_the_limit_are_read.Goals as goal

pub returns : goal.returns
returns c = limit_is
