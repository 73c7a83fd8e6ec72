use Rattle.hpack_codec.proofs.FaultLemmas.{too_long_is}
use Rattle.hpack_codec.proofs.laws.blocks_past_the_limit_are_too_long.Goals as goal

pub returns : goal.returns
returns c = too_long_is
