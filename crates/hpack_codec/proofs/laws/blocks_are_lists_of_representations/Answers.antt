use Rattle.hpack_codec.proofs.BlockEnds.{block_is}
use Rattle.hpack_codec.proofs.laws.blocks_are_lists_of_representations.Goals as goal

pub returns : goal.returns
returns c = block_is
