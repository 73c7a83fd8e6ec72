use Rattle.hpack_codec.proofs.WrittenBlocks.{block_spelled}
use Rattle.hpack_codec.proofs.laws.written_blocks_spell_their_fields.Goals as goal

pub returns : goal.returns
returns c = block_spelled
