use Rattle.std.proofs.Common.{refl}
use Rattle.hpack_codec.specs.Huffman.{huffman_text}
use Rattle.hpack_codec.specs.FieldRepresentation.{representation_in}
use Rattle.hpack_codec.specs.HeaderBlock.{header_block, header_block_within}
use Rattle.hpack_codec.proofs.examples.connection_examples.Goals as goal

pub returns : goal.returns
unfolding huffman_text representation_in header_block header_block_within
returns c = record {
  exchange = refl;
  stale = refl;
  evicting = refl;
  behind = refl;
}
