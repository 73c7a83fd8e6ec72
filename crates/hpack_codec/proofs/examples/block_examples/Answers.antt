use Rattle.std.proofs.Common.{refl}
use Rattle.hpack_codec.specs.Huffman.{huffman_text}
use Rattle.hpack_codec.specs.FieldRepresentation.{representation_in}
use Rattle.hpack_codec.specs.HeaderBlock.{header_block, header_block_within}
use Rattle.hpack_codec.proofs.examples.block_examples.Goals as goal

pub returns : goal.returns
unfolding huffman_text representation_in header_block header_block_within
returns c = record {
  first = refl;
  first_size = refl;
  second = refl;
  index_zero = refl;
  index_past = refl;
  late_size = refl;
  large_size = refl;
  evicted = refl;
  sizes = refl;
  added = refl;
  newest = refl;
  past_newest = refl;
  never_indexed = refl;
}
