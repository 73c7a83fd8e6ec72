use Rattle.std.proofs.Common.{refl}
use Rattle.hpack_codec.specs.Huffman.{huffman_text}
use Rattle.hpack_codec.proofs.examples.huffman_examples.Goals as goal

pub returns : goal.returns
unfolding huffman_text
returns c = record {
  address = refl;
  no_cache = refl;
  seven_ones = refl;
  empty = refl;
  eight_ones = refl;
  zero_in_rest = refl;
  three_ones = refl;
  end_of_string = refl;
}
