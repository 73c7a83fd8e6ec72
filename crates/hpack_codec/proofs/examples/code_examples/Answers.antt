use Rattle.std.proofs.Common.{refl}
use Rattle.hpack_codec.specs.HuffmanCodes.{code_of, huffman_codes}
use Rattle.hpack_codec.proofs.examples.code_examples.Goals as goal

pub returns : goal.returns
unfolding code_of huffman_codes
returns c = record {
  digit_zero = refl;
  letter_a = refl;
  letter_upper_z = refl;
  nul = refl;
  end = refl;
}
