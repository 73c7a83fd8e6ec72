use Rattle.std.proofs.Common.{refl}
use Rattle.hpack_codec.specs.Huffman.{huffman_text}
use Rattle.hpack_codec.proofs.examples.string_examples.Goals as goal

pub returns : goal.returns
unfolding huffman_text
returns c = record { plain = refl; coded = refl }
