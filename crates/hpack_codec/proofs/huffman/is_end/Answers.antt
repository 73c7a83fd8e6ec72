use Rattle.std.proofs.Common.{arith}
use Rattle.hpack_codec.proofs.HuffmanSteps.{end_is}
use Rattle.hpack_codec.proofs.huffman.is_end.Goals as goal

pub returns : goal.returns
returns c = end_is c.args.state (omega arith)
