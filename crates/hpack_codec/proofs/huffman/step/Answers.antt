use Rattle.std.proofs.Common.{arith}
use Rattle.hpack_codec.proofs.HuffmanSteps.{step_is}
use Rattle.hpack_codec.proofs.huffman.step.Goals as goal

pub returns : goal.returns
returns c = step_is c.args.state c.args.four (omega arith) c.requires
