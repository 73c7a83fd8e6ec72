use Rattle.hpack_codec.proofs.HuffmanSteps.{byte_is}
use Rattle.hpack_codec.proofs.huffman.byte_step.Goals as goal

pub returns : goal.returns
returns c = byte_is c.args.state c.args.byte _ _ _ _ c.step-first.ensures c.step-second.ensures
