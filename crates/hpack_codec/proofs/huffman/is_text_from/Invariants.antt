use Rattle.std.proofs.Common.{◌≡◌, drop}
use Rattle.std.specs.Option.{is_some}
use Rattle.hpack_codec.specs.Huffman.{bits_of, text_from}
use Rattle.hpack_codec.specs.HuffmanStates.{state_of}
use Rattle.hpack_codec.proofs.huffman.is_text_from.Given as goal

abbrev pub invariant-loop-byte : goal.invariant-loop-byte
invariant-loop-byte l = is_some (text_from (state_of l.start) (bits_of l.coded)) ≡ is_some (text_from (state_of l.state) (bits_of (drop l.byte-index l.coded)))
