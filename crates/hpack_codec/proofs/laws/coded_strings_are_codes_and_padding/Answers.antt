use Rattle.hpack_codec.proofs.HuffmanCodeLemmas.{coded_is}
use Rattle.hpack_codec.proofs.laws.coded_strings_are_codes_and_padding.Goals as goal

pub returns : goal.returns
returns c = coded_is
