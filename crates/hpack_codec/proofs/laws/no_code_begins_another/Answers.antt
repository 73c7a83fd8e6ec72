use Rattle.hpack_codec.proofs.HuffmanCodeLemmas.{prefix_free}
use Rattle.hpack_codec.proofs.laws.no_code_begins_another.Goals as goal

pub returns : goal.returns
returns c = prefix_free
