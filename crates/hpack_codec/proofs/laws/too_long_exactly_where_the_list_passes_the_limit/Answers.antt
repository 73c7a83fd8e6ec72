use Rattle.hpack_codec.proofs.BlockEnds.{passes_limit}
use Rattle.hpack_codec.proofs.laws.too_long_exactly_where_the_list_passes_the_limit.Goals as goal

pub returns : goal.returns
returns c = passes_limit
