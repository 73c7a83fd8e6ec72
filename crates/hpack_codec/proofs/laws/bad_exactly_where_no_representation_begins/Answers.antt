use Rattle.hpack_codec.proofs.BlockEnds.{bad_at}
use Rattle.hpack_codec.proofs.laws.bad_exactly_where_no_representation_begins.Goals as goal

pub returns : goal.returns
returns c = bad_at
