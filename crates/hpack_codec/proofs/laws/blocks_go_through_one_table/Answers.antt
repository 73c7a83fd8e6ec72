use Rattle.hpack_codec.proofs.ConnectionLemmas.{calls_tell}
use Rattle.hpack_codec.proofs.laws.blocks_go_through_one_table.Goals as goal

pub returns : goal.returns
returns c = calls_tell
