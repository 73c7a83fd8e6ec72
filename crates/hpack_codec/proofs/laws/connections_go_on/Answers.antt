use Rattle.hpack_codec.proofs.ConnectionLemmas.{all_listed, blocks_go_on}
use Rattle.hpack_codec.proofs.laws.connections_go_on.Goals as goal

pub returns-clause-joined : goal.returns-clause-joined
returns-clause-joined c = blocks_go_on

pub returns-clause-lists : goal.returns-clause-lists
returns-clause-lists c = all_listed
