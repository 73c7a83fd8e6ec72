use Rattle.hpack_codec.proofs.TableBounds.{blocks_within, first_within}
use Rattle.hpack_codec.proofs.laws.tables_stay_within_their_size.Goals as goal

pub returns-clause-first : goal.returns-clause-first
returns-clause-first c = first_within

pub returns-clause-blocks : goal.returns-clause-blocks
returns-clause-blocks c = blocks_within
