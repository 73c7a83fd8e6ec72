use Rattle.hpack_codec.proofs.EvictionLemmas.{evicted_is, added_is, resized_is}
use Rattle.hpack_codec.proofs.laws.tables_evict_from_the_end.Goals as goal

pub returns-clause-evicted : goal.returns-clause-evicted
returns-clause-evicted c = evicted_is

pub returns-clause-added : goal.returns-clause-added
returns-clause-added c = added_is

pub returns-clause-resized : goal.returns-clause-resized
returns-clause-resized c = resized_is
