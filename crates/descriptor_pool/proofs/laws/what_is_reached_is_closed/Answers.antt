use Rattle.descriptor_pool.proofs.ReachedLaws.{reach_closed}
use Rattle.descriptor_pool.proofs.laws.what_is_reached_is_closed.Goals as goal

pub returns : goal.returns
returns c = reach_closed
