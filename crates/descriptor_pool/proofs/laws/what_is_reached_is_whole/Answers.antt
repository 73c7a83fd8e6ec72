use Rattle.descriptor_pool.proofs.QueueLaws.{enums_whole, queue_whole}
use Rattle.descriptor_pool.proofs.laws.what_is_reached_is_whole.Goals as goal

pub returns : goal.returns
returns c = record { messages = queue_whole; enums = enums_whole }
