use Rattle.descriptor_pool.proofs.ReasonLaws.{has_reasons}
use Rattle.descriptor_pool.proofs.laws.messages_named.Goals as goal

pub returns : goal.returns
returns c = has_reasons
