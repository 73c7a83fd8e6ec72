use Rattle.field_binding.proofs.MessageLemmas.{one_message}
use Rattle.field_binding.proofs.laws.one_request_message.Goals as goal

pub returns : goal.returns
returns c = one_message c.one_value_is_set.ensures.all
