use Rattle.field_binding.proofs.MessageLemmas.{empty_is_valid}
use Rattle.field_binding.proofs.message.bind_body.Goals as goal

pub apply-requires-clause-valid : goal.apply-requires-clause-valid
apply-requires-clause-valid c = empty_is_valid _ _ _ c.new-empty.ensures
