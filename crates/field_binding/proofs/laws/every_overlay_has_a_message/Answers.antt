use Rattle.field_binding.proofs.MessageLemmas.{some_message}
use Rattle.field_binding.proofs.laws.every_overlay_has_a_message.Goals as goal

pub returns : goal.returns
returns c api index a linked h = some_message c.what_fits_is_set.ensures api index a linked.types h
