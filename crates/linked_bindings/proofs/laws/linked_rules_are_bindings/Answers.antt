use Rattle.linked_bindings.proofs.LinkedRules.{linked_is}
use Rattle.linked_bindings.proofs.laws.linked_rules_are_bindings.Goals as goal

pub returns : goal.returns
returns c = linked_is c.numbers_are_those_that_lead.ensures.found
