use Rattle.linked_bindings.proofs.FaultlessRules.{faultless_linked, linked_faultless, faultless_apart}
use Rattle.linked_bindings.proofs.laws.faultless_rules_are_linked.Goals as goal

pub returns-clause-linked : goal.returns-clause-linked
returns-clause-linked c = faultless_linked

pub returns-clause-faultless : goal.returns-clause-faultless
returns-clause-faultless c = linked_faultless

pub returns-clause-apart : goal.returns-clause-apart
returns-clause-apart c = faultless_apart
