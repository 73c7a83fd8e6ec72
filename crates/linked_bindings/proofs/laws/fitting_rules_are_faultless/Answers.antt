use Rattle.linked_bindings.proofs.FittingRules.{faultless_fitting, fitting_faultless}
use Rattle.linked_bindings.proofs.laws.fitting_rules_are_faultless.Goals as goal

pub returns-clause-faultless : goal.returns-clause-faultless
returns-clause-faultless c = fitting_faultless c.numbers_are_those_that_lead.ensures.all

pub returns-clause-fitting : goal.returns-clause-fitting
returns-clause-fitting c = faultless_fitting c.numbers_are_those_that_lead.ensures.found
